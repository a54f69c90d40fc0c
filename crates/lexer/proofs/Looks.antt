-- A piece of some bytes is never the end.
use Rattle.std.proofs.Common.{◌≡◌, ℕ, ◌-◌, ◌<◌, ◌≤◌, Bool, true, false, ◌||◌, List, [], ◌∷◌, length, take, drop, sym, refl, ap, ◌∙◌, subst, arith, length-drop, length-take}
use Rattle.std.proofs.lemmas.Bool.{or_parts}
use Rattle.base.specs.Base.{pick, Word, same}
use Rattle.lexer.specs.Tokens.{left, next, letter}
use Rattle.lexer.specs.Words.{k_use, k_kind, k_rec, k_def, k_let, k_in, k_if, k_then, k_else, k_and, k_or, k_num, k_bool, t_lp, t_rp, t_comma, t_gets, t_is, t_less, t_plus, t_minus, t_times, t_dot, is_number, digits}
use Rattle.lexer.specs.Kinds.{token_of}
use Rattle.lexer.specs.Seen.{NextAt, is_end, Stands, StandsIf}
use Rattle.lexer.specs.declared.token.Operator.TheVariants.{Plus, Minus, Times, Equal, Less, And, Or}
use Rattle.lexer.specs.declared.token.Token.{Token}
use Rattle.lexer.specs.declared.token.Token.TheVariants.{Use, Kind, Rec, Def, Let, In, If, Then, Else, Num, Bool as TypeBool, Open, Close, Comma, Gets, Dot, Sign, Number, BadNumber, Name, Other}

-- the first that passes its test, of some
abbrev choose : List (Bool × Token) → Token → Token
choose [] d = d
choose (p ∷ ps) d = pick p.0 p.1 (choose ps d)

abbrev some_end : List (Bool × Token) → Bool
some_end [] = false
some_end (p ∷ ps) = is_end p.1 || some_end ps

either : (b : Bool) (x y : Token) → is_end x ≡ false → is_end y ≡ false → is_end (pick b x y) ≡ false
either true x y p q = p
either false x y p q = q

chosen : (ps : List (Bool × Token)) (d : Token) → some_end ps ≡ false → is_end d ≡ false → is_end (choose ps d) ≡ false
chosen [] d n e = e
chosen (p ∷ ps) d n e =
    let parts = or_parts (is_end p.1) (some_end ps) n in
    either p.0 p.1 (choose ps d) parts.0 (chosen ps d parts.1 e)

never_end : (w : Word) → 0 < length w → is_end (token_of w) ≡ false
never_end [] h = absurd (omega (arith, h))
never_end (c ∷ cs) h =
    let w = c ∷ cs in
    chosen
    ((same w k_use, Use) ∷ (same w k_kind, Kind) ∷ (same w k_rec, Rec) ∷ (same w k_def, Def) ∷ (same w k_let, Let)
    ∷ (same w k_in, In) ∷ (same w k_if, If) ∷ (same w k_then, Then) ∷ (same w k_else, Else) ∷ (same w k_and, Sign And)
    ∷ (same w k_or, Sign Or) ∷ (same w k_num, Num) ∷ (same w k_bool, TypeBool) ∷ (same w t_lp, Open) ∷ (same w t_rp, Close)
    ∷ (same w t_comma, Comma) ∷ (same w t_gets, Gets) ∷ (same w t_dot, Dot) ∷ (same w t_is, Sign Equal) ∷ (same w t_less, Sign Less)
    ∷ (same w t_plus, Sign Plus) ∷ (same w t_minus, Sign Minus) ∷ (same w t_times, Sign Times) ∷ [])
    (pick (is_number w) (pick (digits w) Number BadNumber) (pick (letter c) Name Other))
    refl
    (either (is_number w) (pick (digits w) Number BadNumber) (pick (letter c) Name Other) (either (digits w) Number BadNumber refl refl) (either (letter c) Name Other refl refl))

part_long : (line : List ℕ) (from to : ℕ) → from < to → to ≤ length line → 0 < length (take (to - from) (drop from line))
part_long line from to l h = simp (length-take, length-drop) (omega arith)

-- the token of the next piece, and where it stands
pub token_there : (line : List ℕ) (at from to : ℕ) → NextAt line at from to → token_of (take (to - from) (drop from line)) ≡ token_of (next (left line at))
token_there line at from to n = ap (λ ts. token_of (next ts)) (sym n.reads)

pub stands_there : (line : List ℕ) (at from to : ℕ) (t : Token) → NextAt line at from to → t ≡ token_of (take (to - from) (drop from line)) → Stands t line at from to
stands_there line at from to t n e =
    let never = ap is_end e ∙ never_end (take (to - from) (drop from line)) (part_long line from to n.some_bytes n.within) in
    subst (λ b. StandsIf b line at from to) (sym never) n
