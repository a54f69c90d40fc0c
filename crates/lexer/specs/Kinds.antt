-- The kind of a piece, by its word: what the code's Token stands for.
use Rattle.std.specs.Prelude.{ℕ, [], ◌∷◌}
use Rattle.base.specs.Base.{pick, Word, same}
use Rattle.lexer.specs.Tokens.{letter}
use Rattle.lexer.specs.Words.{k_use, k_kind, k_rec, k_def, k_let, k_in, k_if, k_then, k_else, k_and, k_or, k_num, k_bool, t_lp, t_rp, t_comma, t_gets, t_is, t_less, t_plus, t_minus, t_times, t_dot, is_number, digits}
use Rattle.lexer.specs.declared.token.Operator.{Operator}
use Rattle.lexer.specs.declared.token.Operator.TheVariants.{Plus, Minus, Times, Equal, Less, And, Or}
use Rattle.lexer.specs.declared.token.Token.{Token}
use Rattle.lexer.specs.declared.token.Token.TheVariants.{Use, Kind, Rec, Def, Let, In, If, Then, Else, Num, Bool as TypeBool, Open, Close, Comma, Gets, Dot, Sign, Number, BadNumber, Name, Other, End}

-- an operator's number
abbrev pub operator : Operator → ℕ
operator Plus = 0
operator Minus = 1
operator Times = 2
operator Equal = 3
operator Less = 4
operator And = 5
operator Or = 6

-- the level at which it stands
abbrev pub level_of : Operator → ℕ
level_of Plus = 4
level_of Minus = 4
level_of Times = 5
level_of Equal = 3
level_of Less = 3
level_of And = 2
level_of Or = 1

abbrev pub token_of : Word → Token
token_of [] = End
token_of (c ∷ cs) = let w = c ∷ cs in
    pick (same w k_use) Use (pick (same w k_kind) Kind (pick (same w k_rec) Rec (pick (same w k_def) Def
    (pick (same w k_let) Let (pick (same w k_in) In (pick (same w k_if) If (pick (same w k_then) Then (pick (same w k_else) Else
    (pick (same w k_and) (Sign And) (pick (same w k_or) (Sign Or) (pick (same w k_num) Num (pick (same w k_bool) TypeBool
    (pick (same w t_lp) Open (pick (same w t_rp) Close (pick (same w t_comma) Comma (pick (same w t_gets) Gets (pick (same w t_dot) Dot
    (pick (same w t_is) (Sign Equal) (pick (same w t_less) (Sign Less) (pick (same w t_plus) (Sign Plus) (pick (same w t_minus) (Sign Minus) (pick (same w t_times) (Sign Times)
    (pick (is_number w) (pick (digits w) Number BadNumber) (pick (letter c) Name Other))))))))))))))))))))))))
