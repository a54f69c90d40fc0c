-- What is wanted of a piece, asked of its token.
use Rattle.std.proofs.Common.{◌≡◌, ℕ, Bool, true, false, List, [], ◌∷◌, sym, refl, ap, ◌∙◌}
use mathlib.Core.Bool.{false≢true}
use Rattle.base.specs.Base.{pick, Word}
use Rattle.lexer.specs.Tokens.{Tok, left, piece, next}
use Rattle.lexer.specs.Kinds.{token_of}
use Rattle.lexer.specs.Seen.{SeenSays, StandsIf, NextAt, is_end}
use Rattle.lexer.specs.declared.reader.Seen.{Seen}
use Rattle.lexer.specs.declared.token.Token.{Token}
use Rattle.lexer.specs.declared.token.Token.TheVariants.{Num, Bool as TypeBool, Open, Close, Comma, Gets, Name, End}
use Rattle.lexer.proofs.Facts.{facts, is_named, is_typed, is_gets, is_open, is_close, is_comma}
use Rattle.grammar.specs.Grammar.{it, bad, a_word}
use Rattle.syntax.specs.Wanted.{wants, fits}
use Rattle.syntax.specs.Reads.{word}
use Rattle.syntax.specs.declared.wanted.Wanted.{Wanted}
use Rattle.syntax.specs.declared.wanted.Wanted.TheVariants.{Name as AName, TypeWord as AType, Gets as AGets, Open as AOpen, Close as AClose, Comma as AComma}

fits_name : (t : Token) → is_named t ≡ fits AName t
fits_name Name = refl
fits_name _ = refl

fits_type : (t : Token) → is_typed t ≡ fits AType t
fits_type Num = refl
fits_type TypeBool = refl
fits_type Name = refl
fits_type _ = refl

fits_gets : (t : Token) → is_gets t ≡ fits AGets t
fits_gets Gets = refl
fits_gets _ = refl

fits_open : (t : Token) → is_open t ≡ fits AOpen t
fits_open Open = refl
fits_open _ = refl

fits_close : (t : Token) → is_close t ≡ fits AClose t
fits_close Close = refl
fits_close _ = refl

fits_comma : (t : Token) → is_comma t ≡ fits AComma t
fits_comma Comma = refl
fits_comma _ = refl

pub wants_fits : (k : Wanted) (w : Word) → wants k w ≡ fits k (token_of w)
wants_fits AName w = (facts w).name_is ∙ fits_name (token_of w)
wants_fits AType w = (facts w).type_is ∙ fits_type (token_of w)
wants_fits AGets w = (facts w).gets_is ∙ fits_gets (token_of w)
wants_fits AOpen w = (facts w).open_is ∙ fits_open (token_of w)
wants_fits AClose w = (facts w).close_is ∙ fits_close (token_of w)
wants_fits AComma w = (facts w).comma_is ∙ fits_comma (token_of w)

no_end : (k : Wanted) → fits k End ≡ false
no_end AName = refl
no_end AType = refl
no_end AGets = refl
no_end AOpen = refl
no_end AClose = refl
no_end AComma = refl

ends_end : (t : Token) → is_end t ≡ true → t ≡ End
ends_end End e = refl
ends_end _ e = absurd (false≢true e)

-- what is seen is what is wanted
module _ (k : Wanted) (line : List ℕ) (at : ℕ) (s : Seen) (h : SeenSays line at s) where
  pub seen_fits : wants k (next (left line at)) ≡ fits k s.token
  seen_fits = wants_fits k (next (left line at)) ∙ ap (fits k) (sym h.token)

  pub is_next : fits k s.token ≡ true → NextAt line at s.from s.to
  is_next e = go (is_end s.token) refl h.place
    where
      go : (b : Bool) → is_end s.token ≡ b → StandsIf b line at s.from s.to → NextAt line at s.from s.to
      go true p q = absurd (false≢true (sym (no_end k) ∙ ap (fits k) (sym (ends_end s.token p)) ∙ e))
      go false p q = q

  pub taken : fits k s.token ≡ true → word k (left line at) ≡ it (piece line s.from s.to) (left line s.to)
  taken e =
      let n = is_next e in
      let p : wants k (piece line s.from s.to).w ≡ true = ap (λ ts. wants k (next ts)) (sym n.reads) ∙ seen_fits ∙ e in
      ap (a_word (wants k)) n.reads ∙ ap (λ b. pick b (it (piece line s.from s.to) (left line s.to)) (bad (piece line s.from s.to ∷ left line s.to))) p

  pub refused : fits k s.token ≡ false → word k (left line at) ≡ bad (left line at)
  refused e = go (left line at) (seen_fits ∙ e)
    where
      go : (ts : List Tok) → wants k (next ts) ≡ false → word k ts ≡ bad ts
      go [] p = refl
      go (t ∷ ts) p = ap (λ b. pick b (it t ts) (bad (t ∷ ts))) p
