-- What a token isn't, as tests on it.
use Rattle.std.proofs.Common.{◌≡◌, ℕ, false, refl}
use mathlib.Core.Option.{none}
use Rattle.lexer.specs.declared.token.Operator.{Operator}
use Rattle.lexer.specs.declared.token.Token.{Token}
use Rattle.lexer.specs.declared.token.Token.TheVariants.{Let, In, If, Then, Else, Open, Close, Comma, Gets, Dot, Sign, Number, Name}
use Rattle.lexer.proofs.Facts.{is_let, is_if, is_in, is_then, is_else, is_open, is_close, is_comma, is_gets, is_dot, is_named, is_digits, op_in}

pub not_let : (t : Token) → (t ≡ Let → ⊥) → is_let t ≡ false
not_let Let h = absurd (h refl)
not_let _ h = refl

pub not_if : (t : Token) → (t ≡ If → ⊥) → is_if t ≡ false
not_if If h = absurd (h refl)
not_if _ h = refl

pub not_in : (t : Token) → (t ≡ In → ⊥) → is_in t ≡ false
not_in In h = absurd (h refl)
not_in _ h = refl

pub not_then : (t : Token) → (t ≡ Then → ⊥) → is_then t ≡ false
not_then Then h = absurd (h refl)
not_then _ h = refl

pub not_else : (t : Token) → (t ≡ Else → ⊥) → is_else t ≡ false
not_else Else h = absurd (h refl)
not_else _ h = refl

pub not_open : (t : Token) → (t ≡ Open → ⊥) → is_open t ≡ false
not_open Open h = absurd (h refl)
not_open _ h = refl

pub not_close : (t : Token) → (t ≡ Close → ⊥) → is_close t ≡ false
not_close Close h = absurd (h refl)
not_close _ h = refl

pub not_comma : (t : Token) → (t ≡ Comma → ⊥) → is_comma t ≡ false
not_comma Comma h = absurd (h refl)
not_comma _ h = refl

pub not_gets : (t : Token) → (t ≡ Gets → ⊥) → is_gets t ≡ false
not_gets Gets h = absurd (h refl)
not_gets _ h = refl

pub not_dot : (t : Token) → (t ≡ Dot → ⊥) → is_dot t ≡ false
not_dot Dot h = absurd (h refl)
not_dot _ h = refl

pub not_name : (t : Token) → (t ≡ Name → ⊥) → is_named t ≡ false
not_name Name h = absurd (h refl)
not_name _ h = refl

pub not_sign : (j : ℕ) (t : Token) → ((o : Operator) → t ≡ Sign o → ⊥) → op_in j t ≡ none
not_sign j (Sign o) h = absurd (h o refl)
not_sign j _ h = refl

pub not_digits : (t : Token) → (t ≡ Number → ⊥) → is_digits t ≡ false
not_digits Number h = absurd (h refl)
not_digits _ h = refl
