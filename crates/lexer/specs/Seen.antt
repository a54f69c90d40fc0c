-- What is seen of a line from a place on.
use Rattle.std.specs.Prelude.{◌≡◌, ℕ, ◌<◌, ◌≤◌, Bool, true, false, List, [], ◌∷◌, length}
use Rattle.lexer.specs.Tokens.{left, piece, next}
use Rattle.lexer.specs.Kinds.{token_of}
use Rattle.lexer.specs.declared.reader.Seen.{Seen}
use Rattle.lexer.specs.declared.token.Token.{Token}
use Rattle.lexer.specs.declared.token.Token.TheVariants.{Use, Kind, Rec, Def, Let, In, If, Then, Else, Num, Bool as TypeBool, Open, Close, Comma, Gets, Dot, Sign, Number, BadNumber, Name, Other, End}

-- from a place of the line on, the next piece stands between these two places, and what is behind it is left
pub record NextAt (line : List ℕ) (at from to : ℕ) : Type 0 where
  pub onward : at ≤ from
  pub some_bytes : from < to
  pub within : to ≤ length line
  pub reads : left line at ≡ piece line from to ∷ left line to

-- no piece is left from a place on: nothing stands between the two places
pub record NoneAt (line : List ℕ) (at from to : ℕ) : Type 0 where
  pub from_is : from ≡ at
  pub to_is : to ≡ at
  pub reads : left line at ≡ []

-- whether a token stands for no piece
abbrev pub is_end : Token → Bool
is_end Use = false
is_end Kind = false
is_end Rec = false
is_end Def = false
is_end Let = false
is_end In = false
is_end If = false
is_end Then = false
is_end Else = false
is_end Num = false
is_end TypeBool = false
is_end Open = false
is_end Close = false
is_end Comma = false
is_end Gets = false
is_end Dot = false
is_end (Sign o) = false
is_end Number = false
is_end BadNumber = false
is_end Name = false
is_end Other = false
is_end End = true

-- where it stands, by whether it is the end
abbrev pub StandsIf : Bool → List ℕ → ℕ → ℕ → ℕ → Type 0
StandsIf true line at from to = NoneAt line at from to
StandsIf false line at from to = NextAt line at from to

-- where a token stands: it is the next piece, between the two places, or else the end
abbrev pub Stands : Token → List ℕ → ℕ → ℕ → ℕ → Type 0
Stands t line at from to = StandsIf (is_end t) line at from to

-- what is seen is the next piece: its token, and where it stands
pub record SeenSays (line : List ℕ) (at : ℕ) (s : Seen) : Type 0 where
  pub token : s.token ≡ token_of (next (left line at))
  pub place : Stands s.token line at s.from s.to
