-- The lines of a text from a place on.
use Rattle.std.specs.Prelude.{◌≡◌, ℕ, ◌+◌, ◌-◌, ◌≤◌, Bool, not, ◌==◌, List, [], ◌∷◌, length, take, drop, nat_lt}
use Rattle.base.specs.Base.{pick}
use Rattle.lexer.specs.Tokens.{Line, cut}

-- the lines from a place on at which a line begins: from 0 on they are all lines of the text
abbrev pub lines_from : List ℕ → ℕ → List Line
lines_from text at = cut at [] (drop at text)

-- the line between two places
abbrev pub line_of : List ℕ → ℕ → ℕ → Line
line_of text from to = record { start = from; bytes = take (to - from) (drop from text) }

-- the lines behind one that ends at a place: none where the text ends there too
abbrev pub lines_behind : List ℕ → ℕ → List Line
lines_behind text to = pick (nat_lt to (length text)) (lines_from text (to + 1)) []

-- the line that begins at one place ends at the other
pub record LineEnds (text : List ℕ) (from to : ℕ) : Type 0 where
  pub onward : from ≤ to
  pub within : from ≤ length text → to ≤ length text
  pub cuts : lines_from text from ≡ line_of text from to ∷ lines_behind text to

-- a byte that doesn't end a line
abbrev pub goes_on : ℕ → Bool
goes_on c = not (c == 10)
