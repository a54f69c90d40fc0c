-- The lines of a text that are gone over.
use Rattle.std.specs.Prelude.{ℕ, List, [], ◌∷◌}
use Rattle.lexer.specs.Tokens.{Line}
use Rattle.lexer.specs.Lines.{lines_from}

-- of a last line: none, if it is empty
abbrev pub last_row : List ℕ → List (List ℕ)
last_row [] = []
last_row (c ∷ cs) = (c ∷ cs) ∷ []

-- the bytes of each of these lines; an empty one at the very end is none
abbrev pub rows : List Line → List (List ℕ)
rows [] = []
rows (l ∷ []) = last_row l.bytes
rows (l ∷ m ∷ ls) = l.bytes ∷ rows (m ∷ ls)

-- those from a place on at which a line begins
abbrev pub rows_from : List ℕ → ℕ → List (List ℕ)
rows_from text at = rows (lines_from text at)
