-- Lines one behind the other: where each begins, and how long they are together.
use Rattle.std.specs.Prelude.{◌≡◌, ℕ, ◌+◌, List, [], ◌∷◌, length}
use Rattle.lexer.specs.Tokens.{Line}

-- the first begins at s, and each behind the end of the one before
abbrev pub Follows : ℕ → List Line → Type 0
Follows s [] = Unit {0}
Follows s (l ∷ ls) = (l.start ≡ s) × Follows (1 + (s + length l.bytes)) ls

-- bytes of lines, each with its end
abbrev pub spread : List Line → ℕ
spread [] = 0
spread (l ∷ ls) = (1 + length l.bytes) + spread ls
