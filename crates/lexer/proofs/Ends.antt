-- Where the last piece ends, while the pieces are read.
use Rattle.std.proofs.Common.{ℕ, List, [], ◌∷◌}
use Rattle.lexer.specs.Tokens.{Tok, end_of}

-- where the last of these ends, or else a place that is known
abbrev pub last_from : ℕ → List Tok → ℕ
last_from d [] = d
last_from d (t ∷ ts) = end_of (t ∷ ts)
