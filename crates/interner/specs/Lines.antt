-- A text as the bytes of its lines, and the text again: the lines with a byte 10 between them.
use Rattle.std.specs.Prelude.{ℕ, ◌+◌, Bool, true, false, ◌&&◌, List, [], ◌∷◌, ◌++◌, length, ◌==◌}
use Rattle.base.specs.Base.{pick}
use Rattle.lexer.specs.Tokens.{Line}

-- lines without their places
abbrev pub bodies : List Line → List (List ℕ)
bodies [] = []
bodies (l ∷ ls) = l.bytes ∷ bodies ls

-- a text cut into them; acc is what the first line has so far
abbrev pub cuts : List ℕ → List ℕ → List (List ℕ)
cuts acc [] = acc ∷ []
cuts acc (c ∷ cs) = pick (c == 10) (acc ∷ cuts [] cs) (cuts (acc ++ (c ∷ [])) cs)

-- and with their places again
abbrev pub placed : ℕ → List (List ℕ) → List Line
placed s [] = []
placed s (l ∷ ls) = record { start = s; bytes = l } ∷ placed (1 + (s + length l)) ls

-- each line with a 10 before it; each with a 10 behind it; lines with a 10 between
abbrev pub tails : List (List ℕ) → List ℕ
tails [] = []
tails (l ∷ ls) = 10 ∷ (l ++ tails ls)

abbrev pub fronts : List (List ℕ) → List ℕ
fronts [] = []
fronts (l ∷ ls) = l ++ (10 ∷ fronts ls)

abbrev pub joined : List (List ℕ) → List ℕ
joined [] = []
joined (l ∷ ls) = l ++ tails ls

-- no byte 10
abbrev pub plain : List ℕ → Bool
plain [] = true
plain (c ∷ cs) = pick (c == 10) false (plain cs)

abbrev pub plains : List (List ℕ) → Bool
plains [] = true
plains (l ∷ ls) = plain l && plains ls

-- something holds of each number of a list
abbrev pub Every : (ℕ → Type 0) → List ℕ → Type 0
Every P [] = Unit {0}
Every P (n ∷ ns) = P n × Every P ns
