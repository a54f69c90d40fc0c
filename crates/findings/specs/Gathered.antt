-- Faults gathered from lines: four words each, from a place q on: where its line begins, from, behind, its number.
use Rattle.std.specs.Prelude.{◌≡◌, ℕ, zero, suc, ◌+◌, ◌*◌, ◌≤◌, List, [], ◌∷◌, ◌++◌, length, take, slice_index, slice_set}
use Rattle.semantics.specs.Answers.{fault_words}
use Rattle.findings.specs.Said.{faults_read}

-- the three numbers of the fault in four words: its place counted from the file's beginning
abbrev pub three : ℕ → ℕ → ℕ → ℕ → List ℕ
three s a b x = (s + a) ∷ (s + b) ∷ x ∷ []

abbrev pub three_at : List ℕ → ℕ → List ℕ
three_at vs i = three (slice_index vs i) (slice_index vs (i + 1)) (slice_index vs (i + 2)) (slice_index vs (i + 3))

-- the numbers of n of them
abbrev pub gathered : List ℕ → ℕ → ℕ → List ℕ
gathered vs q zero = []
gathered vs q (suc n) = gathered vs q n ++ three_at vs (q + 4 * n)

-- four words written
abbrev pub four : List ℕ → ℕ → ℕ → ℕ → ℕ → ℕ → List ℕ
four ws i s a b x = slice_set (slice_set (slice_set (slice_set ws i s) (i + 1) a) (i + 2) b) (i + 3) x

-- faults of a line that begins at s, put behind n that were gathered, in the part before what was said of it: there are m after i
-- things. ws is the row before, vs that part now
pub record Gathering (ws : List ℕ) (at1 s q n : ℕ) (vs : List ℕ) (m i : ℕ) : Type 0 where
  pub long : length vs ≡ at1
  pub front : take q vs ≡ take q ws
  pub adds : gathered vs q m ≡ gathered ws q n ++ fault_words s (faults_read ws at1 i)
  pub few : m ≤ n + i
