-- Words of a row: which of them were written, and what stands in them.
use Rattle.std.specs.Prelude.{◌≡◌, ℕ, ◌+◌, ◌<◌, ◌≤◌, List, length}
use Rattle.symbols.specs.Table.{word}
use Rattle.symbols.specs.declared.layout.Layout.{Layout}

-- only words between two places were written
pub record Wrote (from to : ℕ) (ws vs : List ℕ) : Type 0 where
  pub long : length vs ≡ length ws
  pub before : (i : ℕ) → i < from → word vs i ≡ word ws i
  pub behind : (i : ℕ) → to ≤ i → word vs i ≡ word ws i

-- of the words from the texts on to the room to work in, only those between two places were written
pub record Kept (l : Layout) (from to : ℕ) (ws vs : List ℕ) : Type 0 where
  pub long : length vs ≡ length ws
  pub before : (i : ℕ) → l.texts ≤ i → i < from → word vs i ≡ word ws i
  pub behind : (i : ℕ) → to ≤ i → i < l.work → word vs i ≡ word ws i

-- these words stand there
pub record Held (ws : List ℕ) («at» : ℕ) (xs : List ℕ) : Type 0 where
  pub within : «at» + length xs ≤ length ws
  pub reads : (j : ℕ) → j < length xs → word ws («at» + j) ≡ word xs j
