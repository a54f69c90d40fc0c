-- What the interner promises: which bytes a number stands for. m is the row before, m' the row after.
use Rattle.std.specs.Prelude.{ℕ, ◌+◌, ◌*◌, ◌<◌, ◌≤◌, List, length}
use Rattle.std.specs.List.{between}
use Rattle.text_row.specs.Row.{half}
use Rattle.interner.specs.Interner.{Interned}
use Rattle.interner.specs.Numbers.{Numbered}
use Rattle.interner.specs.Index.{Same}
use Rattle.interner.specs.Index.{count, end, Sound}

-- bytes that stand above a half of the row can get a number there
pub record CanIntern (v a from n : ℕ) (m : List ℕ) : Type 0 where
  pub small : length m < 4294967296
  pub above : a + 9 * v ≤ from
  pub key_in : from + n ≤ length m
  pub sound : Sound v (2 * v) (half v a m)
  pub number : count (half v a m) < 2 * v
  pub room : end (half v a m) + 1 + n ≤ 9 * v

-- they have the number r, and the rest of the row stays
pub record InternSays (v a from n : ℕ) (m m' : List ℕ) (r : ℕ) : Type 0 where
  pub interned : Interned v (2 * v) (half v a m) (between from (from + n) m) (half v a m') r
  pub below : Same 0 a m m'
  pub above : Same (a + 9 * v) (length m) m m'

-- a text of n words above a half of the row, and behind it room for its numbers
pub record CanNumber (v a text n out : ℕ) (m : List ℕ) : Type 0 where
  pub small : length m < 4294967296
  pub above : a + 9 * v ≤ text
  pub behind : text + n ≤ out
  pub out_in : out + n + 1 ≤ length m
  pub sound : Sound v (2 * v) (half v a m)
  pub numbers : count (half v a m) + n + 1 ≤ 2 * v
  pub room : end (half v a m) + n + 1 ≤ 9 * v

-- its lines have numbers, and those stand there
pub record NumberSays (v a text n out : ℕ) (m m' : List ℕ) (k : ℕ) : Type 0 where
  pub numbered : Numbered v (2 * v) (half v a m) (between text (text + n) m) (half v a m') (between out (out + k) m')
  pub few : k ≤ n + 1
  pub below : Same 0 a m m'
  pub above : Same (a + 9 * v) out m m'
