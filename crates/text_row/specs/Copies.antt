-- Bytes and texts laid out in the row above what is kept: what stands there then.
use Rattle.std.specs.Prelude.{◌≡◌, ℕ, ◌+◌, ◌*◌, ◌≤◌, List, length, slice_index}
use Rattle.std.specs.List.{between}
use Rattle.text_row.specs.Row.{half}
use Rattle.interner.specs.Index.{Same}
use Rattle.interner.specs.Index.{bytes, Sound, Live}
use Rattle.text_row.specs.Files.{file_at, FileOk}

-- bytes from a place on
pub record WidenSays (to : ℕ) (xs m m' : List ℕ) : Type 0 where
  pub there : between to (to + length xs) m' ≡ xs
  pub below : Same 0 to m m'
  pub above : Same (to + length xs) (length m) m m'

-- the bytes that a number of a half stands for, up to r
pub record CanCopy (v a n to : ℕ) (m : List ℕ) : Type 0 where
  pub above : a + 9 * v ≤ to
  pub sound : Sound v (2 * v) (half v a m)
  pub live : Live v (half v a m) n
  pub room : to + length (bytes v (half v a m) n) ≤ length m

pub record CopySays (v a n to : ℕ) (m m' : List ℕ) (r : ℕ) : Type 0 where
  pub end_is : r ≡ to + length (bytes v (half v a m) n)
  pub there : between to r m' ≡ bytes v (half v a m) n
  pub below : Same 0 to m m'

-- the text of the file whose record stands at a place of a half
pub record CanWrite (v a p to : ℕ) (m : List ℕ) : Type 0 where
  pub above : a + 9 * v ≤ to
  pub sound : Sound v (2 * v) (half v a m)
  pub ok : FileOk v (2 * v) (half v a m) p
  pub room : to + slice_index (half v a m) (p + 1) ≤ length m

pub record WriteSays (v a p to : ℕ) (m m' : List ℕ) : Type 0 where
  pub there : between to (to + slice_index (half v a m) (p + 1)) m' ≡ (file_at v (half v a m) p).text
  pub below : Same 0 to m m'
