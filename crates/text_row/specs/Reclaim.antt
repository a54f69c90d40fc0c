-- The same texts in the other half, without what no file has, and back in the first.
use Rattle.std.specs.Prelude.{◌≡◌, ℕ, ◌+◌, ◌*◌, ◌<◌, ◌≤◌, List, length}
use Rattle.semantics.specs.Answers.{weigh_texts}
use Rattle.text_row.specs.Row.{table, half}
use Rattle.interner.specs.Index.{Same}
use Rattle.interner.specs.Index.{count, end, pool, Sound, Grown, Pooled}
use Rattle.text_row.specs.Files.{texts, file_at, FileOk, Fits}

-- the file at p of the half at a can be moved to the half at b: there is room for it, also from w on, to work in
pub record CanMove (v a b p w : ℕ) (m : List ℕ) : Type 0 where
  pub small : length m < 4294967296
  pub apart : a + 9 * v ≤ b
  pub above : b + 9 * v ≤ w
  pub sound : Sound v (2 * v) (half v a m)
  pub ok : FileOk v (2 * v) (half v a m) p
  pub other : Sound v (2 * v) (half v b m)
  pub name_work : w + length (file_at v (half v a m) p).name ≤ length m
  pub text_work : w + 2 * length (file_at v (half v a m) p).text + 1 ≤ length m
  pub numbers : count (half v b m) + length (file_at v (half v a m) p).text + 2 ≤ 2 * v
  pub room : end (half v b m) + length (file_at v (half v a m) p).name + 2 * length (file_at v (half v a m) p).text + 6 ≤ 9 * v

-- its record stands at r there
pub record MoveSays (v a b p w : ℕ) (m m' : List ℕ) (r : ℕ) : Type 0 where
  pub sound : Sound v (2 * v) (half v b m')
  pub grown : Grown v (half v b m) (half v b m')
  pub pooled : Pooled v (2 * v) (half v b m) (half v b m')
  pub ok : FileOk v (2 * v) (half v b m') r
  pub same : file_at v (half v b m') r ≡ file_at v (half v a m) p
  pub end_most : end (half v b m') ≤ end (half v b m) + length (file_at v (half v a m) p).name + 2 * length (file_at v (half v a m) p).text + 6
  pub count_most : count (half v b m') ≤ count (half v b m) + length (file_at v (half v a m) p).text + 2
  pub below : Same 0 b m m'
  pub above : Same (b + 9 * v) w m m'

-- a table at t, a half at a in use and one at b that isn't, and from w on words to work in, enough for what the texts weigh
pub record CanReclaim (v t a b w : ℕ) (m : List ℕ) : Type 0 where
  pub small : length m < 4294967296
  pub table_below : t + v ≤ a
  pub apart : a + 9 * v ≤ b
  pub above : b + 9 * v ≤ w
  pub fits : Fits v (2 * v) (table v t m) (half v a m)
  pub numbers : weigh_texts (texts v (table v t m) (half v a m)) + 1 ≤ 2 * v
  pub room : 2 * weigh_texts (texts v (table v t m) (half v a m)) + 2 ≤ 4 * v
  pub work : w + 2 * weigh_texts (texts v (table v t m) (half v a m)) ≤ length m

-- the same texts, now in the half at c, which has no more than they need
pub record Reclaimed (v t a b w c : ℕ) (m m' : List ℕ) : Type 0 where
  pub fits : Fits v (2 * v) (table v t m') (half v c m')
  pub same : texts v (table v t m') (half v c m') ≡ texts v (table v t m) (half v a m)
  pub end_most : end (half v c m') ≤ pool v (2 * v) + 2 * weigh_texts (texts v (table v t m) (half v a m))
  pub count_most : count (half v c m') ≤ 1 + weigh_texts (texts v (table v t m) (half v a m))
  pub below : Same 0 t m m'
  pub above : Same (b + 9 * v) w m m'
