-- Files: records in the pool, and a table of their places in the order of opening.
--
--   word of the table   what stands there            word of a record   what stands there
--   0                   how many files               0                  the number of its name
--   1 ..                the place of each record     1                  how long its text is
--                                                    2                  how many lines
--                                                    3 ..               their numbers
--
-- A file that changes gets a new record; the old one, and lines that no file has, are garbage until all is moved to a fresh half.
use Rattle.std.specs.Prelude.{◌≡◌, ℕ, ◌+◌, ◌*◌, ◌<◌, ◌≤◌, List, ◌∷◌, ◌++◌, map, length, take, drop, Some, None, Option as Perhaps, slice_index, slice_index_or}
use Rattle.std.proofs.Math.Option.{some, none}
use Rattle.std.specs.List.{between}
use Rattle.lexer.specs.Tokens.{lines}
use Rattle.semantics.specs.Names.{File, Texts, find_file}
use Rattle.semantics.specs.Answers.{puts_file}
use Rattle.interner.specs.Lines.{bodies, Every}
use Rattle.interner.specs.Places.{entries, others}
use Rattle.interner.specs.Written.{text_of}
use Rattle.text_row.specs.Row.{table, half}
use Rattle.interner.specs.Index.{Same}
use Rattle.interner.specs.Index.{count, end, pool, bytes_at, bytes, Sound, Live, Grown, Pooled}

-- a file of that name with those lines, both by number
abbrev pub file_is : ℕ → List ℕ → ℕ → List ℕ → File
file_is nb m f ns = record { name = bytes nb m f; text = text_of nb m ns }

-- the file whose record stands at a place
abbrev pub file_at : ℕ → List ℕ → ℕ → File
file_at nb m p = file_is nb m (slice_index m p) (bytes_at m (p + 2))

-- the texts that the table stands for
abbrev pub texts : ℕ → List ℕ → List ℕ → Texts
texts nb t m = map (file_at nb m) (entries t)

-- numbers in use, and lines as they are cut from a text of that size
pub record Body (nb : ℕ) (m ns : List ℕ) (size : ℕ) : Type 0 where
  pub numbers : Every (Live nb m) ns
  pub size_is : size ≡ length (text_of nb m ns)
  pub lines_are : bodies (lines (text_of nb m ns)) ≡ map (bytes nb m) ns

-- a record is in order: it stands in the pool, and its numbers are in use
pub record FileOk (nb cap : ℕ) (m : List ℕ) (p : ℕ) : Type 0 where
  pub from_pool : pool nb cap ≤ p
  pub to_end : p + 3 + slice_index m (p + 2) ≤ end m
  pub name : Live nb m (slice_index m p)
  pub body : Body nb m (bytes_at m (p + 2)) (slice_index m (p + 1))

-- a table and a half are a store of texts
pub record Fits (nb cap : ℕ) (t m : List ℕ) : Type 0 where
  pub sound : Sound nb cap m
  pub in_table : 1 + slice_index t 0 ≤ length t
  pub all_ok : Every (FileOk nb cap m) (entries t)

-- a record behind all else in the pool
pub record Appended (nb cap : ℕ) (m : List ℕ) (name size : ℕ) (ns m' : List ℕ) (p : ℕ) : Type 0 where
  pub place_is : p ≡ end m
  pub sound : Sound nb cap m'
  pub grown : Grown nb m m'
  pub pooled : Pooled nb cap m m'
  pub name_is : slice_index_or m' p 0 ≡ name
  pub size_is : slice_index_or m' (p + 1) 0 ≡ size
  pub many_is : slice_index_or m' (p + 2) 0 ≡ length ns
  pub numbers_are : bytes_at m' (p + 2) ≡ ns
  pub long : length m' ≡ length m
  pub end_is : end m' ≡ end m + 3 + length ns
  pub counts : count m' ≡ count m

-- n numbers that stand above a half can go into a record there
pub record CanAppend (v a ns n : ℕ) (m : List ℕ) : Type 0 where
  pub small : length m < 4294967296
  pub above : a + 9 * v ≤ ns
  pub numbers_in : ns + n ≤ length m
  pub sound : Sound v (2 * v) (half v a m)
  pub room : end (half v a m) + 3 + n ≤ 9 * v

pub record AppendSays (v a name size ns n : ℕ) (m m' : List ℕ) (p : ℕ) : Type 0 where
  pub appended : Appended v (2 * v) (half v a m) name size (between ns (ns + n) m) (half v a m') p
  pub below : Same 0 a m m'
  pub above : Same (a + 9 * v) (length m) m m'

-- texts with a file in the k-th place; behind the last there is one more
abbrev pub placed : ℕ → File → Texts → Texts
placed k y p = take k p ++ (y ∷ drop (k + 1) p)

-- a record's place in the k-th place of a table
pub record EnlistSays (k p : ℕ) (t t' : List ℕ) : Type 0 where
  pub entries_are : entries t' ≡ take k (entries t) ++ (p ∷ drop (k + 1) (entries t))
  pub in_table : 1 + slice_index t' 0 ≤ length t'

-- the table at t and the half at a, above it, are a store, and the k-th file can get other lines or be added
pub record CanPut (v t a k f size ns n : ℕ) (m : List ℕ) : Type 0 where
  pub appends : CanAppend v a ns n m
  pub table_below : t + v ≤ a
  pub fits : Fits v (2 * v) (table v t m) (half v a m)
  pub there : k ≤ slice_index (table v t m) 0
  pub in_table : k + 2 ≤ v
  pub name : Live v (half v a m) f
  pub body : Body v (half v a m) (between ns (ns + n) m) size

pub record PutSays (v t a k f ns n : ℕ) (m m' : List ℕ) : Type 0 where
  pub fits : Fits v (2 * v) (table v t m') (half v a m')
  pub texts_are : texts v (table v t m') (half v a m') ≡ placed k (file_is v (half v a m) f (between ns (ns + n) m)) (texts v (table v t m) (half v a m))
  pub below : Same 0 t m m'
  pub middle : Same (t + v) a m m'
  pub above : Same (a + 9 * v) (length m) m m'

-- the file of a name stands in the k-th place, and another text for that name goes there
pub record Found (p : Texts) (name : List ℕ) (k : ℕ) : Type 0 where
  pub file : File
  pub there : k < length p
  pub place_is : slice_index_or p k file ≡ file
  pub named : file.name ≡ name
  pub first : find_file p name ≡ some file
  pub puts : (x : List ℕ) → puts_file name x p ≡ placed k (record { name = name; text = x }) p

-- the file of a name, if it is open
abbrev pub FileOfSays : Texts → List ℕ → Perhaps ℕ → Type 0
FileOfSays p name (Some k) = Found p name k
FileOfSays p name None = find_file p name ≡ none

-- the files whose name hasn't the number f are left in the table
pub record DropSays (v t a f : ℕ) (m m' : List ℕ) : Type 0 where
  pub fits : Fits v (2 * v) (table v t m') (half v a m)
  pub left : entries (table v t m') ≡ others (half v a m) f (entries (table v t m))
  pub below : Same 0 t m m'
  pub above : Same (t + v) (length m) m m'
