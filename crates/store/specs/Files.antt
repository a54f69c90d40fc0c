-- Files: records in the pool, and a table of their places in the order of opening.
--
--   word of the table   what stands there            word of a record   what stands there
--   0                   how many files               0                  the number of its name
--   1 ..                the place of each record     1                  how many lines
--                                                    2 ..               their numbers
--
-- A file that changes gets a new record; the old one, and lines that no file has, are garbage until all is moved to a fresh row.
use Rattle.std.specs.Prelude.{◌≡◌, ℕ, ◌+◌, ◌<◌, ◌≤◌, Bool, List, [], ◌∷◌, ◌++◌, map, length, Some, None, Option as Perhaps, Ok, Err, Result, slice_index, slice_index_or, slice_set}
use Rattle.std.proofs.Math.Option.{some, none}
use Rattle.base.specs.Base.{is_some}
use Rattle.semantics.specs.Names.{File, Texts, find_file}
use Rattle.semantics.specs.Answers.{puts_file, drops_file}
use Rattle.interner.specs.Lines.{joined, Every}
use Rattle.interner.specs.Index.{end, pool, bytes_at, bytes, Sound, Live, Grown, Pooled, NoMore}
use Rattle.interner.specs.Places.{entries, name_at}
use Rattle.interner.specs.declared.refused.NoRoom.{NoRoom}

-- a file of that name with those lines, both by number
abbrev pub file_is : ℕ → List ℕ → ℕ → List ℕ → File
file_is nb m f ns = record { name = bytes nb m f; text = joined (map (bytes nb m) ns) }

-- the file whose record stands at a place
abbrev pub file_at : ℕ → List ℕ → ℕ → File
file_at nb m p = file_is nb m (slice_index m p) (bytes_at m (p + 1))

-- the texts that the table stands for
abbrev pub texts : ℕ → List ℕ → List ℕ → Texts
texts nb t m = map (file_at nb m) (entries t)

-- a record is in order: it stands in the pool, and its numbers are in use
pub record FileOk (nb cap : ℕ) (m : List ℕ) (p : ℕ) : Type 0 where
  pub from_pool : pool nb cap ≤ p
  pub to_end : p + 1 + 1 + slice_index m (p + 1) ≤ end m
  pub name : Live nb m (slice_index m p)
  pub numbers : Every (Live nb m) (bytes_at m (p + 1))

-- a table and a row of words are a store of texts
pub record Fits (nb cap : ℕ) (t m : List ℕ) : Type 0 where
  pub sound : Sound nb cap m
  pub in_table : 1 + slice_index t 0 ≤ length t
  pub all_ok : Every (FileOk nb cap m) (entries t)

-- a record behind all else in the pool
pub record Appended (nb cap : ℕ) (m : List ℕ) (name : ℕ) (ns m' : List ℕ) (p : ℕ) : Type 0 where
  pub place_is : p ≡ end m
  pub sound : Sound nb cap m'
  pub grown : Grown nb m m'
  pub pooled : Pooled nb cap m m'
  pub name_is : slice_index_or m' p 0 ≡ name
  pub size_is : slice_index_or m' (p + 1) 0 ≡ length ns
  pub no_more : NoMore nb m m'
  pub numbers_are : bytes_at m' (p + 1) ≡ ns
  pub long : length m' ≡ length m
  pub end_is : end m' ≡ end m + 2 + length ns

abbrev pub AppendSays : ℕ → ℕ → List ℕ → ℕ → List ℕ → List ℕ → Result ℕ NoRoom → Type 0
AppendSays nb cap m name ns m' (Ok p) = Appended nb cap m name ns m' p
AppendSays nb cap m name ns m' (Err e) = (m' ≡ m) × (length m < end m + 2 + length ns)

-- other lines for file k; one more file; or, for want of room, the texts that were
abbrev pub ReplaceSays : ℕ → List ℕ → List ℕ → ℕ → ℕ → List ℕ → List ℕ → List ℕ → Result (Unit {0}) NoRoom → Type 0
ReplaceSays nb t m k f ns t' m' (Ok u) = texts nb t' m' ≡ slice_set (texts nb t m) k (file_is nb m f ns)
ReplaceSays nb t m k f ns t' m' (Err e) = texts nb t' m' ≡ texts nb t m

abbrev pub PushSays : ℕ → List ℕ → List ℕ → ℕ → List ℕ → List ℕ → List ℕ → Result (Unit {0}) NoRoom → Type 0
PushSays nb t m f ns t' m' (Ok u) = texts nb t' m' ≡ texts nb t m ++ (file_is nb m f ns ∷ [])
PushSays nb t m f ns t' m' (Err e) = texts nb t' m' ≡ texts nb t m

-- a file has this text from now on
abbrev pub PutSays : List ℕ → List ℕ → Texts → Texts → Result (Unit {0}) NoRoom → Type 0
PutSays name text p q (Ok u) = q ≡ puts_file name text p
PutSays name text p q (Err e) = q ≡ p

-- the file of a name, if it is open
abbrev pub FileOfSays : ℕ → List ℕ → List ℕ → List ℕ → Perhaps ℕ → Type 0
FileOfSays nb t m name (Some k) = (k < slice_index t 0) × (bytes nb m (name_at t m k) ≡ name) × (find_file (texts nb t m) name ≡ some (file_at nb m (slice_index t (1 + k))))
FileOfSays nb t m name None = find_file (texts nb t m) name ≡ none

-- a file is closed: whether it was open
abbrev pub CloseSays : List ℕ → Texts → Texts → Bool → Type 0
CloseSays name p q r = (r ≡ is_some (find_file p name)) × (q ≡ drops_file name p)
