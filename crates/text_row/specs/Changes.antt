-- The texts that a row holds, and what changes promise. A row of n words, v = n / 40:
--
--   words           what stands there
--   0 .. v          not the store's
--   v .. 2v         the table of files
--   2v .. 11v       the half that is in use: lines by number, files' records
--   11v .. 20v      the other half, free but while what is in use is moved there and back
--   20v .. work     not the store's
--   work ..         to work in: lost in any change
--
-- A row of fewer than 65536 words holds no texts, and takes none.
use Rattle.std.specs.Prelude.{◌≡◌, ℕ, ◌+◌, ◌-◌, ◌*◌, ◌/◌, ◌<◌, ◌≤◌, Bool, ◌⊎◌, List, [], length, get_or, Option as Perhaps, Some, None, Ok, Err, Result, slice_index, slice_index_or}
use Rattle.std.proofs.Math.Option.{some, none}
use Rattle.std.specs.List.{between}
use Rattle.base.specs.Base.{is_some}
use Rattle.semantics.specs.Names.{File, Texts, find_file}
use Rattle.semantics.specs.Answers.{puts_file, drops_file, edits, weigh_texts}
use Rattle.text_row.specs.Row.{table, half}
use Rattle.interner.specs.Index.{Same}
use Rattle.interner.specs.Index.{count, end, pool, bytes, Live}
use Rattle.text_row.specs.Files.{texts, file_at, placed, FileOk, Fits, FileOfSays}
use Rattle.text_row.specs.Weights.{room}
use Rattle.text_row.specs.declared.row.Row.{Row}
use Rattle.interner.specs.declared.refused.NoRoom.{NoRoom}
use Rattle.interner.specs.declared.refused.Refused.{Refused}
use Rattle.interner.specs.declared.refused.Refused.TheVariants.{NoFile, NoPlace, NoRoom as NoRoom1}

abbrev pub unit : List ℕ → ℕ
unit m = length m / 40

abbrev pub texts_in : ℕ → List ℕ → Texts
texts_in v m = texts v (table v v m) (half v (2 * v) m)

abbrev pub kept_texts : List ℕ → Texts
kept_texts m = texts_in (unit m) m

-- a long row is in order
pub record InOrder (v : ℕ) (m : List ℕ) : Type 0 where
  pub fits : Fits v (2 * v) (table v v m) (half v (2 * v) m)
  pub roomy : room (texts_in v m) ≤ length m

-- a row is in order
pub record Kept (m : List ℕ) : Type 0 where
  pub small : length m < 4294967296
  pub in_order : 65536 ≤ length m → InOrder (unit m) m
  pub bare : length m < 65536 → kept_texts m ≡ []

-- words to work in
abbrev pub Work : ℕ → List ℕ → Type 0
Work w m = (30 * unit m ≤ w) × (w + 5 * unit m ≤ length m)

-- what is not the store's stays
pub record Stays (v w : ℕ) (m m' : List ℕ) : Type 0 where
  pub below : Same 0 v m m'
  pub above : Same (20 * v) w m m'

-- a file opened: texts before (p) and after (q), n words in the row
abbrev pub OpenSays : Texts → ℕ → List ℕ → List ℕ → Texts → Result (Unit {0}) NoRoom → Type 0
OpenSays p n f x q (Ok u) = q ≡ puts_file f x p
OpenSays p n f x q (Err e) = (q ≡ p) × (n < room (puts_file f x p))

-- an edit
abbrev pub EditSays : Texts → ℕ → List ℕ → ℕ → ℕ → List ℕ → Texts → Result (Unit {0}) Refused → Type 0
EditSays p n f a b x q (Ok u) = (y : File) × (find_file p f ≡ some y) × (a ≤ b) × (b ≤ length y.text) × (q ≡ puts_file f (edits a b x y.text) p)
EditSays p n f a b x q (Err NoFile) = (q ≡ p) × (find_file p f ≡ none)
EditSays p n f a b x q (Err NoPlace) = (y : File) × (q ≡ p) × (find_file p f ≡ some y) × ((b < a) ⊎ (length y.text < b))
EditSays p n f a b x q (Err NoRoom1) = (y : File) × (q ≡ p) × (find_file p f ≡ some y) × (a ≤ b) × (b ≤ length y.text) × (n < room (puts_file f (edits a b x y.text) p))

-- a file closed: whether it was open
abbrev pub CloseSays : Texts → List ℕ → Texts → Bool → Type 0
CloseSays p f q r = (r ≡ is_some (find_file p f)) × (q ≡ drops_file f p)

-- a long row, its unit, and where the words to work in begin
pub record Long (v w : ℕ) (m : List ℕ) : Type 0 where
  pub small : length m < 4294967296
  pub long : 65536 ≤ length m
  pub units : 40 * v ≤ length m
  pub near : length m < 40 * v + 40
  pub from : 30 * v ≤ w
  pub to : w + 5 * v ≤ length m
  pub order : InOrder v m

-- the row as it is divided, if it is long
abbrev pub RowSays : ℕ → List ℕ → Perhaps Row → Type 0
RowSays w m (Some r) = (r.unit ≡ unit m) × (r.work ≡ w) × Long r.unit r.work m
RowSays w m None = length m < 65536

-- a change leaves a long row in order
pub record ChangeSays (v w : ℕ) (m m' : List ℕ) : Type 0 where
  pub order : InOrder v m'
  pub stays : Stays v w m m'

-- the files of a row, to be read
abbrev pub FilesSays : ℕ → List ℕ → ℕ → List ℕ → List ℕ → Type 0
FilesSays v m nb t h = (nb ≡ v) × (t ≡ table v v m) × (h ≡ half v (2 * v) m)

-- the file of a name, which stands at the front of the words to work in, if it isn't too long
pub record NamedSays (v w : ℕ) (name m m' : List ℕ) (r : Perhaps ℕ) : Type 0 where
  pub found : FileOfSays (texts_in v m) name r
  pub laid : w + length name ≤ length m → between w (w + length name) m' ≡ name
  pub below : Same 0 w m m'

-- room for so many words and numbers more
pub record CanMake (v w words numbers : ℕ) (m : List ℕ) : Type 0 where
  pub row : Long v w m
  pub words_in : pool v (2 * v) + 2 * weigh_texts (texts_in v m) + words ≤ 9 * v
  pub numbers_in : 1 + weigh_texts (texts_in v m) + numbers ≤ 2 * v

pub record MakeSays (v w words numbers : ℕ) (m m' : List ℕ) : Type 0 where
  pub fits : Fits v (2 * v) (table v v m') (half v (2 * v) m')
  pub same : texts_in v m' ≡ texts_in v m
  pub words_in : end (half v (2 * v) m') + words ≤ 9 * v
  pub numbers_in : count (half v (2 * v) m') + numbers ≤ 2 * v
  pub stays : Stays v w m m'

-- a text above all that is kept can be the k-th file's, whose name has the number f
pub record CanPutText (v k f at n : ℕ) (m : List ℕ) : Type 0 where
  pub small : length m < 4294967296
  pub fits : Fits v (2 * v) (table v v m) (half v (2 * v) m)
  pub there : k ≤ length (texts_in v m)
  pub in_table : k + 2 ≤ v
  pub name : Live v (half v (2 * v) m) f
  pub above : 20 * v ≤ at
  pub work : at + 2 * n + 1 ≤ length m
  pub words_in : end (half v (2 * v) m) + 2 * n + 5 ≤ 9 * v
  pub numbers_in : count (half v (2 * v) m) + n + 1 ≤ 2 * v

pub record PutTextSays (v k f at n : ℕ) (m m' : List ℕ) : Type 0 where
  pub fits : Fits v (2 * v) (table v v m') (half v (2 * v) m')
  pub texts_are : texts_in v m' ≡ placed k (record { name = bytes v (half v (2 * v) m) f; text = between at (at + n) m }) (texts_in v m)
  pub stays : Stays v at m m'

-- a text of n words with one part replaced
pub record SpliceSays (at n a b : ℕ) (new m m' : List ℕ) : Type 0 where
  pub there : between at (at + (length (edits a b new (between at (at + n) m)))) m' ≡ edits a b new (between at (at + n) m)
  pub below : Same 0 at m m'

-- where the record of the k-th file stands in the half, and its name's number and its text's length in the row
pub record RecordSays (v k : ℕ) (m : List ℕ) (p : ℕ) : Type 0 where
  pub within : p + 3 ≤ 9 * v
  pub ok : FileOk v (2 * v) (half v (2 * v) m) p
  pub file_is : (y : File) → slice_index_or (texts_in v m) k y ≡ y → file_at v (half v (2 * v) m) p ≡ y
  pub name_is : get_or m (2 * v + p) 0 ≡ slice_index (half v (2 * v) m) p
  pub size_is : get_or m (2 * v + (p + 1)) 0 ≡ slice_index (half v (2 * v) m) (p + 1)

-- the number of the k-th file's name, as its record has it
abbrev pub NameSays : ℕ → ℕ → List ℕ → ℕ → Type 0
NameSays v k m f = (p : ℕ) × RecordSays v k m p × (f ≡ get_or m (2 * v + p) 0)

-- the text of the k-th file can be laid out, and edited there
pub record CanLay (v w k a b : ℕ) (new m : List ℕ) : Type 0 where
  pub fits : Fits v (2 * v) (table v v m) (half v (2 * v) m)
  pub above : 20 * v ≤ w
  pub there : k < length (texts_in v m)
  pub file : File
  pub place_is : get_or (texts_in v m) k file ≡ file
  pub onward : a ≤ b
  pub within : b ≤ length file.text
  pub work : w + length file.text ≤ length m
  pub room : w + a + length new + (length file.text - b) ≤ length m

pub record LaySays (v w k a b : ℕ) (new m m' : List ℕ) : Type 0 where
  pub laid : (y : File) → slice_index_or (texts_in v m) k y ≡ y → between w (w + length (edits a b new y.text)) m' ≡ edits a b new y.text
  pub below : Same 0 w m m'
