-- The table of all files, and when it is refused.
use Rattle.std.specs.Prelude.{◌≡◌, ℕ, ◌+◌, ◌-◌, ◌<◌, ◌≤◌, ◌⊎◌, List, [], ◌∷◌, length, take, drop, Some, Ok, Err, Result}
use Rattle.std.specs.List.{slice_get}
use Rattle.semantics.specs.Names.{File, Texts, decls, used}
use Rattle.source.specs.declared.Extent.{Extent}
use Rattle.source.specs.Source.{Stands}
use Rattle.symbols.specs.Table.{word, file_row}
use Rattle.symbols.specs.Tabled.{Tabled}
use Rattle.symbols.specs.declared.layout.Layout.{Layout}
use Rattle.collector.specs.declared.NoRoom.{NoRoom}
use Rattle.symbols.specs.Rows.{texts_in}
use Rattle.collector.specs.Rows.{Kept, Held}
use Rattle.collector.specs.Entries.{Declared, Using, decls_need, uses_need}
use Rattle.collector.specs.Says.{LineTrouble}

-- how many words a file takes in the table besides its six, and how many the whole table takes
abbrev pub file_need : Texts → File → ℕ
file_need p f = uses_need p (used f) + decls_need (decls f)

abbrev pub files_need : Texts → List File → ℕ
files_need p [] = 0
files_need p (f ∷ fs) = 6 + file_need p f + files_need p fs

abbrev pub table_need : Texts → ℕ
table_need p = 1 + files_need p p

-- the k-th file's words, its list and its declarations stand; the last two between two places
pub record FileStands (p : Texts) (l : Layout) (m ws : List ℕ) (k from to : ℕ) (f : File) : Type 0 where
  pub name : Extent
  pub name_stands : Stands m name f.name
  pub mid : ℕ
  pub count : ℕ
  pub row : Held ws (file_row l.index k) ((l.texts + name.from) ∷ name.len ∷ from ∷ (mid - from) ∷ mid ∷ count ∷ [])
  pub uses : Using p ws from mid (used f)
  pub declares : Declared m l.texts k ws mid to count (decls f)

-- of the words from the texts on to the room to work in, only the k-th file's and those between two places were written
pub record FileWrote (l : Layout) (k from to : ℕ) (ws vs : List ℕ) : Type 0 where
  pub onward : from ≤ to
  pub within : to ≤ l.work
  pub long : length vs ≡ length ws
  pub same : (i : ℕ) → l.texts ≤ i → i < l.work → (i < file_row l.index k) ⊎ (file_row l.index k + 6 ≤ i) → (i < from) ⊎ (to ≤ i) → word vs i ≡ word ws i

abbrev pub FileSays : Texts → Layout → ℕ → List ℕ → ℕ → List ℕ → Result ℕ NoRoom → Type 0
FileSays p l k ws «at» vs (Ok to) = FileWrote l k «at» to ws vs × ((x : File) → slice_get p k ≡ Some x → FileStands p l (texts_in l ws) vs k «at» to x)
FileSays p l k ws «at» vs (Err e) = Kept l «at» l.work ws vs × (LineTrouble p l (length ws) ⊎ ((x : File) → slice_get p k ≡ Some x → l.work < «at» + file_need p x))

-- The table of the texts p stands in the row, and in any other that has the same words from the texts on to the room to work in: a line may
-- be copied to the row's front, and work be done behind the table.
abbrev pub Collected : Texts → Layout → List ℕ → Type 0
Collected p l ws = (vs : List ℕ) → length vs < 4294967296 → drop l.texts (take l.work vs) ≡ drop l.texts (take l.work ws) → Tabled p vs l.index

-- Too few words: a line is too long for the slot or for the room to work in, or begins where places don't reach; or the table doesn't
-- go in.
abbrev pub TooFew : Texts → Layout → ℕ → Type 0
TooFew p l long = LineTrouble p l long ⊎ (l.work - l.index < table_need p)

abbrev pub CollectSays : Texts → Layout → List ℕ → List ℕ → Result (Unit {0}) NoRoom → Type 0
CollectSays p l ws vs (Ok u) = Tabled p (take l.work vs) l.index × Collected p l vs
CollectSays p l ws vs (Err e) = TooFew p l (length ws)
