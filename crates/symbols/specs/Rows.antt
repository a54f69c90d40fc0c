-- The row in which texts and their symbol table lie: up to texts a slot for the line that is looked at; up to index the texts; up to work
-- the symbol table; behind that room to work in.
use Rattle.std.specs.Prelude.{◌≡◌, ℕ, ◌-◌, ◌<◌, ◌≤◌, ◌⊎◌, List, length, take, drop, Some, None, Option as Perhaps}
use Rattle.std.specs.List.{slice_get}
use Rattle.lexer.specs.Tokens.{Line, lines}
use Rattle.semantics.specs.Names.{File, Texts}
use Rattle.source.specs.declared.Extent.{Extent}
use Rattle.source.specs.Source.{Stands}
use Rattle.symbols.specs.declared.layout.Layout.{Layout}

-- the words of the texts; and those in which the symbol table is read, which begin with the texts
abbrev pub texts_in : Layout → List ℕ → List ℕ
texts_in l ws = take (l.index - l.texts) (drop l.texts ws)

abbrev pub table_row : Layout → List ℕ → List ℕ
table_row l ws = take (l.work - l.texts) (drop l.texts ws)

-- one part behind the other, in a row whose places fit a word
pub record InOrder (l : Layout) (ws : List ℕ) : Type 0 where
  pub slot : l.texts ≤ l.index
  pub table : l.index ≤ l.work
  pub row : l.work ≤ length ws
  pub small : length ws < 4294967296

-- a row in which the texts of a source lie, which can be read there
pub record Lent (reads : List ℕ → Type 0) (l : Layout) (ws : List ℕ) : Type 0 where
  pub order : InOrder l ws
  pub fits : reads (texts_in l ws)

-- the i-th line of the k-th file
pub record IsLine (p : Texts) (k i : ℕ) (x : File) (l : Line) : Type 0 where
  pub file : slice_get p k ≡ Some x
  pub line : slice_get (lines x.text) i ≡ Some l

-- these bytes stand in the slot, and in the texts m at that place of the row
pub record Fetched (l : Layout) (bytes m vs : List ℕ) (e : Extent) : Type 0 where
  pub begins : l.texts ≤ e.from
  pub in_texts : Stands m (record { from = e.from - l.texts; len = e.len }) bytes
  pub long : e.len ≡ length bytes
  pub goes_in : e.len ≤ l.texts
  pub in_slot : take e.len vs ≡ bytes

-- the i-th line of the k-th file was fetched; or there is none, or it is longer than the slot
abbrev pub FetchSays : Layout → Texts → ℕ → ℕ → List ℕ → List ℕ → Perhaps Extent → Type 0
FetchSays l p k i m vs (Some e) = (x : File) × (n : Line) × IsLine p k i x n × Fetched l n.bytes m vs e
FetchSays l p k i m vs None = ((x : File) → slice_get p k ≡ Some x → length (lines x.text) ≤ i) ⊎ ((x : File) × (n : Line) × IsLine p k i x n × (l.texts < length n.bytes))
