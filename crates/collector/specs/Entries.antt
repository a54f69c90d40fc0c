-- Declarations and lists of files as they stand in the table.
use Rattle.std.specs.Prelude.{◌≡◌, ℕ, ◌+◌, ◌-◌, ◌*◌, ◌≤◌, List, [], ◌∷◌, ◌++◌, map, length, take, drop}
use Rattle.base.specs.Base.{Word, pick, is_some}
use Rattle.lexer.specs.Tokens.{Tok, tok}
use Rattle.grammar.specs.Grammar.{Field}
use Rattle.semantics.specs.Names.{Decl, Texts, find_file}
use Rattle.semantics.specs.Theorems.{Each}
use Rattle.symbols.specs.Tabled.{Uses}
use Rattle.collector.specs.Rows.{Held}

-- a piece of the line at a place of the texts stands where it says
pub record TokIn (m : List ℕ) (o : ℕ) (t : Tok) : Type 0 where
  pub sits : t.from ≤ t.to
  pub ends : o + t.to ≤ length m
  pub bytes : take (t.to - t.from) (drop (o + t.from) m) ≡ t.w

abbrev pub FieldIn : List ℕ → ℕ → Field → Type 0
FieldIn m o f = TokIn m o f.name × TokIn m o f.ty

-- a declaration, the piece of its type, and where its line stands in the texts
pub record Entry : Type 0 where
  pub decl : Decl
  pub ty : Tok
  pub line : ℕ

-- all that it names stands there
pub record Inside (m : List ℕ) (e : Entry) : Type 0 where
  pub name_in : TokIn m e.line (tok e.decl.name e.decl.from e.decl.to)
  pub type_in : TokIn m e.line e.ty
  pub type_is : e.decl.ty ≡ e.ty.w
  pub fields_in : Each (FieldIn m e.line) e.decl.fields

-- its words: t is where the texts stand in the row, k its file
abbrev pub slot_words : List Field → List ℕ
slot_words [] = []
slot_words (f ∷ fs) = f.name.from ∷ f.name.to ∷ f.ty.from ∷ f.ty.to ∷ slot_words fs

abbrev pub entry_words : ℕ → ℕ → Entry → List ℕ
entry_words t k e = k ∷ e.decl.start ∷ (t + e.line) ∷ e.decl.sort ∷ e.decl.from ∷ e.decl.to ∷ e.ty.from ∷ e.ty.to ∷ length e.decl.fields ∷ slot_words e.decl.fields

abbrev pub entries_words : ℕ → ℕ → List Entry → List ℕ
entries_words t k [] = []
entries_words t k (e ∷ es) = entry_words t k e ++ entries_words t k es

abbrev pub decl_of : Entry → Decl
decl_of e = e.decl

-- how many words declarations take
abbrev pub decl_need : Decl → ℕ
decl_need d = 9 + 4 * length d.fields

abbrev pub decls_need : List Decl → ℕ
decls_need [] = 0
decls_need (d ∷ ds) = decl_need d + decls_need ds

-- how many words the list of the files of these names takes: one for each that is there
abbrev pub uses_need : Texts → List Word → ℕ
uses_need p [] = 0
uses_need p (n ∷ ns) = pick (is_some (find_file p n)) 1 0 + uses_need p ns

-- these n declarations stand between two places
pub record Declared (m : List ℕ) (t k : ℕ) (ws : List ℕ) (from to n : ℕ) (ds : List Decl) : Type 0 where
  pub entries : List Entry
  pub are : map decl_of entries ≡ ds
  pub inside : Each (Inside m) entries
  pub held : Held ws from (entries_words t k entries)
  pub ends : to ≡ from + decls_need ds
  pub counts : n ≡ length ds

-- the list of the files of these names stands between two places
pub record Using (p : Texts) (ws : List ℕ) (from to : ℕ) (ns : List Word) : Type 0 where
  pub files : List ℕ
  pub uses : Uses p files ns
  pub held : Held ws from files
  pub ends : to ≡ from + length files
