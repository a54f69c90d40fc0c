-- When a symbol table is that of texts.
use Rattle.std.specs.Prelude.{◌≡◌, ℕ, zero, suc, ◌+◌, ◌<◌, ◌≤◌, List, [], ◌∷◌, length, Some}
use Rattle.std.proofs.Math.Option.{none}
use Rattle.std.specs.List.{slice_get}
use Rattle.base.specs.Base.{Word}
use Rattle.semantics.specs.Names.{File, Texts, find_file, decls, used}
use Rattle.source.specs.Source.{First}
use Rattle.symbols.specs.Table.{word, file_name, used_in, first_decl, decl_count, decl_long, decls_from}

-- the files of these names, in order, without those that aren't there
pub data Uses (p : Texts) : List ℕ → List Word → Type 0 where
  no_more : Uses p [] []
  absent : {gs : List ℕ} {n : Word} {ns : List Word} → find_file p n ≡ none → Uses p gs ns → Uses p gs (n ∷ ns)
  present : {g : ℕ} {gs : List ℕ} {n : Word} {ns : List Word} → First p n g → Uses p gs ns → Uses p (g ∷ gs) (n ∷ ns)

-- n declarations from d on lie in the row, and are of the k-th file
abbrev pub Owned : List ℕ → ℕ → ℕ → ℕ → Type 0
Owned ws k zero d = Unit {0}
Owned ws k (suc n) d = (d + decl_long ws d ≤ length ws) × (word ws d ≡ k) × Owned ws k n (d + decl_long ws d)

-- the k-th file's words say what it declares and which files it uses
pub record FileTabled (p : Texts) (ws : List ℕ) (x k : ℕ) (f : File) : Type 0 where
  pub name_is : file_name ws x k ≡ f.name
  pub uses : Uses p (used_in ws x k) (used f)
  pub owned : Owned ws k (decl_count ws x k) (first_decl ws x k)
  pub declares : decls_from ws (decl_count ws x k) (first_decl ws x k) ≡ decls f

-- and so for all files
pub record Tabled (p : Texts) (ws : List ℕ) (x : ℕ) : Type 0 where
  pub small : length ws < 4294967296
  pub counts : word ws x ≡ length p
  pub files : (k : ℕ) (f : File) → slice_get p k ≡ Some f → FileTabled p ws x k f
