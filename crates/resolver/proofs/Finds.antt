-- Declarations and files found in the symbol table of texts are those that the texts have.
use Rattle.std.proofs.Common.{◌≡◌, ℕ, zero, suc, ◌+◌, ◌<◌, min, Bool, true, false, List, [], ◌∷◌, length, Some, None, Option as Perhaps, sym, refl, ap, ◌∙◌, subst, arith}
use mathlib.Core.Option.{Option, some, none}
use Rattle.std.specs.List.{slice_get}
use Rattle.std.proofs.lemmas.Bool.{lt-ltb}
use Rattle.base.specs.Base.{pick, on_some, Word, same}
use Rattle.lexer.proofs.Facts.{same_eq}
use Rattle.semantics.specs.Names.{File, Texts, find_file, Decl, decls, find_decl, At, in_file}
use Rattle.source.specs.Source.{First, FindSays}
use Rattle.symbols.specs.Table.{word, file_name, first_decl, decl_count, decl_name, decl_at, decl_long, decls_from}
use Rattle.symbols.specs.Tabled.{Owned, Tabled}
use Rattle.resolver.specs.Resolve.{limit, in_row, seek, named_from, file_named, own}

-- the first declaration of a name among some of the k-th file, by its handle
abbrev pub SeekSays : List ℕ → ℕ → Option Decl → Perhaps ℕ → Type 0
SeekSays ws k o None = o ≡ none
SeekSays ws k o (Some e) = (o ≡ some (decl_at ws e)) × (word ws e ≡ k) × (e < limit)

pub seek_says : (ws : List ℕ) (k : ℕ) (w : Word) → length ws < 4294967296 → (n d : ℕ) → Owned ws k n d → SeekSays ws k (find_decl (decls_from ws n d) w) (seek ws w n d)
seek_says ws k w s zero d o = refl
seek_says ws k w s (suc n) d o =
    subst (λ b. SeekSays ws k (find_decl (decls_from ws (suc n) d) w) (pick b (pick (same (decl_name ws d) w) (Some d) rest) None)) (sym inside) (go (same (decl_name ws d) w) refl (seek_says ws k w s n (d + decl_long ws d) o.2))
  where
    rest : Perhaps ℕ
    rest = seek ws w n (d + decl_long ws d)

    low : d < limit
    low = omega (arith, o.0)

    inside : in_row ws d ≡ true
    inside = lt-ltb d (min (length ws) limit) (omega (arith, o.0))

    go : (b : Bool) → same (decl_name ws d) w ≡ b → SeekSays ws k (find_decl (decls_from ws n (d + decl_long ws d)) w) rest → SeekSays ws k (find_decl (decls_from ws (suc n) d) w) (pick b (Some d) rest)
    go true e h = (ap (λ b. pick b (some (decl_at ws d)) (find_decl (decls_from ws n (d + decl_long ws d)) w)) e, o.1, low)
    go false e h = subst (λ o. SeekSays ws k o rest) (sym (ap (λ b. pick b (some (decl_at ws d)) (find_decl (decls_from ws n (d + decl_long ws d)) w)) e)) h

-- the first file of a name among those from the k-th on
abbrev FileSays : Texts → Word → ℕ → Perhaps ℕ → Type 0
FileSays q w k None = find_file q w ≡ none
FileSays q w k (Some m) = (j : ℕ) × (m ≡ k + j) × First q w j

later : (f : File) (q : Texts) (w : Word) (k : ℕ) (r : Perhaps ℕ) → same f.name w ≡ false → FileSays q w (k + 1) r → FileSays (f ∷ q) w k r
later f q w k None e h = ap (λ b. pick b (some f) (find_file q w)) e ∙ h
later f q w k (Some m) e h = (suc h.0, omega (arith, h.1), (h.2.0, h.2.1, ap (λ b. pick b (some f) (find_file q w)) e ∙ h.2.2))

named_says : (ws : List ℕ) (x : ℕ) (w : Word) (q : Texts) (k : ℕ) → ((j : ℕ) (f : File) → slice_get q j ≡ Some f → file_name ws x (k + j) ≡ f.name) → FileSays q w k (named_from ws x w (length q) k)
named_says ws x w [] k names = refl
named_says ws x w (f ∷ q) k names =
    go (same (file_name ws x k) w) refl (named_says ws x w q (k + 1) (λ j g e. ap (file_name ws x) (next j) ∙ names (suc j) g e))
  where
    next : (j : ℕ) → (k + 1) + j ≡ k + suc j
    next j = omega arith

    here : file_name ws x k ≡ f.name
    here = let e : k ≡ k + 0 = omega arith in ap (file_name ws x) e ∙ names 0 f refl

    go : (b : Bool) → same (file_name ws x k) w ≡ b → FileSays q w (k + 1) (named_from ws x w (length q) (k + 1)) → FileSays (f ∷ q) w k (pick b (Some k) (named_from ws x w (length q) (k + 1)))
    go true e h = (0, omega arith, (f, refl, ap (λ b. pick b (some f) (find_file q w)) (ap (λ n. same n w) (sym here) ∙ e)))
    go false e h = later f q w k _ (ap (λ n. same n w) (sym here) ∙ e) h

-- a file is found by its own name
pub name_found : (p : Texts) (w : Word) (f : File) → find_file p w ≡ some f → f.name ≡ w
name_found [] w f e = let z : ◌≡◌ {A = ℕ} 0 1 = cc in absurd (omega arith)
name_found (g ∷ p) w f e = go (same g.name w) refl (name_found p w f)
  where
    go : (b : Bool) → same g.name w ≡ b → (find_file p w ≡ some f → f.name ≡ w) → f.name ≡ w
    go true q h =
        let i : some g ≡ some f = sym (ap (λ b. pick b (some g) (find_file p w)) q) ∙ e in
        let j : g ≡ f = cc in
        sym (ap (λ z. z.name) j) ∙ same_eq g.name w q
    go false q h = h (sym (ap (λ b. pick b (some g) (find_file p w)) q) ∙ e)

-- a handle that is found: its file is the first of its name
abbrev pub at_handle : List ℕ → ℕ → ℕ → At
at_handle ws x e = record { file = file_name ws x (word ws e); decl1 = decl_at ws e }

pub record Good (p : Texts) (ws : List ℕ) (x e : ℕ) : Type 0 where
  pub low : e < limit
  pub of_first : First p (file_name ws x (word ws e)) (word ws e)

abbrev pub OwnSays : Texts → List ℕ → ℕ → Option At → Perhaps ℕ → Type 0
OwnSays p ws x o None = o ≡ none
OwnSays p ws x o (Some e) = (o ≡ some (at_handle ws x e)) × Good p ws x e

module _ (p : Texts) (ws : List ℕ) (x : ℕ) (t : Tabled p ws x) where
  pub file_named_says : (w : Word) → FindSays p w (file_named ws x w)
  file_named_says w = subst (λ n. FindSays p w (named_from ws x w n 0)) (sym t.counts) (whole (named_from ws x w (length p) 0) (named_says ws x w p 0 names))
    where
      names : (j : ℕ) (f : File) → slice_get p j ≡ Some f → file_name ws x (0 + j) ≡ f.name
      names j f e = let z : 0 + j ≡ j = omega arith in ap (file_name ws x) z ∙ (t.files j f e).name_is

      whole : (r : Perhaps ℕ) → FileSays p w 0 r → FindSays p w r
      whole None h = h
      whole (Some m) h = let z : m ≡ h.0 = omega (arith, h.1) in subst (First p w) (sym z) h.2

  pub file_called : (g : Word) (k : ℕ) → First p g k → file_name ws x k ≡ g
  file_called g k h = (t.files k h.0 h.1).name_is ∙ name_found p g h.0 h.2

  pub own_says : (g : Word) (k : ℕ) → First p g k → (w : Word) → OwnSays p ws x (in_file p g w) (own ws x k w)
  own_says g k h w = whole (own ws x k w) (seek_says ws k w t.small (decl_count ws x k) (first_decl ws x k) (t.files k h.0 h.1).owned)
    where
      at_in : Decl → Option At
      at_in d = some (record { file = g; decl1 = d })

      inside : in_file p g w ≡ on_some (find_decl (decls_from ws (decl_count ws x k) (first_decl ws x k)) w) at_in
      inside = ap (λ o. on_some o (λ f. on_some (find_decl (decls f) w) at_in)) h.2 ∙ ap (λ ds. on_some (find_decl ds w) at_in) (sym (t.files k h.0 h.1).declares)

      whole : (r : Perhaps ℕ) → SeekSays ws k (find_decl (decls_from ws (decl_count ws x k) (first_decl ws x k)) w) r → OwnSays p ws x (in_file p g w) r
      whole None s = inside ∙ ap (λ o. on_some o at_in) s
      whole (Some e) s =
          let called : file_name ws x (word ws e) ≡ g = ap (file_name ws x) s.1 ∙ file_called g k h in
          (inside ∙ ap (λ o. on_some o at_in) s.0 ∙ ap (λ f. some (record { file = f; decl1 = decl_at ws e })) (sym called), record { low = s.2; of_first = subst (λ j. First p (file_name ws x (word ws e)) j) (sym s.1) (subst (λ f. First p f k) (sym called) h) })
