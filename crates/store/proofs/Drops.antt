-- A file looked up by its name (file_found, file_missing), and the table without the files of a name (drops_others).
use Rattle.std.proofs.Common.{◌≡◌, ℕ, zero, suc, ◌+◌, ◌<◌, Bool, true, false, eqb, List, [], ◌∷◌, map, length, get_or, Some, None, Option as Perhaps, sym, refl, ap, ◌∙◌, subst, arith, eqb-true}
use mathlib.Core.Option.{some, none}
use borrow.Author.Tests.{eqb-false}
use Rattle.base.specs.Base.{pick, same}
use Rattle.semantics.specs.Names.{find_file}
use Rattle.semantics.specs.Answers.{drops_file}
use Rattle.interner.specs.Lines.{Every}
use Rattle.interner.specs.Index.{bytes, Live}
use Rattle.store.specs.Files.{file_at, texts, FileOk, FileOfSays, Fits}
use Rattle.interner.specs.Places.{entries, name_at, others, DropSays, IndexSays}
use Rattle.interner.proofs.Places.{entry_is, entries_long, every_others}
use Rattle.interner.proofs.Puts.{same_decides, differs}
use Rattle.store.proofs.Tables.{other_name, none_in}

module _ (nb cap : ℕ) (t m : List ℕ) (q : Fits nb cap t m) (name : List ℕ) where
  -- no number stands for the name
  unknown : ((n : ℕ) → Live nb m n → bytes nb m n ≡ name → ⊥) → (es : List ℕ) → Every (FileOk nb cap m) es → find_file (map (file_at nb m) es) name ≡ none
  unknown no_one [] e = refl
  unknown no_one (p ∷ ps) (x, e) = ap (λ (b : Bool). pick b (some (file_at nb m p)) (find_file (map (file_at nb m) ps) name)) (differs (bytes nb m (get_or m p 0)) name (no_one (get_or m p 0) x.name)) ∙ unknown no_one ps e

  pub file_unknown : ((n : ℕ) → Live nb m n → bytes nb m n ≡ name → ⊥) → find_file (texts nb t m) name ≡ none
  file_unknown no_one = unknown no_one (entries t) q.all_ok

  -- f does
  module _ (f : ℕ) (lf : Live nb m f) (is_name : bytes nb m f ≡ name) where
    find_in : (es : List ℕ) (k : ℕ) → Every (FileOk nb cap m) es → k < length es → get_or m (get_or es k 0) 0 ≡ f → ((j : ℕ) → j < k → get_or m (get_or es j 0) 0 ≡ f → ⊥) → find_file (map (file_at nb m) es) name ≡ some (file_at nb m (get_or es k 0))
    find_in [] k e h i d = let z : ⊥ = omega arith in elim z [ ]
    find_in (p ∷ ps) zero e h i d = ap (λ (b : Bool). pick b (some (file_at nb m p)) (find_file (map (file_at nb m) ps) name)) ((same_decides (bytes nb m (get_or m p 0)) name).1 (ap (bytes nb m) i ∙ is_name))
    find_in (p ∷ ps) (suc k) (x, e) h i d = ap (λ (b : Bool). pick b (some (file_at nb m p)) (find_file (map (file_at nb m) ps) name)) (differs (bytes nb m (get_or m p 0)) name (other_name nb cap t m q f name lf is_name p x (d 0 (omega arith)))) ∙ find_in ps k e (omega arith) i (λ j l. d (suc j) (omega arith))

    pub file_found : (k : ℕ) → (k < get_or t 0 0) × (name_at t m k ≡ f) × ((j : ℕ) → j < k → name_at t m j ≡ f → ⊥) → (k < get_or t 0 0) × (bytes nb m (name_at t m k) ≡ name) × (find_file (texts nb t m) name ≡ some (file_at nb m (get_or t (1 + k) 0)))
    file_found k (h, i, d) = (h, ap (bytes nb m) i ∙ is_name, find_in (entries t) k q.all_ok (omega (arith, entries_long t q.in_table)) (ap (λ p. get_or m p 0) (entry_is t k h) ∙ i) (λ j l e. d j l (ap (λ p. get_or m p 0) (sym (entry_is t j (omega arith))) ∙ e)) ∙ ap (λ p. some (file_at nb m p)) (entry_is t k h))

    pub file_missing : ((j : ℕ) → j < get_or t 0 0 → name_at t m j ≡ f → ⊥) → find_file (texts nb t m) name ≡ none
    file_missing d = none_in nb cap t m q f name lf is_name (entries t) q.all_ok (λ j l e. let h : j < get_or t 0 0 = omega (arith, entries_long t q.in_table) in d j h (ap (λ p. get_or m p 0) (sym (entry_is t j h)) ∙ e))

    pub file_of_says : (r : Perhaps ℕ) → IndexSays t m f r → FileOfSays nb t m name r
    file_of_says (Some k) h = file_found k h
    file_of_says None h = file_missing h

    drops_in : (es : List ℕ) → Every (FileOk nb cap m) es → map (file_at nb m) (others m f es) ≡ drops_file name (map (file_at nb m) es)
    drops_in [] e = refl
    drops_in (p ∷ ps) (x, e) = go (eqb (get_or m p 0) f) (eqb-true (get_or m p 0) f) (eqb-false (get_or m p 0) f) (drops_in ps e)
      where
        go : (b : Bool) → (b ≡ true → get_or m p 0 ≡ f) → (b ≡ false → get_or m p 0 ≡ f → ⊥) → map (file_at nb m) (others m f ps) ≡ drops_file name (map (file_at nb m) ps) → map (file_at nb m) (pick b (others m f ps) (p ∷ others m f ps)) ≡ pick (same (bytes nb m (get_or m p 0)) name) (drops_file name (map (file_at nb m) ps)) (file_at nb m p ∷ drops_file name (map (file_at nb m) ps))
        go true y n r = r ∙ ap (λ (b : Bool). pick b (drops_file name (map (file_at nb m) ps)) (file_at nb m p ∷ drops_file name (map (file_at nb m) ps))) (sym ((same_decides (bytes nb m (get_or m p 0)) name).1 (ap (bytes nb m) (y refl) ∙ is_name)))
        go false y n r = ap (λ z. file_at nb m p ∷ z) r ∙ ap (λ (b : Bool). pick b (drops_file name (map (file_at nb m) ps)) (file_at nb m p ∷ drops_file name (map (file_at nb m) ps))) (sym (differs (bytes nb m (get_or m p 0)) name (other_name nb cap t m q f name lf is_name p x (n refl))))

    pub drops_others : (t' : List ℕ) → entries t' ≡ others m f (entries t) → texts nb t' m ≡ drops_file name (texts nb t m)
    drops_others t' e = ap (map (file_at nb m)) e ∙ drops_in (entries t) q.all_ok

-- the table without them
pub left_fit : (nb cap : ℕ) (t m : List ℕ) (f : ℕ) (t' : List ℕ) → Fits nb cap t m → DropSays t m f t' → Fits nb cap t' m
left_fit nb cap t m f t' q d = record { sound = q.sound; in_table = d.in_table; all_ok = subst (Every (FileOk nb cap m)) (sym d.left) (every_others (FileOk nb cap m) m f (entries t) q.all_ok) }
