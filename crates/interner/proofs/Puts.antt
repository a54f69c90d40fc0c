-- Lists of files: a file put or dropped, by its place among them.
use Rattle.std.proofs.Common.{◌≡◌, ℕ, zero, suc, Bool, true, false, List, [], ◌∷◌, ◌++◌, set, Decides, refl, ap, ◌∙◌, rules}
use mathlib.Core.Option.{some, none}
use Rattle.std.proofs.lemmas.Slice.Eq.{compares_Decides}
use Rattle.base.specs.Base.{pick, same}
use Rattle.semantics.specs.Names.{Texts, find_file}
use Rattle.semantics.specs.Answers.{puts_file, drops_file}
use Rattle.interner.proofs.Joined.{false_true}

pub same_decides : (xs ys : List ℕ) → Decides (same xs ys) (xs ≡ ys)
same_decides = compares_Decides same (search rules)

pub differs : (xs ys : List ℕ) → (xs ≡ ys → ⊥) → same xs ys ≡ false
differs xs ys n = go (same xs ys) (same_decides xs ys).0
  where
    go : (b : Bool) → (b ≡ true → xs ≡ ys) → b ≡ false
    go true f = elim (n (f refl)) [ ]
    go false f = refl

pub puts_new : (f t : List ℕ) (p : Texts) → find_file p f ≡ none → puts_file f t p ≡ p ++ (record { name = f; text = t } ∷ [])
puts_new f t [] h = refl
puts_new f t (x ∷ xs) h = go (same x.name f) h (puts_new f t xs)
  where
    go : (b : Bool) → pick b (some x) (find_file xs f) ≡ none → (find_file xs f ≡ none → puts_file f t xs ≡ xs ++ (record { name = f; text = t } ∷ [])) → pick b (record { name = f; text = t } ∷ xs) (x ∷ puts_file f t xs) ≡ x ∷ (xs ++ (record { name = f; text = t } ∷ []))
    go true e r = false_true (cc)
    go false e r = ap (λ ys. x ∷ ys) (r e)

-- k is the first file of that name
abbrev pub First : List ℕ → Texts → ℕ → Type 0
First f [] k = ⊥
First f (x ∷ xs) zero = x.name ≡ f
First f (x ∷ xs) (suc k) = (x.name ≡ f → ⊥) × First f xs k

pub puts_set : (f t : List ℕ) (p : Texts) (k : ℕ) → First f p k → puts_file f t p ≡ set p k (record { name = f; text = t })
puts_set f t [] k h = elim h [ ]
puts_set f t (x ∷ xs) zero h = ap (λ b. pick b (record { name = f; text = t } ∷ xs) (x ∷ puts_file f t xs)) ((same_decides x.name f).1 h)
puts_set f t (x ∷ xs) (suc k) h = ap (λ b. pick b (record { name = f; text = t } ∷ xs) (x ∷ puts_file f t xs)) (differs x.name f h.0) ∙ ap (λ ys. x ∷ ys) (puts_set f t xs k h.1)

pub finds_none : (f : List ℕ) (p : Texts) → find_file p f ≡ none → drops_file f p ≡ p
finds_none f [] h = refl
finds_none f (x ∷ xs) h = go (same x.name f) h (finds_none f xs)
  where
    go : (b : Bool) → pick b (some x) (find_file xs f) ≡ none → (find_file xs f ≡ none → drops_file f xs ≡ xs) → pick b (drops_file f xs) (x ∷ drops_file f xs) ≡ x ∷ xs
    go true e r = false_true (cc)
    go false e r = ap (λ ys. x ∷ ys) (r e)
