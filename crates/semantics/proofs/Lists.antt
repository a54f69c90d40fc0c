-- On Each and One.
use mathlib.Core.Path.{◌≡◌, refl, sym, subst}
use mathlib.Core.List.{List, [], ◌∷◌, ◌++◌}
use mathlib.Core.Logic.{inl, inr}
use Rattle.semantics.specs.Theorems.{Each, One, Among}

pub each_cat : {A : Type 0} (P : A → Type 0) (xs ys : List A) → Each P xs → Each P ys → Each P (xs ++ ys)
each_cat P [] ys p q = q
each_cat P (x ∷ xs) ys p q = (p.0, each_cat P xs ys p.1 q)

pub each_left : {A : Type 0} (P : A → Type 0) (xs ys : List A) → Each P (xs ++ ys) → Each P xs
each_left P [] ys p = tt
each_left P (x ∷ xs) ys p = (p.0, each_left P xs ys p.1)

pub each_right : {A : Type 0} (P : A → Type 0) (xs ys : List A) → Each P (xs ++ ys) → Each P ys
each_right P [] ys p = p
each_right P (x ∷ xs) ys p = each_right P xs ys p.1

pub each_map : {A : Type 0} (P Q : A → Type 0) (xs : List A) → ((x : A) → P x → Q x) → Each P xs → Each Q xs
each_map P Q [] h p = tt
each_map P Q (x ∷ xs) h p = (h x p.0, each_map P Q xs h p.1)

pub one_map : {A : Type 0} (P Q : A → Type 0) (xs : List A) → ((x : A) → P x → Q x) → One P xs → One Q xs
one_map P Q [] h p = p
one_map P Q (x ∷ xs) h (inl p) = inl (h x p)
one_map P Q (x ∷ xs) h (inr p) = inr (one_map P Q xs h p)

-- what is among them and so, is one that is so
pub one_of : {A : Type 0} (P : A → Type 0) (x : A) (xs : List A) → Among x xs → P x → One P xs
one_of P x xs a p = one_map (λ y. x ≡ y) P xs (λ y e. subst P e p) a

-- what holds of all that are among them holds of each
pub each_of : {A : Type 0} (P : A → Type 0) (xs : List A) → ((x : A) → Among x xs → P x) → Each P xs
each_of P [] h = tt
each_of P (x ∷ xs) h = (h x (inl refl), each_of P xs (λ y a. h y (inr a)))

pub each_at : {A : Type 0} (P : A → Type 0) (x : A) (xs : List A) → Among x xs → Each P xs → P x
each_at P x [] a p = absurd a
each_at P x (y ∷ ys) (inl e) p = subst P (sym e) p.0
each_at P x (y ∷ ys) (inr a) p = each_at P x ys a p.1
