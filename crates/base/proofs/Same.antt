-- Words compared by their lengths and then byte by byte.
use Rattle.std.proofs.Common.{◌≡◌, ℕ, suc, false, ◌&&◌, nat_eq, List, [], ◌∷◌, length, zip, sym, refl, ap, ◌==◌, arith}
use Rattle.std.proofs.lemmas.Bool.{and_right}
use Rattle.std.specs.List.{list_all}
use Rattle.base.specs.Base.{same}

-- words of another length are other words
pub other_length : (a b : List ℕ) → (length a ≡ length b → ⊥) → false ≡ same a b
other_length [] [] n = absurd (n refl)
other_length [] (y ∷ b) n = refl
other_length (x ∷ a) [] n = refl
other_length (x ∷ a) (y ∷ b) n = sym (and_right (nat_eq x y) (same a b) (sym (other_length a b (λ e. n (ap suc e)))))

-- words of one length are the same where their bytes agree
pub same_length : (a b : List ℕ) → length a ≡ length b → list_all (λ (c, b). c == b) (zip a b) ≡ same a b
same_length [] [] e = refl
same_length [] (y ∷ b) e = absurd (omega (arith, e))
same_length (x ∷ a) [] e = absurd (omega (arith, e))
same_length (x ∷ a) (y ∷ b) e = ap (λ t. nat_eq x y && t) (same_length a b (omega (arith, e)))
