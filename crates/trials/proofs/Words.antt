-- One word written at the front of what is lent.
use Rattle.std.proofs.Common.{◌≡◌, ℕ, ◌+◌, ◌<◌, Bool, true, false, eqb, List, [], ◌∷◌, length, take, drop, set, refl, ap, ◌∙◌}
use Rattle.std.proofs.lemmas.List.{drop-set}
use Rattle.std.proofs.lemmas.Bool.{eqb-true}
use Rattle.base.specs.Base.{pick}

pub one_word : (ws : List ℕ) (at1 v : ℕ) → at1 < length ws → take 1 (drop at1 (set ws at1 v)) ≡ v ∷ []
one_word ws at1 v h = ap (take 1) (drop-set ws at1 v h) ∙ none (drop (at1 + 1) ws)
  where
    none : (xs : List ℕ) → take 1 (v ∷ xs) ≡ v ∷ []
    none [] = refl
    none (x ∷ xs) = refl

-- a cell that isn't empty
pub full : (v : ℕ) → (v ≡ 0 → ⊥) → pick (eqb v 0) [] (v ∷ []) ≡ v ∷ []
full v n = go (eqb v 0) refl
  where
    go : (b : Bool) → eqb v 0 ≡ b → pick b [] (v ∷ []) ≡ v ∷ []
    go true e = absurd (n (eqb-true v 0 e))
    go false e = refl
