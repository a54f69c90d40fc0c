-- The hash as a fold.
use Rattle.std.proofs.Common.{◌≡◌, ℕ, ◌+◌, ◌*◌, ◌%◌, List, [], ◌∷◌, refl, fold}
use Rattle.interner.specs.Index.{hash_from}

pub hash_fold : (h : ℕ) (key : List ℕ) → fold (λ h c. (h * 31 + c) % 16777213) h key ≡ hash_from h key
hash_fold h [] = refl
hash_fold h (c ∷ cs) = hash_fold ((h * 31 + c) % 16777213) cs
