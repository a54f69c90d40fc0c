-- A table of places in the pool, where records stand that begin with a number: how many, and then the places, in their order.
use Rattle.std.specs.Prelude.{◌≡◌, ℕ, ◌+◌, ◌<◌, ◌≤◌, List, [], ◌∷◌, length, take, drop, Some, None, Option as Perhaps, ◌==◌, ◌≢◌, slice_index}
use Rattle.std.specs.List.{All}
use Rattle.base.specs.Base.{pick}

abbrev pub entries : List ℕ → List ℕ
entries t = take (slice_index t 0) (drop 1 t)

-- each is the place of a word
pub record Placed (t m : List ℕ) : Type 0 where
  pub in_table : 1 + slice_index t 0 ≤ length t
  pub in_words : All (λ p. p < length m) (entries t)

-- the number with which the k-th record begins
abbrev pub name_at : List ℕ → List ℕ → ℕ → ℕ
name_at t m k = slice_index m (slice_index t (1 + k))

-- the first that begins with f
abbrev pub IndexSays : List ℕ → List ℕ → ℕ → Perhaps ℕ → Type 0
IndexSays t m f (Some k) = (k < slice_index t 0) × (name_at t m k ≡ f) × ((j : ℕ) → j < k → name_at t m j ≢ f)
IndexSays t m f None = (j : ℕ) → j < slice_index t 0 → name_at t m j ≢ f

-- the places without those of records that begin with f
abbrev pub others : List ℕ → ℕ → List ℕ → List ℕ
others m f [] = []
others m f (p ∷ ps) = pick (slice_index m p == f) (others m f ps) (p ∷ others m f ps)

-- they alone are left in the table
pub record DropSays (t m : List ℕ) (f : ℕ) (t' : List ℕ) : Type 0 where
  pub in_table : 1 + slice_index t' 0 ≤ length t'
  pub left : entries t' ≡ others m f (entries t)
