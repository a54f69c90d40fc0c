-- What the interner promises: which bytes a number stands for. m is the row before, m' the row after.
use Rattle.std.specs.Prelude.{◌≡◌, ℕ, ◌+◌, ◌<◌, ◌≤◌, ◌⊎◌, List, length, Some, None, Option as Perhaps, ◌≢◌}
use Rattle.interner.specs.Index.{count, end, pool, place, bytes, Sound, Live, Grown, Pooled}

-- the number of these bytes; or no number in use has them
abbrev pub FindSays : ℕ → List ℕ → List ℕ → Perhaps ℕ → Type 0
FindSays nb m key (Some n) = Live nb m n × (bytes nb m n ≡ key)
FindSays nb m key None = (n : ℕ) → Live nb m n → bytes nb m n ≢ key

-- a number that is free or the next can get bytes that no number has
pub record CanAdd (nb cap : ℕ) (m : List ℕ) (n : ℕ) (key : List ℕ) : Type 0 where
  pub sound : Sound nb cap m
  pub not_zero : 0 < n
  pub next : n ≤ count m
  pub in_cap : n < cap
  pub unused : n < count m → place nb m n ≡ 0
  pub new : (k : ℕ) → Live nb m k → bytes nb m k ≢ key
  pub room : end m + 1 + length key ≤ length m

-- it has them; no other number came, and those in use stand for what they stood for
pub record Added (nb cap : ℕ) (m : List ℕ) (n : ℕ) (key m' : List ℕ) : Type 0 where
  pub sound : Sound nb cap m'
  pub live : Live nb m' n
  pub bytes_n : bytes nb m' n ≡ key
  pub grown : Grown nb m m'
  pub pooled : Pooled nb cap m m'
  pub only : (k : ℕ) → Live nb m' k → (k ≡ n) ⊎ Live nb m k
  pub end_is : end m' ≡ end m + 1 + length key
  pub count_most : count m' ≤ count m + 1
  pub count_kept : n < count m → count m' ≡ count m
  pub long : length m' ≡ length m

-- these bytes have a number, and those in use stand for what they stood for; the pool grew by no more than they take
pub record Interned (nb cap : ℕ) (m key m' : List ℕ) (n : ℕ) : Type 0 where
  pub sound : Sound nb cap m'
  pub grown : Grown nb m m'
  pub pooled : Pooled nb cap m m'
  pub live : Live nb m' n
  pub bytes_n : bytes nb m' n ≡ key
  pub end_most : end m' ≤ end m + 1 + length key
  pub count_most : count m' ≤ count m + 1
  pub long : length m' ≡ length m

-- no number is in use, of c that there are, and the pool is empty
pub record Blank (nb cap c : ℕ) (w : List ℕ) : Type 0 where
  pub sound : Sound nb cap w
  pub counts : count w ≡ c
  pub ends : end w ≡ pool nb cap
  pub none_live : (k : ℕ) → Live nb w k → ⊥
