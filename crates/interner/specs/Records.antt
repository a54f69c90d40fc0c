-- A record behind all else in the pool: a head of some words, then numbers, how many they are before them.
use Rattle.std.specs.Prelude.{◌≡◌, ℕ, ◌+◌, ◌<◌, List, length, slice_index}
use Rattle.interner.specs.Index.{end, bytes_at, Sound, Grown, Pooled, NoMore}

pub record Recorded (nb cap : ℕ) (m head ns m' : List ℕ) (p : ℕ) : Type 0 where
  pub place_is : p ≡ end m
  pub sound : Sound nb cap m'
  pub grown : Grown nb m m'
  pub pooled : Pooled nb cap m m'
  pub no_more : NoMore nb m m'
  pub head_is : (i : ℕ) → i < length head → slice_index m' (p + i) ≡ slice_index head i
  pub many_is : slice_index m' (p + length head) ≡ length ns
  pub numbers_are : bytes_at m' (p + length head) ≡ ns
  pub long : length m' ≡ length m
  pub end_is : end m' ≡ end m + length head + 1 + length ns
