-- The same texts in a fresh row, with the same numbers for what is in use. m is the row that is left, w the fresh one.
use Rattle.std.specs.Prelude.{◌≡◌, ℕ, ◌<◌, ◌≤◌, Ok, Err, Result, List, [], ◌∷◌, ◌++◌, length}
use Rattle.interner.specs.Lines.{Every}
use Rattle.interner.specs.Index.{count, pool, bytes, Sound, Live, Grown, Pooled}
use Rattle.store.specs.Files.{texts, file_at, Fits}
use Rattle.interner.specs.declared.refused.NoRoom.{NoRoom}

-- w has some of m's numbers, with their bytes
pub record Part (nb cap : ℕ) (m w : List ℕ) : Type 0 where
  pub sound : Sound nb cap w
  pub counts : count w ≡ count m
  pub of_m : (k : ℕ) → Live nb w k → Live nb m k × (bytes nb w k ≡ bytes nb m k)

-- n is one of them now
pub record Kept (nb cap : ℕ) (m w w' : List ℕ) (n : ℕ) : Type 0 where
  pub part : Part nb cap m w'
  pub grown : Grown nb w w'
  pub pooled : Pooled nb cap w w'
  pub long : length w' ≡ length w
  pub live : Live nb w' n

abbrev pub KeepSays : ℕ → ℕ → List ℕ → List ℕ → List ℕ → ℕ → Result (Unit {0}) NoRoom → Type 0
KeepSays nb cap m w w' n (Ok u) = Kept nb cap m w w' n
KeepSays nb cap m w w' n (Err e) = w' ≡ w

-- and so are all of ns
pub record AllKept (nb cap : ℕ) (m w w' ns : List ℕ) : Type 0 where
  pub part : Part nb cap m w'
  pub grown : Grown nb w w'
  pub pooled : Pooled nb cap w w'
  pub long : length w' ≡ length w
  pub live : Every (Live nb w') ns

abbrev pub KeepAllSays : ℕ → ℕ → List ℕ → List ℕ → List ℕ → List ℕ → Result (Unit {0}) NoRoom → Type 0
KeepAllSays nb cap m w w' ns (Ok u) = AllKept nb cap m w w' ns
KeepAllSays nb cap m w w' ns (Err e) = Unit {0}

-- one more file stands in w
pub record Moved (nb cap : ℕ) (m t w t' w' : List ℕ) (p : ℕ) : Type 0 where
  pub part : Part nb cap m w'
  pub filed : Fits nb cap t' w'
  pub more : texts nb t' w' ≡ texts nb t w ++ (file_at nb m p ∷ [])

abbrev pub MoveSays : ℕ → ℕ → List ℕ → List ℕ → List ℕ → List ℕ → List ℕ → ℕ → Result (Unit {0}) NoRoom → Type 0
MoveSays nb cap m t w t' w' p (Ok u) = Moved nb cap m t w t' w' p
MoveSays nb cap m t w t' w' p (Err e) = Unit {0}

-- all of them
pub record SameTexts (nb cap : ℕ) (t m t' w' : List ℕ) : Type 0 where
  pub part : Part nb cap m w'
  pub filed : Fits nb cap t' w'
  pub same : texts nb t' w' ≡ texts nb t m

-- and there was room for them
abbrev pub ReclaimSays : ℕ → ℕ → List ℕ → List ℕ → List ℕ → List ℕ → Result (Unit {0}) NoRoom → Type 0
ReclaimSays nb cap t m t' w' (Ok u) = SameTexts nb cap t m t' w'
ReclaimSays nb cap t m t' w' (Err e) = Unit {0}

-- words enough for nb buckets and cap numbers, and a table
pub record Roomy (nb cap : ℕ) (t m : List ℕ) : Type 0 where
  pub some_buckets : 0 < nb
  pub some_numbers : 0 < cap
  pub some_table : 0 < length t
  pub small : length m < 4294967296
  pub fixed : pool nb cap ≤ length m

abbrev pub RoomySays : ℕ → ℕ → List ℕ → List ℕ → Result (Unit {0}) NoRoom → Type 0
RoomySays nb cap t m (Ok u) = Roomy nb cap t m
RoomySays nb cap t m (Err e) = Roomy nb cap t m → ⊥

-- a store without files
abbrev pub CreateSays : ℕ → ℕ → List ℕ → List ℕ → List ℕ → List ℕ → Result (Unit {0}) NoRoom → Type 0
CreateSays nb cap t m t' m' (Ok u) = Fits nb cap t' m' × (texts nb t' m' ≡ [])
CreateSays nb cap t m t' m' (Err e) = Roomy nb cap t m → ⊥
