-- The chain of a bucket, along which the newest record of a key is found. ws is the row, of n records in b buckets.
use Rattle.std.specs.Prelude.{◌≡◌, ℕ, suc, ◌⊎◌, List, length, MatchOption, Option as Perhaps, slice_index}
use Rattle.std.proofs.Math.Option.{some, none}
use Rattle.engine.specs.declared.key.Key.{Key}
use Rattle.engine.specs.Engine.{find}
use Rattle.memo.specs.declared.record.Record.{Record as Place}
use Rattle.memo.specs.Record.{key_of, records}
use Rattle.memo.specs.Log.{bucket, log, Record, Reaches, entry_at}

-- what stands where a bucket's newest record is said to be
pub record There (b n : ℕ) (ws : List ℕ) (k : Key) (d : ℕ) : Type 0 where
  pub m : ℕ
  pub l : List ℕ
  pub reached : Reaches n ws (suc m) l
  pub long : length l ≡ d
  pub same1 : find (records n ws) k ≡ find (records (suc m) l) k
  pub bucket1 : bucket (key_of l) b ≡ bucket k b

abbrev pub Found : ℕ → ℕ → List ℕ → Key → ℕ → Type 0
Found b n ws k d = ((d ≡ 0) × (find (records n ws) k ≡ none)) ⊎ There b n ws k d

-- the row's records from one on, m of them, which are the words l: the chain leads to the newest of the key k among them from the depth d on
pub record Chained (ws : List ℕ) (m : ℕ) (l : List ℕ) (k : Key) (d : ℕ) : Type 0 where
  pub reached : Reaches (slice_index ws 1) (log ws) m l
  pub found : Found (slice_index ws 2) m l k d

-- the newest record of the key among them, if there is one
abbrev pub AlongSays : List ℕ → ℕ → List ℕ → Key → Perhaps Place → Type 0
AlongSays ws m l k r = MatchOption r (find (records m l) k ≡ none) (λ p. Record ws p.depth × (find (records m l) k ≡ some (entry_at ws p.depth)))
