-- What the functions of the memo promise. ws is the row before, vs the row after.
use Rattle.std.specs.Prelude.{◌≡◌, ℕ, zero, suc, ◌+◌, ◌-◌, ◌*◌, ◌/◌, ◌<◌, ◌≤◌, Bool, not, List, [], ◌∷◌, length, take, drop, replicate, Result, Ok, Err, ⊤, slice_index, slice_index_or, slice_set}
use Rattle.std.proofs.Math.Option.{none}
use Rattle.base.specs.Base.{is_some, opt}
use Rattle.engine.specs.declared.key.Key.{Key}
use Rattle.memo.specs.declared.log.NoRoom.{NoRoom}
use Rattle.memo.specs.declared.mark.Mark.{Mark}
use Rattle.engine.specs.Engine.{Ans, Entry, store, find}
use Rattle.memo.specs.Record.{key_of, gots_of, row_long, size, keys_in, row_in, older, records, deep, puts, entry_long, entries_long}
use Rattle.memo.specs.Log.{log, Fits, kept_entries, Record, entry_at, Marked, entries_at, pointed, spare, capacity}

-- the answer to the i-th question of the record at the front stands at q in its row
pub record AtGot (l : List ℕ) (i q : ℕ) : Type 0 where
  pub low : i ≤ slice_index l 5
  pub within : row_long (slice_index l 5 - i) (drop q (row_in l)) + q ≡ slice_index l 6
  pub is : gots_of (slice_index l 5 - i) (drop (3 * i) (keys_in l)) (drop q (row_in l)) ≡ drop i (gots_of (slice_index l 5) (keys_in l) (row_in l))

-- where a reader of a record stands: at its i-th question, whose answer stands at q in the row
pub record Looks (ws : List ℕ) (d i q : ℕ) : Type 0 where
  pub record1 : Record ws d
  pub «at» : AtGot (deep d ws) i q

-- the i-th question and its answer, read, and where the next stands
pub record GotSays (ws : List ℕ) (d i : ℕ) (k : Key) (a : Ans) (next : ℕ) : Type 0 where
  pub is : drop i (entry_at ws d).gots ≡ record { key = k; ans = a } ∷ drop (i + 1) (entry_at ws d).gots
  pub looks : Looks ws d (i + 1) next

-- from ws to vs all that stood stands: depths, places of readers and marks stay good
pub record Keeps (ws vs : List ℕ) : Type 0 where
  pub records1 : (d : ℕ) → Record ws d → Record vs d × (entry_at vs d ≡ entry_at ws d)
  pub looks : (d i q : ℕ) → Looks ws d i q → Looks vs d i q
  pub marks : (m : Mark) → Marked ws m → Marked vs m × (entries_at vs m ≡ entries_at ws m)

-- an entry stored as a record more; or there was too little room, and nothing changed
abbrev pub StoreSays : Entry → List ℕ → List ℕ → Result ⊤ NoRoom → Type 0
StoreSays e ws vs (Ok u) = (kept_entries vs ≡ store e (kept_entries ws)) × (spare ws ≡ entry_long e + spare vs)
StoreSays e ws vs (Err x) = (vs ≡ ws) × (spare ws < entry_long e)

-- the newest record taken off
pub record Popped (ws vs : List ℕ) : Type 0 where
  pub count : slice_index_or ws 1 0 ≡ suc (slice_index vs 1)
  pub log1 : log vs ≡ older (log ws)
  pub deep1 : (d : ℕ) → d ≤ slice_index ws 0 → deep d vs ≡ deep d ws
  pub shorter : slice_index_or vs 0 0 < slice_index ws 0

-- an empty memo, and the room that it has; or there were fewer than four words
abbrev pub Created : List ℕ → List ℕ → Result ⊤ NoRoom → Type 0
Created ws vs (Ok u) = Fits vs × (kept_entries vs ≡ []) × (length ws ≡ 3 + (1 + (length ws - 4) / 16) + spare vs)
Created ws vs (Err x) = length ws < 4

-- the words of an empty memo of b buckets, put over others
abbrev pub Emptied : ℕ → List ℕ → List ℕ → Type 0
Emptied b ws vs = vs ≡ pointed (slice_set (puts 3 (replicate b 0) ws) 2 b) 0 0 0 0

-- n records in order one after the other, without an index
abbrev pub Plain : ℕ → List ℕ → Type 0
Plain zero ws = length ws ≡ 0
Plain (suc n) ws = (size ws ≤ length ws) × (row_long (slice_index ws 5) (row_in ws) ≡ slice_index ws 6) × Plain n (older ws)

-- whether there is no older record of the same key
pub record OldestSays (ws : List ℕ) (d : ℕ) (r : Bool) : Type 0 where
  pub is : (x : Record ws d) → r ≡ not (is_some (find (records x.count (older (deep d ws))) (key_of (deep d ws))))

-- the entries one after the other in the work area, as records without an index, up to the mark
pub record Gathers (ws work : List ℕ) (m : Mark) : Type 0 where
  pub within : m.depth ≤ length work
  pub plain : Plain m.count (deep m.depth work)
  pub is : records m.count (deep m.depth work) ≡ kept_entries ws

-- the same entries without old records, so that all but what they take is free; or the work area, of n words, was too small
abbrev pub RepackSays : List ℕ → List ℕ → ℕ → Result ⊤ NoRoom → Type 0
RepackSays ws vs n (Ok u) = (kept_entries vs ≡ kept_entries ws) × (spare vs + entries_long (kept_entries ws) ≡ capacity ws)
RepackSays ws vs n (Err x) = (vs ≡ ws) × (n < entries_long (kept_entries ws))

-- the newest record of the key of the record at d
pub record NewestSays (ws : List ℕ) (d e : ℕ) : Type 0 where
  pub stands : Record ws e
  pub is : entry_at ws e ≡ opt (find (kept_entries ws) (entry_at ws d).key) (entry_at ws d) (λ x. x)

-- no key twice
abbrev pub Apart : List Entry → Type 0
Apart [] = Unit {0}
Apart (e ∷ es) = (find es e.key ≡ none) × Apart es

-- the entries that were gathered
abbrev pub gathered : List ℕ → Mark → List Entry
gathered work m = records m.count (deep m.depth work)

-- what a memo can be built again from
pub record Rebuilds (ws work : List ℕ) (m : Mark) : Type 0 where
  pub fits : Fits ws
  pub within : m.depth ≤ length work
  pub plain : Plain m.count (deep m.depth work)
  pub apart : Apart (gathered work m)
  pub room : entries_long (gathered work m) ≤ capacity ws

-- the parts of the record at the front
pub record PartsSays (l : List ℕ) (k : Key) (ans : List ℕ) (c : ℕ) (keys row : List ℕ) : Type 0 where
  pub key : k ≡ key_of l
  pub ans1 : ans ≡ take (slice_index l 4) (drop 7 l)
  pub count : c ≡ slice_index l 5
  pub keys1 : keys ≡ take (3 * slice_index l 5) (drop (7 + slice_index l 4) l)
  pub row1 : row ≡ take (slice_index l 6) (drop (7 + (slice_index l 4 + 3 * slice_index l 5)) l)
