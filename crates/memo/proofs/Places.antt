-- Places in the row: depths, and records that stand at them.
use Rattle.std.proofs.Common.{◌≡◌, ℕ, suc, ◌+◌, ◌-◌, ◌<◌, ◌≤◌, true, List, length, get_or, drop, sym, ap, ◌∙◌, arith, length-drop}
use mathlib.Core.Option.{some}
use Rattle.std.proofs.lemmas.List.{get_or-drop, get_or-take}
use Rattle.engine.specs.declared.key.Key.{Key}
use Rattle.base.specs.Base.{pick}
use Rattle.engine.specs.Engine.{same_key, find}
use Rattle.memo.specs.Record.{key_of, size, entry_of, older, records, deep}
use Rattle.memo.specs.Log.{heads, One, log, Fits, Record, Reaches}
use Rattle.memo.proofs.Chains.{Suffix, suffix_drop, reach_suffix, reach_logged, key_in}

pub deep_word : (ws : List ℕ) (d i : ℕ) → get_or ws (length ws - d + i) 0 ≡ get_or (deep d ws) i 0
deep_word ws d i = sym (get_or-drop (length ws - d) ws i 0)

pub deep_long : (ws : List ℕ) (d : ℕ) → d ≤ length ws → length (deep d ws) ≡ d
deep_long ws d h = let e = length-drop (length ws - d) ws in omega arith

-- what is reached in the log is a last part of the row
pub in_row : (ws : List ℕ) → Fits ws → {m : ℕ} {l : List ℕ} → Reaches (get_or ws 1 0) (log ws) m l → Suffix ws l
in_row ws f {l = l} r = suffix_drop ws (length ws - get_or ws 0 0) l (omega arith) (reach_suffix (get_or ws 2 0) f.logged r)

pub is_deep : (ws l : List ℕ) (d : ℕ) → Suffix ws l → length l ≡ d → l ≡ deep d ws
is_deep ws l d s e = s.is ∙ ap (λ n. drop (length ws - n) ws) e

-- a record that stands
pub record Stands (ws : List ℕ) (d : ℕ) : Type 0 where
  pub m : ℕ
  pub one : One (get_or ws 2 0) m (deep d ws)
  pub inside : size (deep d ws) ≤ d
  pub within : d ≤ length ws

pub stands : (ws : List ℕ) (d : ℕ) → Fits ws → Record ws d → Stands ws d
stands ws d f r =
    let one = (reach_logged (get_or ws 2 0) f.logged r.reached).0 in
    let s = in_row ws f r.reached in
    let a = s.short in
    let e = r.long in
    let i = one.inside in
    record { m = r.count; one = one; inside = omega arith; within = omega arith }

pub head_at : (ws : List ℕ) (i : ℕ) → Fits ws → i < get_or ws 2 0 → get_or ws (3 + i) 0 ≡ get_or (heads (get_or ws 2 0) (get_or ws 1 0) (log ws)) i 0
head_at ws i f h = sym (get_or-drop 3 ws i 0) ∙ sym (get_or-take (get_or ws 2 0) (drop 3 ws) i 0 h) ∙ ap (λ xs. get_or xs i 0) f.index

pub first_some : (m : ℕ) (l : List ℕ) (k : Key) → same_key (key_of l) k ≡ true → find (records (suc m) l) k ≡ some (entry_of l)
first_some m l k p = ap (λ c. pick c (some (entry_of l)) (find (records m (older l)) k)) (ap (λ j. same_key j k) (key_in l) ∙ p)
