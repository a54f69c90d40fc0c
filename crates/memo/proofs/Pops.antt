-- A record less (pop_popped), so back to a mark (came_back); and the empty memo (empty).
use Rattle.std.proofs.Common.{◌≡◌, ℕ, suc, ◌+◌, ◌-◌, ◌<◌, ◌≤◌, List, [], length, get_or, take, drop, set, replicate, sym, refl, ap, ◌∙◌, subst, arith, length-drop, length-set}
use Rattle.std.proofs.lemmas.List.{drop-drop, drop_all, drop-set-lt, get_or-set_same, get_or-replicate, length-replicate, take_at, set-set, set-get_or}
use Rattle.memo.proofs.Puts.{length_puts, drop_puts}
use Rattle.memo.specs.declared.mark.Mark.{Mark}
use Rattle.memo.specs.Record.{records, key_of, size, older, deep, puts}
use Rattle.memo.specs.Log.{folded, entries_at, heads, bucket, Logged, log, Fits, Marked, Reaches, here, back, kept_entries, pointed, spare}
use Rattle.memo.specs.Says.{Popped}
use Rattle.memo.proofs.Chains.{reach_suffix, bucket_lt}
use Rattle.memo.proofs.Places.{deep_long}
use Rattle.memo.proofs.Appends.{pointed_long, pointed_0, pointed_1, pointed_2, pointed_drop, pointed_index, refit, refold, log_is}

module _ (ws : List ℕ) (f : Fits ws) (n : ℕ) (en : get_or ws 1 0 ≡ suc n) where
  abbrev b : ℕ
  b = bucket (key_of (log ws)) (get_or ws 2 0)

  abbrev vs : List ℕ
  vs = pointed ws b (get_or (log ws) 3 0) (get_or ws 0 0 - size (log ws)) n

  logged1 : Logged (get_or ws 2 0) (suc n) (log ws)
  logged1 = subst (λ m. Logged (get_or ws 2 0) m (log ws)) en f.logged

  log_long : length (log ws) ≡ get_or ws 0 0
  log_long = let r = f.room in deep_long ws (get_or ws 0 0) (omega arith)

  pub sized : size (log ws) ≤ get_or ws 0 0
  sized = let a = logged1.0.inside in let e = log_long in omega arith

  below : b < get_or ws 2 0
  below = bucket_lt (key_of (log ws)) (get_or ws 2 0) f.buckets

  vs_long : length vs ≡ length ws
  vs_long = pointed_long ws b _ _ _

  kept_deep : (d : ℕ) → d ≤ get_or ws 0 0 → deep d vs ≡ deep d ws
  kept_deep d h = let x = vs_long in let r = f.room in let y = below in ap (λ m. drop (m - d) vs) x ∙ pointed_drop ws b _ _ _ (length ws - d) (omega arith)

  new_log : deep (get_or ws 0 0 - size (log ws)) vs ≡ older (log ws)
  new_log =
      let r = f.room in
      let s = sized in
      let z : length ws - (get_or ws 0 0 - size (log ws)) ≡ (length ws - get_or ws 0 0) + size (log ws) = omega arith in
      kept_deep (get_or ws 0 0 - size (log ws)) (omega arith) ∙ ap (λ m. drop m ws) z ∙ sym (drop-drop (size (log ws)) (length ws - get_or ws 0 0) ws)

  new_index : take (get_or ws 2 0) (drop 3 vs) ≡ heads (get_or ws 2 0) n (older (log ws))
  new_index =
      let hs = heads (get_or ws 2 0) n (older (log ws)) in
      pointed_index ws b _ _ _ (get_or ws 2 0) below ∙
      ap (λ q. set q b (get_or (log ws) 3 0)) (f.index ∙ ap (λ m. heads (get_or ws 2 0) m (log ws)) en) ∙
      set-set hs b (length (log ws)) (get_or (log ws) 3 0) ∙ ap (set hs b) logged1.0.prev ∙ set-get_or hs b 0

  v0 : get_or vs 0 0 ≡ get_or ws 0 0 - size (log ws)
  v0 = let r = f.room in pointed_0 ws b _ _ _ (omega arith)

  v1 : get_or vs 1 0 ≡ n
  v1 = let r = f.room in pointed_1 ws b _ _ _ (omega arith)

  v2 : get_or vs 2 0 ≡ get_or ws 2 0
  v2 = pointed_2 ws b _ _ _

  pub pop_fits : Fits vs
  pop_fits = let x = vs_long in let r = f.room in refit vs (get_or ws 2 0) n (get_or ws 0 0 - size (log ws)) (older (log ws)) v2 v1 v0 new_log f.buckets (omega arith) new_index logged1.1

  pub pop_buckets : get_or vs 2 0 ≡ get_or ws 2 0
  pop_buckets = v2

  pub pop_popped : Popped ws vs
  pop_popped =
      let s = sized in
      let x = v0 in
      record { count = en ∙ ap suc (sym v1); log1 = log_is vs (get_or ws 2 0) n (get_or ws 0 0 - size (log ws)) (older (log ws)) v2 v1 v0 new_log; deep1 = kept_deep; shorter = omega arith }

-- whether a mark is reached
pub over : (b : ℕ) {n m : ℕ} {ws l : List ℕ} → Logged b n ws → Reaches n ws m l → length ws ≤ length l → (n ≡ m) × (ws ≡ l)
over b h here e = (refl, refl)
over b {ws = ws} {l = l} h (back r) e = let s = (reach_suffix b h.1 r).short in let i = h.0.inside in let d = length-drop (size ws) ws in absurd (omega arith)

pub further : (b : ℕ) {n m : ℕ} {ws l : List ℕ} → Logged b n ws → Reaches n ws m l → length l < length ws → (j : ℕ) × (n ≡ suc j) × Reaches j (older ws) m l
further b h here e = absurd (omega arith)
further b {n = suc j} h (back r) e = (j, refl, r)

pub came_back : (ws : List ℕ) (m : Mark) → Fits ws → Marked ws m → get_or ws 0 0 ≤ m.depth → kept_entries ws ≡ entries_at ws m
unfolding kept_entries entries_at
came_back ws m f r h =
    let x = f.room in
    let a = deep_long ws (get_or ws 0 0) (omega arith) in
    let e = r.long in
    let o = over (get_or ws 2 0) f.logged r.reached (omega arith) in
    let p = o.0 in
    let q = o.1 in
    λ t. folded (records (p t) (q t))

pub still_marked : (ws vs : List ℕ) (m : Mark) → Fits ws → Marked ws m → m.depth < get_or ws 0 0 → Popped ws vs → Marked vs m × (entries_at vs m ≡ entries_at ws m)
unfolding entries_at
still_marked ws vs m f r h p =
    let x = f.room in
    let a = deep_long ws (get_or ws 0 0) (omega arith) in
    let e = r.long in
    let g = further (get_or ws 2 0) f.logged r.reached (omega arith) in
    let c = p.count in
    let d = g.1 in
    let en : g.0 ≡ get_or vs 1 0 = omega arith in
    let s = p.deep1 m.depth (omega arith) in (
      record {
        reached = subst (Reaches (get_or vs 1 0) (log vs) m.count) (sym s) (subst (λ q. Reaches (get_or vs 1 0) q m.count (deep m.depth ws)) (sym p.log1) (subst (λ j. Reaches j (older (log ws)) m.count (deep m.depth ws)) en g.2));
        long = ap length s ∙ e;
      },
      ap (λ q. folded (records m.count q)) s,
    )

-- what is deeper than a mark has records
pub some_record : (ws : List ℕ) (m : Mark) → Fits ws → Marked ws m → m.depth < get_or ws 0 0 → 0 < get_or ws 1 0
some_record ws m f r h =
    let x = f.room in
    let a = deep_long ws (get_or ws 0 0) (omega arith) in
    let e = r.long in
    let g = further (get_or ws 2 0) f.logged r.reached (omega arith) in
    let d = g.1 in
    omega arith

-- how many buckets an emptied memo has
pub empty_buckets : (ws : List ℕ) (b : ℕ) → 3 + b ≤ length ws → (vs : List ℕ) → vs ≡ pointed (set (puts 3 (replicate b 0) ws) 2 b) 0 0 0 0 → get_or vs 2 0 ≡ b
empty_buckets ws b r vs e =
    let os : List ℕ = replicate b 0 in
    let us = puts 3 os ws in
    let lr : length os ≡ b = length-replicate {A = ℕ} b 0 in
    let l0 : length us ≡ length ws = length_puts 3 os ws (omega arith) in
    ap (λ q. get_or q 2 0) e ∙ pointed_2 (set us 2 b) 0 0 0 0 ∙ get_or-set_same us 2 b 0 (omega arith)

-- an empty memo
pub empty : (ws : List ℕ) (b : ℕ) → 1 ≤ b → 3 + b ≤ length ws → (vs : List ℕ) → vs ≡ pointed (set (puts 3 (replicate b 0) ws) 2 b) 0 0 0 0 → Fits vs × (kept_entries vs ≡ []) × (length ws ≡ 3 + b + spare vs)
unfolding spare
empty ws b h r vs e =
    let os : List ℕ = replicate b 0 in
    let us = puts 3 os ws in
    let ts = set us 2 b in
    let xs = pointed ts 0 0 0 0 in
    let lr : length os ≡ b = length-replicate {A = ℕ} b 0 in
    let l0 : length us ≡ length ws = length_puts 3 os ws (omega arith) in
    let l1 : length ts ≡ length ws = length-set us 2 b ∙ l0 in
    let l2 : length xs ≡ length ws = pointed_long ts 0 0 0 0 ∙ l1 in
    let v0 : get_or xs 0 0 ≡ 0 = pointed_0 ts 0 0 0 0 (omega arith) in
    let v1 : get_or xs 1 0 ≡ 0 = pointed_1 ts 0 0 0 0 (omega arith) in
    let v2 : get_or xs 2 0 ≡ b = pointed_2 ts 0 0 0 0 ∙ get_or-set_same us 2 b 0 (omega arith) in
    let vl : deep 0 xs ≡ [] = drop_all (length xs - 0) xs (omega arith) in
    let t : take b (drop 3 ts) ≡ os = ap (take b) (drop-set-lt 3 us 2 b (omega arith) ∙ drop_puts 3 os ws (omega arith)) ∙ take_at os (drop (3 + length os) ws) b lr in
    let z : get_or os 0 0 ≡ 0 = get_or-replicate b 0 0 0 (omega arith) in
    let i : take b (drop 3 xs) ≡ os = pointed_index ts 0 0 0 0 b (omega arith) ∙ ap (λ q. set q 0 0) t ∙ ap (set os 0) (sym z) ∙ set-get_or os 0 0 in
    let f = refit xs b 0 0 [] v2 v1 v0 vl h (omega arith) i refl in
    let k = refold xs b 0 0 [] v2 v1 v0 vl in (
      subst Fits (sym e) f,
      ap kept_entries e ∙ k,
      subst (λ v. length ws ≡ 3 + b + (length v - (3 + get_or v 2 0 + get_or v 0 0))) (sym e) (omega arith),
    )
