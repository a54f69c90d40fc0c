-- A record more: the row is in order then, what it holds is what was held with the entry stored over it, and all that stood stands
-- (append_fits, append_says, append_keeps).
use Rattle.std.proofs.Common.{◌≡◌, ℕ, zero, suc, ◌+◌, ◌-◌, ◌*◌, ◌<◌, ◌≤◌, List, [], ◌++◌, length, get_or, take, drop, set, sym, refl, ap, ◌∙◌, subst, add-one, arith, length-append, length-drop, length-set}
use lib.Seq.{take-set-lt}
use Rattle.std.proofs.lemmas.List.{drop-drop, drop_at, drop-take, drop-set-lt, drop-set-add, get_or-set_same, get_or-set_other, get_or-take}
use Rattle.engine.specs.declared.key.Key.{Key}
use Rattle.std.specs.Prelude.{Ok, Err}
use Rattle.memo.specs.declared.log.NoRoom.{NoRoom}
use Rattle.memo.specs.declared.mark.Mark.{Mark}
use Rattle.engine.specs.Engine.{store}
use Rattle.memo.specs.Record.{records, size, older, entry_of, deep, puts, packed, made, gots_of, row_long}
use Rattle.memo.specs.Log.{folded, entry_at, entries_at, heads, bucket, Logged, log, Fits, Record, Marked, Reaches, back, kept_entries, pointed, spare}
use Rattle.memo.specs.Says.{Keeps, Looks, AtGot, StoreSays}
use Rattle.memo.proofs.Chains.{reach_suffix, bucket_lt}
use Rattle.memo.proofs.Places.{deep_long, head_at}
use Rattle.memo.proofs.Puts.{length_puts, take_puts, drop_puts}
use Rattle.memo.proofs.Packs.{packed_long, older_is, entry_is, one_is, entry_sum}

module _ (ws : List ℕ) (b h d n : ℕ) where
  pub pointed_long : length (pointed ws b h d n) ≡ length ws
  pointed_long = simp length-set

  pub pointed_0 : 3 ≤ length ws → get_or (pointed ws b h d n) 0 0 ≡ d
  pointed_0 l = let e = length-set ws (3 + b) h in get_or-set_other (set (set ws (3 + b) h) 0 d) 1 0 n 0 (λ q. omega arith) ∙ get_or-set_same (set ws (3 + b) h) 0 d 0 (omega arith)

  pub pointed_1 : 3 ≤ length ws → get_or (pointed ws b h d n) 1 0 ≡ n
  pointed_1 l = let e = length-set ws (3 + b) h in let f = length-set (set ws (3 + b) h) 0 d in get_or-set_same (set (set ws (3 + b) h) 0 d) 1 n 0 (omega arith)

  pub pointed_2 : get_or (pointed ws b h d n) 2 0 ≡ get_or ws 2 0
  pointed_2 = get_or-set_other (set (set ws (3 + b) h) 0 d) 1 2 n 0 (λ q. omega arith) ∙ get_or-set_other (set ws (3 + b) h) 0 2 d 0 (λ q. omega arith) ∙ get_or-set_other ws (3 + b) 2 h 0 (λ q. omega arith)

  pub pointed_drop : (j : ℕ) → 3 + b < j → drop j (pointed ws b h d n) ≡ drop j ws
  pointed_drop j l = let p : 0 < j = omega arith in let q : 1 < j = omega arith in drop-set-lt j (set (set ws (3 + b) h) 0 d) 1 n q ∙ drop-set-lt j (set ws (3 + b) h) 0 d p ∙ drop-set-lt j ws (3 + b) h l

  pub pointed_index : (m : ℕ) → b < m → take m (drop 3 (pointed ws b h d n)) ≡ set (take m (drop 3 ws)) b h
  pointed_index m l =
      ap (take m) (drop-set-lt 3 (set (set ws (3 + b) h) 0 d) 1 n (omega arith) ∙ drop-set-lt 3 (set ws (3 + b) h) 0 d (omega arith) ∙ drop-set-add 3 ws b h) ∙
      take-set-lt m (drop 3 ws) b h l

module _ (vs : List ℕ) (b n d : ℕ) (l : List ℕ) (eb : get_or vs 2 0 ≡ b) (en : get_or vs 1 0 ≡ n) (ed : get_or vs 0 0 ≡ d) (el : deep d vs ≡ l) where
  pub log_is : log vs ≡ l
  log_is = ap (λ x. deep x vs) ed ∙ el

  pub refit : 1 ≤ b → 3 + b + d ≤ length vs → take b (drop 3 vs) ≡ heads b n l → Logged b n l → Fits vs
  refit h r i w =
      let e = log_is in
      record {
        buckets = omega arith;
        room = omega arith;
        index = ap (λ x. take x (drop 3 vs)) eb ∙ i ∙ (λ t. heads (sym eb t) (sym en t) (sym e t));
        logged = subst (λ x. Logged x (get_or vs 1 0) (log vs)) (sym eb) (subst (λ x. Logged b x (log vs)) (sym en) (subst (Logged b n) (sym e) w));
      }

  pub refold : kept_entries vs ≡ folded (records n l)
  unfolding kept_entries
  refold = let e = log_is in λ t. folded (records (en t) (e t))

pub reach_low : (ws : List ℕ) (f : Fits ws) {m : ℕ} (d : ℕ) → Reaches (get_or ws 1 0) (log ws) m (deep d ws) → length (deep d ws) ≡ d → d ≤ get_or ws 0 0
reach_low ws f d r e = let s = (reach_suffix (get_or ws 2 0) f.logged r).short in let x = deep_long ws (get_or ws 0 0) (omega arith) in omega arith

-- one record more: all that stood still stands
pub keeps_more : (ws vs l : List ℕ) → Fits ws → get_or vs 1 0 ≡ suc (get_or ws 1 0) → log vs ≡ l → older l ≡ log ws → ((d : ℕ) → d ≤ get_or ws 0 0 → deep d vs ≡ deep d ws) → Keeps ws vs
unfolding entry_at entries_at
keeps_more ws vs l f en el eo same = record { records1 = rec1; looks = look1; marks = mark1 }
  where
    up : (m d : ℕ) → Reaches (get_or ws 1 0) (log ws) m (deep d ws) → d ≤ get_or ws 0 0 → Reaches (get_or vs 1 0) (log vs) m (deep d vs)
    up m d r h =
        subst (λ n. Reaches n (log vs) m (deep d vs)) (sym en) (subst (λ q. Reaches (suc (get_or ws 1 0)) q m (deep d vs)) (sym el)
        (back (subst (λ q. Reaches (get_or ws 1 0) q m (deep d vs)) (sym eo) (subst (Reaches (get_or ws 1 0) (log ws) m) (sym (same d h)) r))))

    rec1 : (d : ℕ) → Record ws d → Record vs d × (entry_at vs d ≡ entry_at ws d)
    rec1 d r =
        let h = reach_low ws f d r.reached r.long in
        (record { count = r.count; reached = up (suc r.count) d r.reached h; long = ap length (same d h) ∙ r.long }, ap entry_of (same d h))

    look1 : (d i q : ℕ) → Looks ws d i q → Looks vs d i q
    look1 d i q r = let h = reach_low ws f d r.record1.reached r.record1.long in record { record1 = (rec1 d r.record1).0; «at» = subst (λ l. AtGot l i q) (sym (same d h)) r.«at» }

    mark1 : (m : Mark) → Marked ws m → Marked vs m × (entries_at vs m ≡ entries_at ws m)
    mark1 m r =
        let h = reach_low ws f m.depth r.reached r.long in
        (record { reached = up m.count m.depth r.reached h; long = ap length (same m.depth h) ∙ r.long }, ap (λ q. folded (records m.count q)) (same m.depth h))

module _ (ws : List ℕ) (f : Fits ws) (k : Key) (ans : List ℕ) (c : ℕ) (keys row : List ℕ) (kl : length keys ≡ 3 * c) (rl : row_long c row ≡ length row) (b : ℕ) (eb : b ≡ bucket k (get_or ws 2 0))
    (fit : 7 + (length ans + (length keys + length row)) ≤ length ws - (3 + get_or ws 2 0 + get_or ws 0 0)) where
  abbrev long : ℕ
  long = 7 + (length ans + (length keys + length row))

  abbrev p : ℕ
  p = length ws - get_or ws 0 0 - long

  abbrev part : List ℕ
  part = packed k (get_or ws (3 + b) 0) ans c keys row

  abbrev us : List ℕ
  us = puts p part ws

  abbrev vs : List ℕ
  vs = pointed us b (get_or ws 0 0 + long) (get_or ws 0 0 + long) (get_or ws 1 0 + 1)

  abbrev l : List ℕ
  l = part ++ log ws

  below : b < get_or ws 2 0
  below = subst (λ x. x < get_or ws 2 0) (sym eb) (bucket_lt k (get_or ws 2 0) f.buckets)

  part_long : length part ≡ long
  part_long = packed_long k (get_or ws (3 + b) 0) ans c keys row (log ws) kl rl

  us_long : length us ≡ length ws
  us_long = let x = part_long in let r = f.room in length_puts p part ws (omega arith)

  vs_long : length vs ≡ length ws
  vs_long = pointed_long us b _ _ _ ∙ us_long

  front : (i : ℕ) → i ≤ 3 + get_or ws 2 0 → take i us ≡ take i ws
  front i h = let x = part_long in let r = f.room in take_puts p part ws i (omega arith) (omega arith)

  v2 : get_or vs 2 0 ≡ get_or ws 2 0
  v2 = pointed_2 us b _ _ _ ∙ sym (get_or-take 3 us 2 0 (omega arith)) ∙ ap (λ q. get_or q 2 0) (front 3 (omega arith)) ∙ get_or-take 3 ws 2 0 (omega arith)

  v1 : get_or vs 1 0 ≡ suc (get_or ws 1 0)
  v1 = let x = us_long in let r = f.room in pointed_1 us b _ _ _ (omega arith) ∙ add-one (get_or ws 1 0)

  v0 : get_or vs 0 0 ≡ get_or ws 0 0 + long
  v0 = let x = us_long in let r = f.room in pointed_0 us b _ _ _ (omega arith)

  kept_drop : (j : ℕ) → 3 + get_or ws 2 0 ≤ j → drop j vs ≡ drop j us
  kept_drop j h = let x = below in pointed_drop us b _ _ _ j (omega arith)

  new_log : deep (get_or ws 0 0 + long) vs ≡ l
  new_log =
      let x = part_long in
      let y = vs_long in
      let r = f.room in
      let z : length vs - (get_or ws 0 0 + long) ≡ p = omega arith in
      let w : p + length part ≡ length ws - get_or ws 0 0 = omega arith in
      ap (λ n. drop n vs) z ∙ kept_drop p (omega arith) ∙ drop_puts p part ws (omega arith) ∙ ap (λ n. part ++ drop n ws) w

  old_part : (d : ℕ) → d ≤ get_or ws 0 0 → deep d vs ≡ deep d ws
  old_part d h =
      let x = part_long in
      let y = vs_long in
      let r = f.room in
      let z : length vs - d ≡ (length ws - get_or ws 0 0) + (get_or ws 0 0 - d) = omega arith in
      let w : (length ws - get_or ws 0 0) + (get_or ws 0 0 - d) ≡ length ws - d = omega arith in
      let q : p + length part ≡ length ws - get_or ws 0 0 = omega arith in
      let u : drop (length ws - get_or ws 0 0) us ≡ log ws =
      ap (λ n. drop n us) (sym q) ∙ sym (drop-drop (length part) p us) ∙ ap (drop (length part)) (drop_puts p part ws (omega arith) ∙ ap (λ n. part ++ drop n ws) q) ∙ drop_at part (log ws) (length part) refl in
      ap (λ n. drop n vs) z ∙ sym (drop-drop (get_or ws 0 0 - d) (length ws - get_or ws 0 0) vs) ∙ ap (drop (get_or ws 0 0 - d)) (kept_drop (length ws - get_or ws 0 0) (omega arith) ∙ u) ∙
      drop-drop (get_or ws 0 0 - d) (length ws - get_or ws 0 0) ws ∙ ap (λ n. drop n ws) w

  old_log : older l ≡ log ws
  old_log = older_is k (get_or ws (3 + b) 0) ans c keys row (log ws) kl rl

  l_long : length l ≡ get_or ws 0 0 + long
  l_long = let x = part_long in let r = f.room in let y = deep_long ws (get_or ws 0 0) (omega arith) in let z = length-append part (log ws) in omega arith

  head : get_or ws (3 + b) 0 ≡ get_or (heads (get_or ws 2 0) (get_or ws 1 0) (log ws)) (bucket k (get_or ws 2 0)) 0
  head = head_at ws b f below ∙ ap (λ i. get_or (heads (get_or ws 2 0) (get_or ws 1 0) (log ws)) i 0) eb

  new_index : take (get_or ws 2 0) (drop 3 vs) ≡ heads (get_or ws 2 0) (suc (get_or ws 1 0)) l
  new_index =
      let n = get_or ws 2 0 in
      let o = sym old_log in
      let m = sym l_long in
      pointed_index us b _ _ _ n below ∙
      ap (λ q. set q b (get_or ws 0 0 + long)) (sym (drop-take 3 n us) ∙ ap (drop 3) (front (3 + n) (omega arith)) ∙ drop-take 3 n ws ∙ f.index) ∙
      (λ t. set (heads n (get_or ws 1 0) (o t)) (eb t) (m t))

  new_logged : Logged (get_or ws 2 0) (suc (get_or ws 1 0)) l
  new_logged = (one_is k (get_or ws (3 + b) 0) ans c keys row (log ws) kl rl (get_or ws 2 0) (get_or ws 1 0) head, subst (Logged (get_or ws 2 0) (get_or ws 1 0)) (sym old_log) f.logged)

  pub append_fits : Fits vs
  append_fits = let x = vs_long in let r = f.room in refit vs (get_or ws 2 0) (suc (get_or ws 1 0)) (get_or ws 0 0 + long) l v2 v1 v0 new_log f.buckets (omega arith) new_index new_logged

  pub append_keeps : Keeps ws vs
  append_keeps = keeps_more ws vs l f v1 (log_is vs (get_or ws 2 0) (suc (get_or ws 1 0)) (get_or ws 0 0 + long) l v2 v1 v0 new_log) old_log old_part

  pub append_buckets : get_or vs 2 0 ≡ get_or ws 2 0
  append_buckets = v2

  pub append_says : StoreSays (made k ans (gots_of c keys row)) ws vs (Ok tt)
  unfolding spare kept_entries
  append_says =
      let o = old_log in
      let e = entry_is k (get_or ws (3 + b) 0) ans c keys row (log ws) kl rl in
      let s = entry_sum k (get_or ws (3 + b) 0) ans c keys row (log ws) kl rl in
      let x2 = v2 in
      let x0 = v0 in
      let x = vs_long in (
        refold vs (get_or ws 2 0) (suc (get_or ws 1 0)) (get_or ws 0 0 + long) l v2 v1 v0 new_log ∙ (λ t. store (e t) (folded (records (get_or ws 1 0) (o t)))),
        omega arith,
      )

pub refused : (x : NoRoom) (ws : List ℕ) (k : Key) (ans : List ℕ) (c : ℕ) (keys row : List ℕ) → length keys ≡ 3 * c → row_long c row ≡ length row → spare ws < 7 + (length ans + (length keys + length row))
    → StoreSays (made k ans (gots_of c keys row)) ws ws (Err x)
refused x ws k ans c keys row kl rl h = let s = entry_sum k 0 ans c keys row [] kl rl in (refl, omega arith)

pub keeps_self : (ws : List ℕ) → Keeps ws ws
keeps_self ws = record { records1 = λ d r. (r, refl); looks = λ d i q r. r; marks = λ m r. (r, refl) }

-- a record has words, so there are fewer records than words
pub few : (b n : ℕ) (ws : List ℕ) → Logged b n ws → n ≤ length ws
few b zero ws h = omega arith
few b (suc n) ws h = let r = few b n (older ws) h.1 in let i = h.0.inside in let l = length-drop (size ws) ws in omega arith

-- how much room there is
pub spare_is : (ws : List ℕ) → spare ws ≡ length ws - (3 + get_or ws 2 0 + get_or ws 0 0)
unfolding spare
spare_is ws = refl
