-- The index over a log: the head of a bucket leads to the newest record of a key (head_finds), and each record on to the next
-- (next_finds).
use Rattle.std.proofs.Common.{◌≡◌, ℕ, zero, suc, ◌+◌, ◌-◌, ◌<◌, ◌≤◌, Bool, true, false, ◌⊎◌, List, ◌∷◌, length, get_or, drop, set, sym, refl, ap, ◌∙◌, subst, inl, inr, mod-lt, arith, length-drop, length-set}
use mathlib.Core.Option.{some}
use lib.ListN.{length-replicate, get_or-replicate}
use Rattle.std.proofs.lemmas.List.{drop-drop, get_or-set_same, get_or-set_other}
use Rattle.std.proofs.lemmas.Bool.{cases_eq}
use Rattle.engine.specs.declared.key.Key.{Key}
use Rattle.base.specs.Base.{pick}
use Rattle.engine.specs.Engine.{Entry, same_key, find}
use Rattle.memo.specs.Record.{key_of, size, entry_of, older, records}
use Rattle.memo.specs.Log.{bucket, heads, One, Logged, Reaches, here, back}
use Rattle.engine.proofs.Basics.{key_true}
use Rattle.memo.specs.Chain.{There, Found}

pub bucket_lt : (k : Key) (b : ℕ) → 1 ≤ b → bucket k b < b
unfolding bucket
bucket_lt k b h = mod-lt _ h

pub heads_long : (b n : ℕ) (ws : List ℕ) → length (heads b n ws) ≡ b
heads_long b zero ws = length-replicate b 0
heads_long b (suc n) ws = length-set (heads b n (older ws)) (bucket (key_of ws) b) (length ws) ∙ heads_long b n (older ws)

pub reach_logged : (b : ℕ) {n m : ℕ} {ws l : List ℕ} → Logged b n ws → Reaches n ws m l → Logged b m l
reach_logged b h here = h
reach_logged b h (back r) = reach_logged b h.1 r

pub reach_on : {n m j : ℕ} {ws l q : List ℕ} → Reaches n ws m l → Reaches m l j q → Reaches n ws j q
reach_on here s = s
reach_on (back r) s = back (reach_on r s)

pub record Suffix (ws l : List ℕ) : Type 0 where
  pub short : length l ≤ length ws
  pub is : l ≡ drop (length ws - length l) ws

pub suffix_self : (ws : List ℕ) → Suffix ws ws
suffix_self ws = let z : 0 ≡ length ws - length ws = omega arith in record { short = omega arith; is = ap (λ n. drop n ws) z }

pub suffix_drop : (ws : List ℕ) (s : ℕ) (l : List ℕ) → s ≤ length ws → Suffix (drop s ws) l → Suffix ws l
suffix_drop ws s l h x =
    let e = length-drop s ws in
    let f = x.short in
    let z : s + (length (drop s ws) - length l) ≡ length ws - length l = omega arith in
    record { short = omega arith; is = x.is ∙ drop-drop (length (drop s ws) - length l) s ws ∙ ap (λ n. drop n ws) z }

pub reach_suffix : (b : ℕ) {n m : ℕ} {ws l : List ℕ} → Logged b n ws → Reaches n ws m l → Suffix ws l
reach_suffix b {ws = ws} h here = suffix_self ws
reach_suffix b {ws = ws} {l = l} h (back r) = suffix_drop ws (size ws) l h.0.inside (reach_suffix b h.1 r)

pub key_in : (ws : List ℕ) → (entry_of ws).key ≡ key_of ws
unfolding entry_of
key_in ws = refl

skip : (es : List Entry) (e : Entry) (k : Key) → (e.key ≡ k → ⊥) → find (e ∷ es) k ≡ find es k
skip es e k h = go (same_key e.key k) refl
  where
    go : (c : Bool) → same_key e.key k ≡ c → find (e ∷ es) k ≡ find es k
    go true p = absurd (h (key_true e.key k p))
    go false p = ap (λ c. pick c (some e) (find es k)) p

pub skip_first : (n : ℕ) (ws : List ℕ) (k : Key) → (key_of ws ≡ k → ⊥) → find (records (suc n) ws) k ≡ find (records n (older ws)) k
skip_first n ws k h = skip (records n (older ws)) (entry_of ws) k (λ e. h (sym (key_in ws) ∙ e))

further : (b n : ℕ) (ws : List ℕ) (k : Key) (d : ℕ) → find (records (suc n) ws) k ≡ find (records n (older ws)) k → Found b n (older ws) k d → Found b (suc n) ws k d
further b n ws k d e (inl x) = inl (x.0, e ∙ x.1)
further b n ws k d e (inr x) = inr (record { m = x.m; l = x.l; reached = back x.reached; long = x.long; same1 = e ∙ x.same1; bucket1 = x.bucket1 })

pub head_finds : (b n : ℕ) (ws : List ℕ) (k : Key) → 1 ≤ b → Found b n ws k (get_or (heads b n ws) (bucket k b) 0)
head_finds b zero ws k h = inl (get_or-replicate b (bucket k b) 0 0 (bucket_lt k b h), refl)
head_finds b (suc n) ws k h = go (head_finds b n (older ws) k h) (cases_eq (bucket (key_of ws) b) (bucket k b))
  where
    go : Found b n (older ws) k (get_or (heads b n (older ws)) (bucket k b) 0) → (bucket (key_of ws) b ≡ bucket k b) ⊎ (bucket (key_of ws) b ≡ bucket k b → ⊥) → Found b (suc n) ws k (get_or (heads b (suc n) ws) (bucket k b) 0)
    go r (inl p) =
        let lt = bucket_lt k b h in
        let lo = heads_long b n (older ws) in
        let e : get_or (heads b (suc n) ws) (bucket k b) 0 ≡ length ws = ap (λ i. get_or (set (heads b n (older ws)) i (length ws)) (bucket k b) 0) p ∙ get_or-set_same (heads b n (older ws)) (bucket k b) (length ws) 0 (omega arith) in
        inr (record { m = n; l = ws; reached = here; long = sym e; same1 = refl; bucket1 = p })
    go r (inr p) =
        let e : get_or (heads b (suc n) ws) (bucket k b) 0 ≡ get_or (heads b n (older ws)) (bucket k b) 0 = get_or-set_other (heads b n (older ws)) (bucket (key_of ws) b) (bucket k b) (length ws) 0 (λ q. p (sym q)) in
        subst (Found b (suc n) ws k) (sym e) (further b n ws k _ (skip_first n ws k (λ q. p (ap (λ j. bucket j b) q))) r)

-- one step along a chain
pub next_finds : (b n : ℕ) (ws : List ℕ) (k : Key) (d : ℕ) → 1 ≤ b → Logged b n ws → (t : There b n ws k d) → (key_of t.l ≡ k → ⊥) → Found b n ws k (get_or t.l 3 0)
next_finds b n ws k d h w t ne = go (head_finds b t.m (older t.l) k h)
  where
    one : One b t.m t.l
    one = (reach_logged b w t.reached).0

    e : get_or t.l 3 0 ≡ get_or (heads b t.m (older t.l)) (bucket k b) 0
    e = one.prev ∙ ap (λ i. get_or (heads b t.m (older t.l)) i 0) t.bucket1

    s : find (records n ws) k ≡ find (records t.m (older t.l)) k
    s = t.same1 ∙ skip_first t.m t.l k ne

    go : Found b t.m (older t.l) k (get_or (heads b t.m (older t.l)) (bucket k b) 0) → Found b n ws k (get_or t.l 3 0)
    go (inl x) = inl (e ∙ x.0, s ∙ x.1)
    go (inr x) = inr (record { m = x.m; l = x.l; reached = reach_on t.reached (back x.reached); long = x.long ∙ sym e; same1 = s ∙ x.same1; bucket1 = x.bucket1 })

pub head_low : (b n : ℕ) (ws : List ℕ) (k : Key) → 1 ≤ b → Logged b n ws → get_or (heads b n ws) (bucket k b) 0 ≤ length ws
head_low b n ws k h w = go (head_finds b n ws k h)
  where
    go : Found b n ws k (get_or (heads b n ws) (bucket k b) 0) → get_or (heads b n ws) (bucket k b) 0 ≤ length ws
    go (inl x) = let e = x.0 in omega arith
    go (inr x) = let s = (reach_suffix b w x.reached).short in let e = x.long in omega arith

pub prev_low : (b n : ℕ) (ws : List ℕ) → 1 ≤ b → Logged b (suc n) ws → get_or ws 3 0 < length ws
prev_low b n ws h w = let e = w.0.prev in let i = w.0.inside in let s = length-drop (size ws) ws in let t = head_low b n (older ws) (key_of ws) h w.1 in omega arith
