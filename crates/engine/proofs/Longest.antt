-- No answer on the way is longer than the words of the entries that are kept at the end: an answer that comes back to a frame stands in the
-- entry that the waiting key has then (back_fits), and an answer that a rule is done with in its own (done_fits); with the stack and what
-- the rule is told, too (narrow_fits).
use Rattle.std.proofs.Common.{◌≡◌, ℕ, suc, ◌+◌, ◌-◌, ◌≤◌, false, List, [], ◌∷◌, ◌++◌, length, sym, refl, ap, ◌∙◌, subst, append-nil, arith, length-append}
use mathlib.Core.Option.{some}
use Rattle.std.proofs.lemmas.Bool.{both_ways}
use Rattle.engine.specs.declared.key.Key.{Key}
use Rattle.engine.specs.Engine.{Brought, Ans, Then, ask, done, Rules, Inputs, Got, Entry, Kept, brought, find, answers}
use Rattle.engine.specs.Says.{row, answer_long, signs_gots, signs_entries}
use Rattle.engine.specs.Theorems.{Falls, value, Asked, ends, asks, first, later, blank, another, Settled, given, stands}
use Rattle.engine.specs.Machine.{Frame, looks, works as works1, back, tell, got, working, below, unwind, mean, state_signs}
use Rattle.engine.proofs.Basics.{find_here, length_answers}
use Rattle.engine.proofs.Settled.{Fair, Right, entry_right}
use Rattle.engine.proofs.Worth.{value_asked}
use Rattle.engine.proofs.Brings.{Worked, works, brings}
use Rattle.engine.proofs.Sizes.{size_of, sizes_signs, signs_more}
use Rattle.engine.proofs.Frames.{LooksOk, Deep, deep_moves}
use Rattle.engine.proofs.Invariant.{Holds}
use Rattle.engine.proofs.Future.{finished_mid, back_worked, handed, one_more, unwinds}
use Rattle.engine.proofs.Stacks.{Entered, settled_entered, worked_entered, stays, entered_size, entered_sizes, frame_keys, deep_apart, deep_once, on_top}

-- two runs of a rule over right answers go the same way: the question behind 'before' is asked in the other run too
pub run_long : (r : Rules) (i : Inputs) (f : List Ans → Then) (as₁ : List Ans) (before : List Got) (g : Got) (gs : List Got) (a : Ans) (hs : List Got) (c : Ans) → Asked f as₁ (before ++ (g ∷ gs)) a → Right r i before → Asked f as₁ hs c → Right r i hs → length (value r i g.key) ≤ signs_gots hs
run_long r i f as₁ [] g gs a [] c (asks p x) v (ends q) w = absurd (let z : ◌≡◌ {A = ℕ} 0 1 = cc in omega arith)
run_long r i f as₁ [] g gs a (h ∷ hs) c (asks p x) v (asks q y) w =
    let same_key1 : g.key ≡ h.key = cc in
    let e : value r i g.key ≡ h.ans = ap (value r i) same_key1 ∙ w h first in
    let l = ap length e in
    omega (arith, l)
run_long r i f as₁ (b ∷ before) g gs a [] c (asks p x) v (ends q) w = absurd (let z : ◌≡◌ {A = ℕ} 0 1 = cc in omega arith)
run_long r i f as₁ (b ∷ before) g gs a (h ∷ hs) c (asks p x) v (asks q y) w =
    let same_key1 : b.key ≡ h.key = cc in
    let e : b.ans ≡ h.ans = sym (v b first) ∙ (ap (value r i) same_key1 ∙ w h first) in
    let x1 = subst (λ (z : Ans). Asked f (as₁ ++ (z ∷ [])) (before ++ (g ∷ gs)) a) e x in
    let ih = run_long r i f (as₁ ++ (h.ans ∷ [])) before g gs a hs c x1 (λ z u. v z (later u)) y (λ z u. w z (later u)) in
    omega (arith, ih)

-- the entry of one key is within all
entry_within : (es : List Entry) (k : Key) (e : Entry) → find es k ≡ some e → size_of (some e) ≤ signs_entries es
entry_within es k e f =
    let a = sizes_signs es (k ∷ []) (another (λ x. elim x [ ]) blank) in
    let b = ap size_of f in
    omega (arith, a, b)

-- an answer that comes back to a key that looks at its entry stands in the entry that the key has at the end
looks_fits : (r : Rules) (i : Inputs) (es fs : List Entry) (l : ℕ) (k : Key) (e : Entry) (g : Got) (gs : List Got) → Fair r es → LooksOk r i l es k e g gs → Fair r fs → Settled r i fs k → length (value r i g.key) ≤ signs_entries fs
looks_fits r i es fs l k e g gs h o hf (given q) = absurd (both_ways _ o.inner q)
looks_fits r i es fs l k e g gs h o hf (stands {e = d} q f s v) =
    let old = subst (λ (x : List Got). Asked (r.next k) [] x e.ans) o.parts (h k e o.found) in
    let a = run_long r i (r.next k) [] o.before g gs e.ans d.gots d.ans old o.right (hf k d f) v in
    let b = entry_within fs k d f in
    omega (arith, a, b)

pub back_fits : (r : Rules) (i : Inputs) (fall : Falls r) (n : ℕ) (ws : List Key) (g : ℕ) (m : Kept) (a : Ans) (fr : Frame) (st : List Frame) → Holds r i n ws g (back m a (fr ∷ st)) → length a ≤ signs_entries (mean r i n (back m a (fr ∷ st))).kept.entries
back_fits r i fall n ws g m a fr st h = go fr h.at1
  where
    go : (fr : Frame) → (q : Key) × (a ≡ value r i q) × Settled r i m.entries q × Deep r i n m.entries q (fr ∷ st) → length a ≤ signs_entries (unwind r i n (fr ∷ st) (brought m a)).kept.entries
    go (looks k e x xs) (q, v, s, (o, w, lo, hi, d)) =
        let fr1 = looks k e x xs in
        let b = brought m a in
        let c = handed r i n st fr1 b in
        let va = v ∙ ap (value r i) (sym w) in
        let one = one_more r i fall n st fr1 b h.since.fair o hi va (subst (Settled r i m.entries) (sym w) s) in
        let rest = unwinds r i fall n st c k one.step.fair (deep_moves r i n (suc (r.rank k)) m.entries m.worked c.kept.entries c.kept.worked one.js k st one.step (omega arith) d) one.right one.settled in
        let z = looks_fits r i m.entries (unwind r i n st c).kept.entries (n - length st) k e x xs h.since.fair o rest.step.fair (rest.step.stays k one.settled) in
        let y = ap length va in
        omega (arith, y, z)
    go (works1 k gs q1) (q, v, s, (o, w, lo, hi, d)) =
        let fr1 = works1 k gs q1 in
        let b = brought m a in
        let c = handed r i n st fr1 b in
        let va = v ∙ ap (value r i) (sym w) in
        let sa = subst (Settled r i m.entries) (sym w) s in
        let one = one_more r i fall n st fr1 b h.since.fair o hi va sa in
        let rest = unwinds r i fall n st c k one.step.fair (deep_moves r i n (suc (r.rank k)) m.entries m.worked c.kept.entries c.kept.worked one.js k st one.step (omega arith) d) one.right one.settled in
        let wk = back_worked r i fall (n - suc (length st)) (below r i n st) (brings r i fall (n - suc (length st))) k (omega arith) (n - length st) b gs q1 h.since.fair o va sa in
        let en = stays r i n c.kept (unwind r i n st c) k (16 + signs_gots (gs ++ (got q1 a ∷ []))) rest one.settled (worked_entered r i k m (gs ++ (got q1 a ∷ [])) c wk) in
        let x = entry_within (unwind r i n st c).kept.entries k en.0 en.1 in
        let y = signs_more gs (got q1 a ∷ []) in
        let z = en.2 in
        omega (arith, x, y, z)

-- what a settled key is worth stands in its entry
settled_long : (r : Rules) (i : Inputs) (fall : Falls r) (fs : List Entry) (k : Key) (a : Ans) → Fair r fs → r.input k ≡ false → Settled r i fs k → value r i k ≡ a → length a ≤ signs_entries fs
settled_long r i fall fs k a h p s v =
    let en = settled_entered r i fs k p s in
    let x = entry_within fs k en.0 en.1 in
    let y = ap length (entry_right r i fall fs k en.0 h p en.1 s ∙ v) in
    omega (arith, x, y)

pub done_fits : (r : Rules) (i : Inputs) (fall : Falls r) (n : ℕ) (ws : List Key) (g : ℕ) (m : Kept) (k : Key) (gs : List Got) (st : List Frame) (a : Ans) → Holds r i n ws g (tell m k gs st) → r.next k (answers gs) ≡ done a → length a ≤ signs_entries (mean r i n (tell m k gs st)).kept.entries
done_fits r i fall n ws g m k gs st a h e =
    let t = h.at1.1 in
    let d = h.at1.2 in
    let l = h.at1.0 in
    let la = length_answers gs in
    let few = t.few in
    let w = works r i fall (n - suc (length st)) (below r i n st) (brings r i fall (n - suc (length st))) k (omega arith) (suc (r.most k) - length gs) gs m h.since.fair t.right t.settled t.part (omega arith) (omega arith) in
    let cm = finished_mid r i fall m k _ gs t.stale w in
    let top = working r (below r i n st) k gs m in
    let rest = unwinds r i fall n st top k cm.step.fair (deep_moves r i n (suc (r.rank k)) m.entries m.worked top.kept.entries top.kept.worked cm.js k st cm.step (omega arith) d) cm.right cm.settled in
    let s = rest.step.stays k cm.settled in
    let asked : Asked (r.next k) [] gs a = rw append-nil at (t.part [] a (ends e)) in
    settled_long r i fall (unwind r i n st top).kept.entries k a rest.step.fair t.stale.0 s (value_asked r i fall k gs a t.stale.0 asked t.right)

-- the entry of a key that was worked out holds its answer too
worked_whole : (r : Rules) (i : Inputs) (k : Key) (m : Kept) (gs : List Got) (b : Brought) → Worked r i k m gs b → Entered b.kept.entries k (16 + (length b.ans + signs_gots gs))
worked_whole r i k m gs b w =
    let e : Entry = record { key = k; ans = w.a; gots = w.gots } in
    let long : 16 + (length w.a + signs_gots gs) ≤ size_of (some e) = let x = ap signs_gots w.parts in let y = signs_more gs w.more in omega (arith, x, y) in
    subst (λ (x : Brought). Entered x.kept.entries k (16 + (length x.ans + signs_gots gs))) (sym w.is) (e, find_here e w.last.entries, long)

-- where a rule is about to be told, the stack, what the rule is told, and the answer that it will come to take no more words together
-- than the end's entries
pub tell_fits : (r : Rules) (i : Inputs) (fall : Falls r) (n : ℕ) (ws : List Key) (g : ℕ) (m : Kept) (k : Key) (gs : List Got) (st : List Frame) → Holds r i n ws g (tell m k gs st) → state_signs (tell m k gs st) + length (value r i k) ≤ signs_entries (mean r i n (tell m k gs st)).kept.entries
tell_fits r i fall n ws g m k gs st h =
    let t = h.at1.1 in
    let d = h.at1.2 in
    let l = h.at1.0 in
    let la = length_answers gs in
    let few = t.few in
    let w = works r i fall (n - suc (length st)) (below r i n st) (brings r i fall (n - suc (length st))) k (omega arith) (suc (r.most k) - length gs) gs m h.since.fair t.right t.settled t.part (omega arith) (omega arith) in
    let cm = finished_mid r i fall m k _ gs t.stale w in
    let top = working r (below r i n st) k gs m in
    let x = on_top r i fall n st m k top cm d in
    let rest = unwinds r i fall n st top k cm.step.fair (deep_moves r i n (suc (r.rank k)) m.entries m.worked top.kept.entries top.kept.worked cm.js k st cm.step (omega arith) d) cm.right cm.settled in
    let whole = subst (λ (z : Ans). Entered top.kept.entries k (16 + (length z + signs_gots gs))) cm.right (worked_whole r i k m gs top w) in
    let en = stays r i n top.kept (unwind r i n st top) k (16 + (length (value r i k) + signs_gots gs)) rest cm.settled whole in
    let a1 = entered_sizes _ st x in
    let a2 = entered_size (unwind r i n st top).kept.entries k (16 + (length (value r i k) + signs_gots gs)) en in
    let b = sizes_signs (mean r i n (tell m k gs st)).kept.entries (k ∷ frame_keys st) (another (deep_apart r i n m.entries k st d) (deep_once r i n m.entries k st d)) in
    omega (arith, a1, a2, b)

-- the row that a rule is told is within what its frame takes
pub row_signs : (gs : List Got) → length (row (answers gs)) ≤ signs_gots gs
row_signs [] = omega arith
row_signs (g ∷ gs) = let h = row_signs gs in let a = length-append g.ans (row (answers gs)) in omega (arith, h, a)

-- so is the answer, if the rule is done now: what a rule may ask for by saying that the room is too narrow is bounded by the end's entries
pub narrow_fits : (r : Rules) (i : Inputs) (fall : Falls r) (n : ℕ) (ws : List Key) (g : ℕ) (m : Kept) (k : Key) (gs : List Got) (st : List Frame) → Holds r i n ws g (tell m k gs st) → state_signs (tell m k gs st) + answer_long (r.next k (answers gs)) ≤ signs_entries (mean r i n (tell m k gs st)).kept.entries
narrow_fits r i fall n ws g m k gs st h = go (r.next k (answers gs)) refl (tell_fits r i fall n ws g m k gs st h)
  where
    go : (t : Then) → r.next k (answers gs) ≡ t → state_signs (tell m k gs st) + length (value r i k) ≤ signs_entries (mean r i n (tell m k gs st)).kept.entries → state_signs (tell m k gs st) + answer_long t ≤ signs_entries (mean r i n (tell m k gs st)).kept.entries
    go (ask q) e x = omega (arith, x)
    go (done a) e x =
        let o = h.at1.1 in
        let asked : Asked (r.next k) [] gs a = rw append-nil at (o.part [] a (ends e)) in
        let y = ap length (value_asked r i fall k gs a o.stale.0 asked o.right) in
        omega (arith, x, y)
