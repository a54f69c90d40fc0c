-- The stack takes no more words than the entries that are kept at the end (stack_fits): every key that waits in it has an entry then,
-- whose questions begin with those that the key has got so far.
use Rattle.std.proofs.Common.{◌≡◌, ℕ, suc, ◌+◌, ◌-◌, ◌<◌, ◌≤◌, false, List, [], ◌∷◌, ◌++◌, length, sym, ap, ◌∙◌, subst, inl, inr, arith}
use mathlib.Core.Option.{some}
use Rattle.std.proofs.lemmas.Bool.{both_ways}
use Rattle.engine.specs.declared.key.Key.{Key}
use Rattle.engine.specs.Engine.{Rules, Inputs, Got, Entry, Kept, Brought, brought, find}
use Rattle.engine.specs.Says.{signs_gots, signs_entries}
use Rattle.engine.specs.Theorems.{Falls, value, Among, here, there, NoTwice, blank, another, Settled, given, stands}
use Rattle.engine.specs.Machine.{Frame, looks, works as works1, State, call, back, tell, got, working, below, unwind, mean, frame_signs, stack_signs, state_signs}
use Rattle.engine.proofs.Basics.{find_here, length_answers}
use Rattle.engine.proofs.Settled.{Fair}
use Rattle.engine.proofs.Steps.{stale_not}
use Rattle.engine.proofs.Brings.{Worked, works, brings}
use Rattle.engine.proofs.Sizes.{size_of, sizes, sizes_signs, signs_more}
use Rattle.engine.proofs.Frames.{key_of, asked_of, FrameOk, Deep, deep_moves}
use Rattle.engine.proofs.Invariant.{Holds}
use Rattle.engine.proofs.Future.{Comes, comes, finished_mid, back_worked, Future, handed, unwind_one, one_more, unwinds}

-- a key has an entry of at least so many words; each key of a stack has one of at least what its frame takes
abbrev pub Entered : List Entry → Key → ℕ → Type 0
Entered es k l = (e : Entry) × (find es k ≡ some e) × (l ≤ size_of (some e))

abbrev pub AllEntered : List Entry → List Frame → Type 0
AllEntered es [] = Unit {0}
AllEntered es (fr ∷ st) = Entered es (key_of fr) (frame_signs fr) × AllEntered es st

pub settled_entered : (r : Rules) (i : Inputs) (es : List Entry) (k : Key) → r.input k ≡ false → Settled r i es k → Entered es k 16
settled_entered r i es k p (given q) = absurd (both_ways _ p q)
settled_entered r i es k p (stands {e = d} q f s v) = (d, f, omega arith)

pub worked_entered : (r : Rules) (i : Inputs) (k : Key) (m : Kept) (gs : List Got) (b : Brought) → Worked r i k m gs b → Entered b.kept.entries k (16 + signs_gots gs)
worked_entered r i k m gs b w =
    let e : Entry = record { key = k; ans = w.a; gots = w.gots } in
    let long : 16 + signs_gots gs ≤ size_of (some e) = let x = ap signs_gots w.parts in let y = signs_more gs w.more in omega (arith, x, y) in
    subst (λ (x : Brought). Entered x.kept.entries k (16 + signs_gots gs)) (sym w.is) (e, find_here e w.last.entries, long)

-- an entry that is settled stays
pub stays : (r : Rules) (i : Inputs) (n : ℕ) (m : Kept) (b : Brought) (k : Key) (l : ℕ) → Future r i n m b → Settled r i m.entries k → Entered m.entries k l → Entered b.kept.entries k l
stays r i n m b k l f s (e, x, y) =
    let unmoved : find b.kept.entries k ≡ find m.entries k = elim (f.step.others k) [ inl z ↦ absurd (stale_not r i m.entries k (f.step.why k z) s) | inr z ↦ z ] in
    (e, unmoved ∙ x, y)

one_entered : (r : Rules) (i : Inputs) (fall : Falls r) (n : ℕ) (st : List Frame) (fr : Frame) (b : Brought) → Fair r b.kept.entries → FrameOk r i (n - length st) b.kept.entries fr → r.rank (key_of fr) < n - length st → b.ans ≡ value r i (asked_of fr) → Settled r i b.kept.entries (asked_of fr) → Settled r i (handed r i n st fr b).kept.entries (key_of fr) → Entered (handed r i n st fr b).kept.entries (key_of fr) (frame_signs fr)
one_entered r i fall n st (looks k e g gs) b h o hi v s t = settled_entered r i _ k o.inner t
one_entered r i fall n st (works1 k gs q) b h o hi v s t =
    let w = back_worked r i fall (n - suc (length st)) (below r i n st) (brings r i fall (n - suc (length st))) k (omega arith) (n - length st) b gs q h o v s in
    let x = worked_entered r i k b.kept (gs ++ (got q b.ans ∷ [])) _ w in
    (x.0, x.1, let y = signs_more gs (got q b.ans ∷ []) in let z = x.2 in omega (arith, y, z))

pub unwinds_entered : (r : Rules) (i : Inputs) (fall : Falls r) (n : ℕ) (st : List Frame) (b : Brought) (k : Key) → Fair r b.kept.entries → Deep r i n b.kept.entries k st → b.ans ≡ value r i k → Settled r i b.kept.entries k → AllEntered (unwind r i n st b).kept.entries st
unwinds_entered r i fall n [] b k h d v s = tt
unwinds_entered r i fall n (fr ∷ st) b k h (o, a, lo, hi, d) v s =
    let c = handed r i n st fr b in
    let va = v ∙ ap (value r i) (sym a) in
    let sa = subst (Settled r i b.kept.entries) (sym a) s in
    let w = one_more r i fall n st fr b h o hi va sa in
    let dm = deep_moves r i n (suc (r.rank (key_of fr))) b.kept.entries b.kept.worked c.kept.entries c.kept.worked w.js (key_of fr) st w.step (omega arith) d in
    let rest = unwinds r i fall n st c (key_of fr) w.step.fair dm w.right w.settled in
    let en = one_entered r i fall n st fr b h o hi va sa w.settled in
    subst (λ (x : Brought). AllEntered x.kept.entries (fr ∷ st)) (sym (unwind_one r i n st fr b))
    (stays r i n c.kept (unwind r i n st c) (key_of fr) (frame_signs fr) rest w.settled en, unwinds_entered r i fall n st c (key_of fr) w.step.fair dm w.right w.settled)

-- the keys of a stack: all of higher rank than what is above, so none twice
abbrev pub frame_keys : List Frame → List Key
frame_keys [] = []
frame_keys (fr ∷ st) = key_of fr ∷ frame_keys st

deep_above : (r : Rules) (i : Inputs) (n : ℕ) (es : List Entry) (k : Key) (st : List Frame) → Deep r i n es k st → (j : Key) → Among j (frame_keys st) → r.rank k < r.rank j
deep_above r i n es k [] d j x = elim x [ ]
deep_above r i n es k (fr ∷ st) (o, a, lo, hi, d) j here = lo
deep_above r i n es k (fr ∷ st) (o, a, lo, hi, d) j (there x) = let z = deep_above r i n es (key_of fr) st d j x in omega arith

pub deep_apart : (r : Rules) (i : Inputs) (n : ℕ) (es : List Entry) (k : Key) (st : List Frame) → Deep r i n es k st → Among k (frame_keys st) → ⊥
deep_apart r i n es k st d x = let z = deep_above r i n es k st d k x in omega arith

pub deep_once : (r : Rules) (i : Inputs) (n : ℕ) (es : List Entry) (k : Key) (st : List Frame) → Deep r i n es k st → NoTwice (frame_keys st)
deep_once r i n es k [] d = blank
deep_once r i n es k (fr ∷ st) (o, a, lo, hi, d) = another (deep_apart r i n es (key_of fr) st d) (deep_once r i n es (key_of fr) st d)

pub entered_size : (es : List Entry) (k : Key) (l : ℕ) → Entered es k l → l ≤ size_of (find es k)
entered_size es k l (e, f, x) = let a = ap size_of f in omega (arith, a, x)

pub entered_sizes : (es : List Entry) (st : List Frame) → AllEntered es st → stack_signs st ≤ sizes es (frame_keys st)
entered_sizes es [] x = omega arith
entered_sizes es (fr ∷ st) (y, x) = let a = entered_size es (key_of fr) (frame_signs fr) y in let h = entered_sizes es st x in omega (arith, a, h)

-- a key on top of a stack that comes to something leaves every key of the stack its entry
pub on_top : (r : Rules) (i : Inputs) (fall : Falls r) (n : ℕ) (st : List Frame) (m : Kept) (k : Key) (b : Brought) → Comes r i m k b → Deep r i n m.entries k st → AllEntered (unwind r i n st b).kept.entries st
on_top r i fall n st m k b w d =
    unwinds_entered r i fall n st b k w.step.fair (deep_moves r i n (suc (r.rank k)) m.entries m.worked b.kept.entries b.kept.worked w.js k st w.step (omega arith) d) w.right w.settled

pub stack_fits : (r : Rules) (i : Inputs) (fall : Falls r) (n : ℕ) (ws : List Key) (g : ℕ) (c : State) → Holds r i n ws g c → state_signs c ≤ signs_entries (mean r i n c).kept.entries
stack_fits r i fall n ws g (call m k st) h =
    let d = h.at1.1 in
    let x = on_top r i fall n st m k _ (comes r i m k _ (brings r i fall (n - length st) m k h.since.fair h.at1.0)) d in
    let a = entered_sizes _ st x in
    let b = sizes_signs (mean r i n (call m k st)).kept.entries (frame_keys st) (deep_once r i n m.entries k st d) in
    omega (arith, a, b)
stack_fits r i fall n ws g (back m a st) h =
    let q = h.at1.0 in
    let d = h.at1.3 in
    let x = unwinds_entered r i fall n st (brought m a) q h.since.fair d h.at1.1 h.at1.2 in
    let a1 = entered_sizes _ st x in
    let b = sizes_signs (mean r i n (back m a st)).kept.entries (frame_keys st) (deep_once r i n m.entries q st d) in
    omega (arith, a1, b)
stack_fits r i fall n ws g (tell m k gs st) h =
    let t = h.at1.1 in
    let d = h.at1.2 in
    let l = h.at1.0 in
    let la = length_answers gs in
    let few = t.few in
    let w = works r i fall (n - suc (length st)) (below r i n st) (brings r i fall (n - suc (length st))) k (omega arith) (suc (r.most k) - length gs) gs m h.since.fair t.right t.settled t.part (omega arith) (omega arith) in
    let cm = finished_mid r i fall m k _ gs t.stale w in
    let top = working r (below r i n st) k gs m in
    let x = on_top r i fall n st m k top cm d in
    let rest = unwinds r i fall n st top k cm.step.fair (deep_moves r i n (suc (r.rank k)) m.entries m.worked top.kept.entries top.kept.worked cm.js k st cm.step (omega arith) d) cm.right cm.settled in
    let en = stays r i n top.kept (unwind r i n st top) k (16 + signs_gots gs) rest cm.settled (worked_entered r i k m gs top w) in
    let a1 = entered_sizes _ st x in
    let a2 = entered_size (unwind r i n st top).kept.entries k (16 + signs_gots gs) en in
    let b = sizes_signs (mean r i n (tell m k gs st)).kept.entries (k ∷ frame_keys st) (another (deep_apart r i n m.entries k st d) (deep_once r i n m.entries k st d)) in
    omega (arith, a1, a2, b)
