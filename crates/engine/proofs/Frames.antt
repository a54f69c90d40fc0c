-- The machine's stack in order: what holds of each frame (FrameOk) and of all together (Deep), and that a step of lower rank leaves it
-- so (deep_moves).
use Rattle.std.proofs.Common.{◌≡◌, ℕ, suc, ◌-◌, ◌<◌, ◌≤◌, false, List, [], ◌∷◌, ◌++◌, length, ◌∙◌, inl, inr, arith}
use mathlib.Core.Option.{some}
use Rattle.engine.specs.declared.key.Key.{Key}
use Rattle.engine.specs.Engine.{ask, Rules, Inputs, Got, Entry, find, answers}
use Rattle.engine.proofs.Settled.{Right, AllSettled}
use Rattle.engine.proofs.Steps.{Stale, stale_moves, Step}
use Rattle.engine.specs.Machine.{Frame, looks, works as works1}
use Rattle.engine.proofs.Worth.{Partial}

-- a key looks at its entry: the questions before this one are settled, with the answers that stand there
pub record LooksOk (r : Rules) (i : Inputs) (l : ℕ) (es : List Entry) (k : Key) (e : Entry) (g : Got) (gs : List Got) : Type 0 where
  pub inner : r.input k ≡ false
  pub rank : r.rank k < l
  pub found : find es k ≡ some e
  pub before : List Got
  pub parts : e.gots ≡ before ++ (g ∷ gs)
  pub right : Right r i before
  pub settled : AllSettled r i es before

-- a key's rule is told: what it got is right and settled, it asks q next, and the key has to be worked out
pub record WorksOk (r : Rules) (i : Inputs) (l : ℕ) (es : List Entry) (k : Key) (gs : List Got) (q : Key) : Type 0 where
  pub inner : r.input k ≡ false
  pub rank : r.rank k < l
  pub part : Partial r k gs
  pub asked : r.next k (answers gs) ≡ ask q
  pub right : Right r i gs
  pub settled : AllSettled r i es gs
  pub stale : Stale r i es k

-- the key that waits in a frame, and the key that it waits for
abbrev pub key_of : Frame → Key
key_of (looks k e g gs) = k
key_of (works1 k gs q) = k

abbrev pub asked_of : Frame → Key
asked_of (looks k e g gs) = g.key
asked_of (works1 k gs q) = q

abbrev pub FrameOk : Rules → Inputs → ℕ → List Entry → Frame → Type 0
FrameOk r i l es (looks k e g gs) = LooksOk r i l es k e g gs
FrameOk r i l es (works1 k gs q) = WorksOk r i l es k gs q

-- the whole stack: each frame waits for the key above it, and ranks grow downwards
abbrev pub Deep : Rules → Inputs → ℕ → List Entry → Key → List Frame → Type 0
Deep r i n es k [] = Unit {0}
Deep r i n es k (fr ∷ st) = FrameOk r i (n - length st) es fr × (asked_of fr ≡ k) × (r.rank k < r.rank (key_of fr)) × (r.rank (key_of fr) < n - length st) × Deep r i n es (key_of fr) st

-- a step below a frame's rank leaves the frame as it was
frame_moves : (r : Rules) (i : Inputs) (l b : ℕ) (es : List Entry) (ws : List Key) (fs : List Entry) (vs : List Key) (js : List Key) (fr : Frame) → Step r i b es ws fs vs js → b ≤ r.rank (key_of fr) → FrameOk r i l es fr → FrameOk r i l fs fr
frame_moves r i l b es ws fs vs js (looks k e g gs) t low o =
    let unmoved : find fs k ≡ find es k = elim (t.others k) [ inl x ↦ absurd (let z = t.low k x in omega arith) | inr x ↦ x ] in
    record { inner = o.inner; rank = o.rank; found = unmoved ∙ o.found; before = o.before; parts = o.parts; right = o.right; settled = λ x y. t.stays x.key (o.settled x y) }
frame_moves r i l b es ws fs vs js (works1 k gs q) t low o =
    let unmoved : find fs k ≡ find es k = elim (t.others k) [ inl x ↦ absurd (let z = t.low k x in omega arith) | inr x ↦ x ] in
    record { inner = o.inner; rank = o.rank; part = o.part; asked = o.asked; right = o.right; settled = λ x y. t.stays x.key (o.settled x y); stale = stale_moves r i es fs k unmoved o.stale }

pub deep_moves : (r : Rules) (i : Inputs) (n b : ℕ) (es : List Entry) (ws : List Key) (fs : List Entry) (vs : List Key) (js : List Key) (k : Key) (st : List Frame) → Step r i b es ws fs vs js → b ≤ suc (r.rank k) → Deep r i n es k st → Deep r i n fs k st
deep_moves r i n b es ws fs vs js k [] t low d = tt
deep_moves r i n b es ws fs vs js k (fr ∷ st) t low (o, a, lo, hi, d) =
    (frame_moves r i (n - length st) b es ws fs vs js fr t (omega arith) o, a, lo, hi, deep_moves r i n b es ws fs vs js (key_of fr) st t (omega arith) d)
