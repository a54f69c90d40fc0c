-- Room: what was worked out so far in a bringing takes no more words than what is kept at its end (log_fits), so a log that is only
-- added to while a key is brought has room wherever the end has.
use Rattle.std.proofs.Common.{ℕ, ◌+◌, ◌≤◌, List, [], ◌∷◌, length, inl, inr, arith}
use mathlib.Core.Option.{Option, some, none}
use Rattle.engine.specs.declared.key.Key.{Key}
use Rattle.engine.specs.Engine.{Rules, Inputs, Got, Entry, Kept, Brought, brought, find}
use Rattle.engine.specs.Theorems.{Falls, Among, NoTwice, Settled, tally, told_of}
use Rattle.engine.proofs.Steps.{stale_not}
use Rattle.engine.specs.Says.{signs_gots, signs_entries}
use Rattle.engine.proofs.Sizes.{size_of, sizes, sizes_same, sizes_signs}
use Rattle.engine.specs.Machine.{State, call, back, tell, mean, pending}
use Rattle.engine.proofs.Invariant.{Holds, kept_of}
use Rattle.engine.proofs.Future.{Future, unwinds, call_future, tell_future}

-- the log of one bringing: keys worked out so far, all settled; b is what comes at the end
pub log_fits : (r : Rules) (i : Inputs) (n : ℕ) (m : Kept) (b : Brought) (done_so_far : List Key) → Future r i n m b → NoTwice done_so_far → ((j : Key) → Among j done_so_far → Settled r i m.entries j) → sizes m.entries done_so_far ≤ signs_entries b.kept.entries
log_fits r i n m b js f once s =
    let a = sizes_same m.entries b.kept.entries js (λ j x. elim (f.step.others j) [ inl y ↦ absurd (stale_not r i m.entries j (f.step.why j y) (s j x)) | inr y ↦ y ]) in
    let c = sizes_signs b.kept.entries js once in
    omega arith

-- from every state on the way the rest is a step
pub future : (r : Rules) (i : Inputs) (fall : Falls r) (n : ℕ) (ws : List Key) (g : ℕ) (c : State) → Holds r i n ws g c → Future r i n (kept_of c) (mean r i n c)
future r i fall n ws g (call m k st) h = call_future r i fall n st m k h.since.fair h.at1.0 h.at1.1
future r i fall n ws g (back m a st) h = unwinds r i fall n st (brought m a) h.at1.0 h.since.fair h.at1.3 h.at1.1 h.at1.2
future r i fall n ws g (tell m k gs st) h =
    let t = h.at1.1 in
    tell_future r i fall n st m k gs h.since.fair h.at1.0 t.part t.few t.right t.settled t.stale h.at1.2

-- so at every state what was worked out so far takes no more words than what is kept at the end
pub room_so_far : (r : Rules) (i : Inputs) (fall : Falls r) (n : ℕ) (ws : List Key) (g : ℕ) (c : State) (h : Holds r i n ws g c) → sizes (kept_of c).entries h.since.js ≤ signs_entries (mean r i n c).kept.entries
room_so_far r i fall n ws g c h = log_fits r i n (kept_of c) (mean r i n c) h.since.js (future r i fall n ws g c h) h.since.once h.since.settled

-- and rules were told no more often than what was worked out so far has words, but for the rules that aren't done
tally_sizes : (es : List Entry) (js : List Key) → tally es js ≤ sizes es js
tally_sizes es [] = omega arith
tally_sizes es (j ∷ js) = go (find es j) (tally_sizes es js)
  where
    longer : (gs : List Got) → length gs ≤ signs_gots gs
    longer [] = omega arith
    longer (g ∷ gs) = let h = longer gs in omega arith

    go : (o : Option Entry) → tally es js ≤ sizes es js → told_of o + tally es js ≤ size_of o + sizes es js
    go none ih = omega arith
    go (some e) ih = let h = longer e.gots in omega (arith, h, ih)

pub told_so_far : (r : Rules) (i : Inputs) (n : ℕ) (ws : List Key) (g : ℕ) (c : State) (h : Holds r i n ws g c) → (kept_of c).goes ≤ g + (sizes (kept_of c).entries h.since.js + pending c)
told_so_far r i n ws g c h =
    let a = h.since.told in let b = tally_sizes (kept_of c).entries h.since.js in
    omega (arith, a, b)
