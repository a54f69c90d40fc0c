-- Marks: in a loop over the machine's turns a key that is known to be settled may be answered from its entry, without a look at what
-- it asked. The loop stays on its way (marked_on), there is less to do (marked_less), and the entry's answer is the right one
-- (marked_answer). What a loop has marked stays settled (proofs/Invariant, settled_turn), and each answer that comes back is that of a
-- settled key (At), so every such key may be marked.
use Rattle.std.proofs.Common.{◌≡◌, ℕ, zero, suc, ◌-◌, ◌<◌, false, List, length, sym, ap, ◌∙◌, arith}
use mathlib.Core.Option.{some}
use Rattle.engine.specs.declared.key.Key.{Key}
use Rattle.engine.specs.Engine.{Rules, Inputs, Entry, Kept, find}
use Rattle.engine.specs.Theorems.{Falls, value, Settled}
use Rattle.engine.proofs.Invariant.{holds_marked}
use Rattle.engine.proofs.Loops.{OnTheWay}
use Rattle.engine.proofs.Settled.{entry_right, Fair, settled_bring}
use Rattle.engine.specs.Machine.{Frame, call, back, mean, unwind, left, cost, cost_unwind}

module _ (r : Rules) (i : Inputs) (fall : Falls r) (n : ℕ) (m : Kept) (k : Key) (st : List Frame) (h : Fair r m.entries) (l : r.rank k < n - length st) (s : Settled r i m.entries k) where
  pub mean_marked : mean r i n (back m (value r i k) st) ≡ mean r i n (call m k st)
  mean_marked = ap (unwind r i n st) (sym (settled_bring r i fall (n - length st) m k h l s))

  cost_some : (x : ℕ) → r.rank k < x → 0 < cost r i x m k
  cost_some zero y = omega arith
  cost_some (suc x) y = omega arith

  pub left_marked : left r i n (back m (value r i k) st) < left r i n (call m k st)
  left_marked =
      let a = cost_some (n - length st) l in
      let b = ap (cost_unwind r i n st) (settled_bring r i fall (n - length st) m k h l s) in
      omega (arith, a, b)

module _ (r : Rules) (i : Inputs) (fall : Falls r) (m : Kept) (k : Key) (l : Kept) (q : Key) (st : List Frame) (w : OnTheWay r i m k (call l q st)) (s : Settled r i l.entries q) where
  pub marked_on : OnTheWay r i m k (back l (value r i q) st)
  marked_on = record {
    holds = holds_marked r i fall (suc (r.rank k)) m.worked m.goes l q st w.holds s;
    comes = mean_marked r i fall (suc (r.rank k)) l q st w.holds.since.fair w.holds.at1.0 s ∙ w.comes;
  }

  pub marked_less : left r i (suc (r.rank k)) (back l (value r i q) st) < left r i (suc (r.rank k)) (call l q st)
  marked_less = left_marked r i fall (suc (r.rank k)) l q st w.holds.since.fair w.holds.at1.0 s

  pub marked_answer : (e : Entry) → r.input q ≡ false → find l.entries q ≡ some e → e.ans ≡ value r i q
  marked_answer e p f = entry_right r i fall l.entries q e w.holds.since.fair p f s
