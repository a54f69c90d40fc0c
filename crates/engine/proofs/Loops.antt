-- The machine does what the definition says: what a loop over its turns needs. It starts on the way (starts), each turn stays on it
-- (again) and leaves less to do (less), and an answer with an empty stack is what 'bring' says (at_end). On the way all that is held takes
-- no more words than the entries at the end: what was worked out (fits), the stack (stack_room), an answer (back_room, done_room, narrow_room); and
-- rules were told no more often than that (told_fits).
use Rattle.std.proofs.Common.{◌≡◌, ℕ, suc, ◌+◌, ◌-◌, ◌<◌, ◌≤◌, List, [], ◌∷◌, length, sym, ap, ◌∙◌, subst, append-nil, arith}
use Rattle.engine.specs.declared.key.Key.{Key}
use Rattle.engine.specs.Engine.{Ans, done, Rules, Inputs, Got, answers, Kept, Brought, brought, bring}
use Rattle.engine.specs.Says.{answer_long, signs_entries}
use Rattle.engine.specs.Theorems.{Falls, Honest, blank}
use Rattle.engine.specs.Machine.{Frame, State, call, back, tell, turn, mean, left, Busy, pending, state_signs}
use Rattle.engine.proofs.Means.{mean_turn}
use Rattle.engine.proofs.Measure.{left_turn}
use Rattle.engine.proofs.Invariant.{Holds, kept_of, ready, holds_turn}
use Rattle.engine.proofs.Sizes.{sizes}
use Rattle.engine.proofs.Stacks.{stack_fits}
use Rattle.engine.proofs.Longest.{back_fits, done_fits, narrow_fits}
use Rattle.engine.proofs.Room.{room_so_far, told_so_far}

-- a loop's invariant: what the state comes to is what was asked for
pub record OnTheWay (r : Rules) (i : Inputs) (m : Kept) (k : Key) (c : State) : Type 0 where
  pub holds : Holds r i (suc (r.rank k)) m.worked m.goes c
  pub comes : mean r i (suc (r.rank k)) c ≡ bring r i (suc (r.rank k)) m k

module _ (r : Rules) (i : Inputs) (fall : Falls r) (m : Kept) (k : Key) where
  pub starts : Honest r m → OnTheWay r i m k (call m k [])
  starts h = record {
    holds = record { since = record { fair = h.holds; js = []; worked = sym (append-nil m.worked); once = blank; settled = λ j x. elim x [ ]; told = omega arith }; at1 = (omega arith, tt) };
    comes = ap (λ (x : ℕ). bring r i x m k) (let e : suc (r.rank k) - 0 ≡ suc (r.rank k) = omega arith in e);
  }

  pub again : (c : State) → OnTheWay r i m k c → OnTheWay r i m k (turn r i c)
  again c w = record {
    holds = holds_turn r i fall (suc (r.rank k)) m.worked m.goes c w.holds;
    comes = mean_turn r i (suc (r.rank k)) c (ready r i (suc (r.rank k)) m.worked m.goes c w.holds) ∙ w.comes;
  }

  pub less : (c : State) → OnTheWay r i m k c → Busy c → left r i (suc (r.rank k)) (turn r i c) < left r i (suc (r.rank k)) c
  less c w b = let e = left_turn r i (suc (r.rank k)) c (ready r i (suc (r.rank k)) m.worked m.goes c w.holds) b in omega arith

  pub at_end : (l : Kept) (a : Ans) → OnTheWay r i m k (back l a []) → brought l a ≡ bring r i (suc (r.rank k)) m k
  at_end l a w = w.comes

  -- what was worked out so far goes into the words that the end takes
  pub fits : (c : State) (w : OnTheWay r i m k c) → sizes (kept_of c).entries w.holds.since.js ≤ signs_entries (bring r i (suc (r.rank k)) m k).kept.entries
  fits c w = subst (λ (b : Brought). sizes (kept_of c).entries w.holds.since.js ≤ signs_entries b.kept.entries) w.comes (room_so_far r i fall (suc (r.rank k)) m.worked m.goes c w.holds)

  -- and rules were told no more often than these words say, but for the rules that aren't done
  pub told_fits : (c : State) (w : OnTheWay r i m k c) → (kept_of c).goes ≤ m.goes + (sizes (kept_of c).entries w.holds.since.js + pending c)
  told_fits c w = told_so_far r i (suc (r.rank k)) m.worked m.goes c w.holds

  -- and the stack, with what a rule is about to be told, takes no more words than the end takes
  pub stack_room : (c : State) (w : OnTheWay r i m k c) → state_signs c ≤ signs_entries (bring r i (suc (r.rank k)) m k).kept.entries
  stack_room c w = subst (λ (b : Brought). state_signs c ≤ signs_entries b.kept.entries) w.comes (stack_fits r i fall (suc (r.rank k)) m.worked m.goes c w.holds)

  -- no answer on the way is longer than the end's words, but for that of an input that was asked for itself
  pub back_room : (l : Kept) (a : Ans) (fr : Frame) (st : List Frame) → OnTheWay r i m k (back l a (fr ∷ st)) → length a ≤ signs_entries (bring r i (suc (r.rank k)) m k).kept.entries
  back_room l a fr st w = subst (λ (b : Brought). length a ≤ signs_entries b.kept.entries) w.comes (back_fits r i fall (suc (r.rank k)) m.worked m.goes l a fr st w.holds)

  pub done_room : (l : Kept) (j : Key) (gs : List Got) (st : List Frame) (a : Ans) → OnTheWay r i m k (tell l j gs st) → r.next j (answers gs) ≡ done a → length a ≤ signs_entries (bring r i (suc (r.rank k)) m k).kept.entries
  done_room l j gs st a w e = subst (λ (b : Brought). length a ≤ signs_entries b.kept.entries) w.comes (done_fits r i fall (suc (r.rank k)) m.worked m.goes l j gs st a w.holds e)

  -- where a rule is about to be told: the stack, what the rule is told, and its answer, if it is done now
  pub narrow_room : (l : Kept) (j : Key) (gs : List Got) (st : List Frame) → OnTheWay r i m k (tell l j gs st) → state_signs (tell l j gs st) + answer_long (r.next j (answers gs)) ≤ signs_entries (bring r i (suc (r.rank k)) m k).kept.entries
  narrow_room l j gs st w = subst (λ (b : Brought). state_signs (tell l j gs st) + answer_long (r.next j (answers gs)) ≤ signs_entries b.kept.entries) w.comes (narrow_fits r i fall (suc (r.rank k)) m.worked m.goes l j gs st w.holds)
