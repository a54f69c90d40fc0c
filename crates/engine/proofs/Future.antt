-- What is still to come from a state of the machine is a step too (future): so what was worked out so far stands in what is kept at the
-- end. The code needs this to know that its room is enough.
use Rattle.std.proofs.Common.{◌≡◌, ℕ, suc, ◌-◌, ◌<◌, ◌≤◌, Bool, true, false, List, [], ◌∷◌, ◌++◌, length, sym, refl, ap, ◌∙◌, subst, inl, inr, append_assoc, arith, length-append}
use mathlib.Core.Option.{some}
use Rattle.std.proofs.lemmas.Bool.{both_ways}
use Rattle.engine.specs.declared.key.Key.{Key}
use Rattle.base.specs.Base.{pick, same}
use Rattle.engine.specs.Engine.{Rules, Inputs, Got, Entry, Kept, Brought, Bring, brought, find, check, answers, finish}
use Rattle.engine.specs.Theorems.{Falls, asks, InGots, first, value, Settled, stands}
use Rattle.engine.proofs.Basics.{pick_true, pick_false, same_true, same_yes, answers_more, in_more, in_both, in_right, length_answers}
use Rattle.engine.proofs.Worth.{fewer, asked_lower, value_asked}
use Rattle.engine.proofs.Settled.{Fair, Right, AllSettled}
use Rattle.engine.proofs.Steps.{Stale, stale_moves, step_none, stored, stored_settled}
use Rattle.engine.proofs.Brings.{Goes, join, wider, Good, Brings, Seen, all_same, other, Looked, Worked, look, works, finished, brings}
use Rattle.engine.specs.Machine.{Frame, looks, works as works1, call, tell, got, working, ended, below, unwind, mean}
use Rattle.engine.proofs.Worth.{Partial}
use Rattle.engine.proofs.Frames.{LooksOk, WorksOk, key_of, asked_of, FrameOk, Deep, deep_moves}

module _ (r : Rules) (i : Inputs) (fall : Falls r) (n : ℕ) (f : Bring) (ih : Brings r i n f) (k : Key) (le : r.rank k ≤ n) where
  from_start : (m : Kept) → Fair r m.entries → Worked r i k m [] (working r f k [] m)
  from_start m h = works r i fall n f ih k le (suc (r.most k) - 0) [] m h (λ g y. elim y [ ]) (λ g y. elim y [ ]) (λ rest a x. x) (omega arith) (omega arith)

  -- what was looked at before was right; the rest is looked at
  pub after_look : (m : Kept) (e : Entry) (before gs : List Got) → Fair r m.entries → r.input k ≡ false → find m.entries k ≡ some e → e.gots ≡ before ++ gs → Right r i before → AllSettled r i m.entries before → Good r i m k (ended r f k e (check f m gs))
  after_look m e before gs h p x parts v s = go w.seen
    where
      low : (g : Got) → InGots g gs → r.rank g.key < r.rank k
      low g y = asked_lower r i fall k [] e.gots e.ans (h k e x) g (subst (InGots g) (sym parts) (in_right g before gs y))

      w : Looked r i (r.rank k) m gs (check f m gs)
      w = look r i fall n f ih (r.rank k) le m gs h low

      go : Seen r i (check f m gs).kept.entries gs (check f m gs).same1 → Good r i m k (ended r f k e (check f m gs))
      go (all_same t s2 v2) =
          let unmoved : find (check f m gs).kept.entries k ≡ find m.entries k = elim (w.step.others k) [ inl y ↦ absurd (let z = w.step.low k y in omega arith) | inr y ↦ y ] in
          let all_right : Right r i e.gots = subst (Right r i) (sym parts) (in_both (λ g. value r i g.key ≡ g.ans) before gs v v2) in
          let all_set : AllSettled r i (check f m gs).kept.entries e.gots = subst (AllSettled r i (check f m gs).kept.entries) (sym parts) (in_both (λ g. Settled r i (check f m gs).kept.entries g.key) before gs (λ g y. w.step.stays g.key (s g y)) s2) in
          let good : Good r i m k (brought (check f m gs).kept e.ans) =
          record {
            js = w.js;
            step = wider r i (r.rank k) (suc (r.rank k)) m (check f m gs).kept w.js (omega arith) w.step;
            settled = stands p (unmoved ∙ x) all_set all_right;
            right = sym (value_asked r i fall k e.gots e.ans p (h k e x) all_right);
            told = w.told;
          } in
          subst (Good r i m k) (sym (pick_true _ _ t)) good
      go (other t g y v2) =
          subst (Good r i m k) (sym (pick_false _ _ t)) (finished r i fall m (check f m gs).kept k _ w.js w.step (p, inr (e, g, x, subst (InGots g) (sym parts) (in_right g before gs y), v2)) (from_start (check f m gs).kept w.step.fair) w.told)

  -- an answer comes back to a key that looks
  pub back_looks : (l : ℕ) (b : Brought) (e : Entry) (g : Got) (gs : List Got) → Fair r b.kept.entries → LooksOk r i l b.kept.entries k e g gs → b.ans ≡ value r i g.key → Settled r i b.kept.entries g.key → Good r i b.kept k (pick (same b.ans g.ans) (ended r f k e (check f b.kept gs)) (working r f k [] b.kept))
  back_looks l b e g gs h o v s = go (same b.ans g.ans) refl
    where
      go : (t : Bool) → same b.ans g.ans ≡ t → Good r i b.kept k (pick t (ended r f k e (check f b.kept gs)) (working r f k [] b.kept))
      go true x = after_look b.kept e (o.before ++ (g ∷ [])) gs h o.inner o.found (o.parts ∙ sym (append_assoc o.before (g ∷ []) gs)) (in_more (λ z. value r i z.key ≡ z.ans) o.before g o.right (sym v ∙ same_true _ _ x)) (in_more (λ z. Settled r i b.kept.entries z.key) o.before g o.settled s)
      go false x =
          finished r i fall b.kept b.kept k _ [] (step_none r i (r.rank k) b.kept.entries b.kept.worked h) (o.inner, inr (e, g, o.found, subst (InGots g) (sym o.parts) (in_right g o.before (g ∷ gs) first), λ y. both_ways _ x (same_yes _ _ (v ∙ y)))) (from_start b.kept h) (omega arith)

-- what comes of a key that stands in the stack
pub record Comes (r : Rules) (i : Inputs) (m : Kept) (k : Key) (b : Brought) : Type 0 where
  pub js : List Key
  pub step : Goes r i (suc (r.rank k)) m b.kept js
  pub settled : Settled r i b.kept.entries k
  pub right : b.ans ≡ value r i k

pub comes : (r : Rules) (i : Inputs) (m : Kept) (k : Key) (b : Brought) → Good r i m k b → Comes r i m k b
comes r i m k b g = record { js = g.js; step = g.step; settled = g.settled; right = g.right }

module _ (r : Rules) (i : Inputs) (fall : Falls r) (m : Kept) (k : Key) where
  pub finished_mid : (b : Brought) (gs : List Got) → Stale r i m.entries k → Worked r i k m gs b → Comes r i m k b
  finished_mid b gs st w =
      let t = w.step in
      let e : Entry = record { key = k; ans = w.a; gots = w.gots } in
      let unmoved : find w.last.entries k ≡ find m.entries k = elim (t.others k) [ inl x ↦ absurd (let z = t.low k x in omega arith) | inr x ↦ x ] in
      let sl = stale_moves r i m.entries w.last.entries k unmoved st in
      let u = stored r i fall w.last.entries w.last.worked e t.fair w.asked w.right w.all sl in
      let good : Comes r i m k (finish k w.a w.gots w.last) =
      record {
        js = w.js ++ (k ∷ []);
        step = join r i (suc (r.rank k)) m w.last (finish k w.a w.gots w.last).kept w.js (k ∷ []) (wider r i (r.rank k) (suc (r.rank k)) m w.last w.js (omega arith) t) u;
        settled = stored_settled r i fall w.last.entries w.last.worked e t.fair w.asked w.right w.all sl;
        right = sym (value_asked r i fall k w.gots w.a st.0 w.asked w.right);
      } in
      subst (Comes r i m k) (sym w.is) good

-- an answer comes back to a key that works: it is told to its end
pub back_worked : (r : Rules) (i : Inputs) (fall : Falls r) (n : ℕ) (f : Bring) (ih : Brings r i n f) (k : Key) (le : r.rank k ≤ n) (l : ℕ) (b : Brought) (gs : List Got) (q : Key) → Fair r b.kept.entries → WorksOk r i l b.kept.entries k gs q → b.ans ≡ value r i q → Settled r i b.kept.entries q → Worked r i k b.kept (gs ++ (got q b.ans ∷ [])) (working r f k (gs ++ (got q b.ans ∷ [])) b.kept)
back_worked r i fall n f ih k le l b gs q h o v s =
    let few = fewer r i fall k q (answers gs) o.asked in
    let la = length_answers gs in
    let more : length (answers (gs ++ (got q b.ans ∷ []))) ≡ suc (length gs) = length_answers (gs ++ (got q b.ans ∷ [])) ∙ simp length-append (omega arith) in
    let len : length (gs ++ (got q b.ans ∷ [])) ≡ suc (length gs) = simp length-append (omega arith) in
    works r i fall n f ih k le (suc (r.most k) - length (gs ++ (got q b.ans ∷ []))) (gs ++ (got q b.ans ∷ [])) b.kept h
    (in_more (λ z. value r i z.key ≡ z.ans) gs (got q b.ans) o.right (sym v))
    (in_more (λ z. Settled r i b.kept.entries z.key) gs (got q b.ans) o.settled s)
    (λ rest a y. rw append_assoc (o.part (got q b.ans ∷ rest) a (asks o.asked (rw answers_more at y))))
    (omega arith) (omega arith)

-- all that is left to do from an answer on is a step
pub record Future (r : Rules) (i : Inputs) (n : ℕ) (m : Kept) (b : Brought) : Type 0 where
  pub js : List Key
  pub step : Goes r i n m b.kept js

-- what an answer makes of the newest frame
abbrev pub handed : Rules → Inputs → ℕ → List Frame → Frame → Brought → Brought
handed r i n st (looks k e g gs) b = pick (same b.ans g.ans) (ended r (below r i n st) k e (check (below r i n st) b.kept gs)) (working r (below r i n st) k [] b.kept)
handed r i n st (works1 k gs q) b = working r (below r i n st) k (gs ++ (got q b.ans ∷ [])) b.kept

pub unwind_one : (r : Rules) (i : Inputs) (n : ℕ) (st : List Frame) (fr : Frame) (b : Brought) → unwind r i n (fr ∷ st) b ≡ unwind r i n st (handed r i n st fr b)
unwind_one r i n st (looks k e g gs) b = refl
unwind_one r i n st (works1 k gs q) b = refl

pub one_more : (r : Rules) (i : Inputs) (fall : Falls r) (n : ℕ) (st : List Frame) (fr : Frame) (b : Brought) → Fair r b.kept.entries → FrameOk r i (n - length st) b.kept.entries fr → r.rank (key_of fr) < n - length st → b.ans ≡ value r i (asked_of fr) → Settled r i b.kept.entries (asked_of fr) → Comes r i b.kept (key_of fr) (handed r i n st fr b)
one_more r i fall n st (looks k e g gs) b h o hi v s =
    comes r i b.kept k _ (back_looks r i fall (n - suc (length st)) (below r i n st) (brings r i fall (n - suc (length st))) k (omega arith) (n - length st) b e g gs h o v s)
one_more r i fall n st (works1 k gs q) b h o hi v s =
    finished_mid r i fall b.kept k _ _ o.stale (back_worked r i fall (n - suc (length st)) (below r i n st) (brings r i fall (n - suc (length st))) k (omega arith) (n - length st) b gs q h o v s)

pub unwinds : (r : Rules) (i : Inputs) (fall : Falls r) (n : ℕ) (st : List Frame) (b : Brought) (k : Key) → Fair r b.kept.entries → Deep r i n b.kept.entries k st → b.ans ≡ value r i k → Settled r i b.kept.entries k → Future r i n b.kept (unwind r i n st b)
unwinds r i fall n [] b k h d v s = record { js = []; step = step_none r i n b.kept.entries b.kept.worked h }
unwinds r i fall n (fr ∷ st) b k h (o, a, lo, hi, d) v s =
    let c = handed r i n st fr b in
    let w = one_more r i fall n st fr b h o hi (v ∙ ap (value r i) (sym a)) (subst (Settled r i b.kept.entries) (sym a) s) in
    let rest = unwinds r i fall n st c (key_of fr) w.step.fair (deep_moves r i n (suc (r.rank (key_of fr))) b.kept.entries b.kept.worked c.kept.entries c.kept.worked w.js (key_of fr) st w.step (omega arith) d) w.right w.settled in
    subst (Future r i n b.kept) (sym (unwind_one r i n st fr b)) (record { js = w.js ++ rest.js; step = join r i n b.kept c.kept (unwind r i n st c).kept w.js rest.js (wider r i (suc (r.rank (key_of fr))) n b.kept c.kept w.js (omega arith) w.step) rest.step })

-- what comes of a key on top of a stack leads on to the end of the stack
pub goes_on : (r : Rules) (i : Inputs) (fall : Falls r) (n : ℕ) (st : List Frame) (m : Kept) (k : Key) (b : Brought) → Comes r i m k b → r.rank k < n - length st → Deep r i n m.entries k st → Future r i n m (unwind r i n st b)
goes_on r i fall n st m k b w l d =
    let rest = unwinds r i fall n st b k w.step.fair (deep_moves r i n (suc (r.rank k)) m.entries m.worked b.kept.entries b.kept.worked w.js k st w.step (omega arith) d) w.right w.settled in
    record { js = w.js ++ rest.js; step = join r i n m b.kept (unwind r i n st b).kept w.js rest.js (wider r i (suc (r.rank k)) n m b.kept w.js (omega arith) w.step) rest.step }

-- a key called, and a rule about to be told, on top of a stack
pub call_future : (r : Rules) (i : Inputs) (fall : Falls r) (n : ℕ) (st : List Frame) (m : Kept) (k : Key) → Fair r m.entries → r.rank k < n - length st → Deep r i n m.entries k st → Future r i n m (mean r i n (call m k st))
call_future r i fall n st m k h l d = goes_on r i fall n st m k _ (comes r i m k _ (brings r i fall (n - length st) m k h l)) l d

pub tell_future : (r : Rules) (i : Inputs) (fall : Falls r) (n : ℕ) (st : List Frame) (m : Kept) (k : Key) (gs : List Got) → Fair r m.entries → r.rank k < n - length st → Partial r k gs → length gs ≤ r.most k → Right r i gs → AllSettled r i m.entries gs → Stale r i m.entries k → Deep r i n m.entries k st → Future r i n m (mean r i n (tell m k gs st))
tell_future r i fall n st m k gs h l part few v s stale d =
    let la = length_answers gs in
    let w = works r i fall (n - suc (length st)) (below r i n st) (brings r i fall (n - suc (length st))) k (omega arith) (suc (r.most k) - length gs) gs m h v s part (omega arith) (omega arith) in
    goes_on r i fall n st m k _ (finished_mid r i fall m k _ gs stale w) l d
