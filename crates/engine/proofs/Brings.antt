-- A key brought up to date: its answer is what it is worth, it is settled then, and the way there is a step (brings, by induction over
-- the bound; look for what is looked at, works for what is worked out).
use Rattle.std.proofs.Common.{◌≡◌, ℕ, zero, suc, ◌+◌, ◌<◌, ◌≤◌, Bool, true, false, List, [], ◌∷◌, ◌++◌, length, sym, refl, ◌∙◌, subst, inl, inr, append_assoc, append-nil, arith, length-append}
use mathlib.Core.Option.{Option, some, none}
use Rattle.std.proofs.lemmas.Bool.{both_ways}
use Rattle.engine.specs.declared.key.Key.{Key}
use Rattle.base.specs.Base.{same}
use Rattle.engine.specs.Engine.{Ans, Then, ask, done, Rules, Inputs, Got, Entry, Kept, Brought, Bring, brought, bring, find, check, Checked, answers, went, finish, work, renew}
use Rattle.engine.specs.Theorems.{Falls, Asked, ends, asks, InGots, first, later, value, Settled, given, stands, tally}
use Rattle.engine.proofs.Basics.{pick_true, pick_false, same_true, same_yes, answers_more, in_cons, in_more}
use Rattle.engine.proofs.Worth.{lower, fewer, asked_lower, value_asked}
use Rattle.engine.proofs.Settled.{Fair, Right, AllSettled}
use Rattle.engine.proofs.Steps.{Stale, stale_moves, Step, tally_join, stored_told, step_none, step_wider, step_join, stored, stored_settled}

-- a step from m to l
abbrev pub Goes : Rules → Inputs → ℕ → Kept → Kept → List Key → Type 0
Goes r i b m l js = Step r i b m.entries m.worked l.entries l.worked js

abbrev pub join : (r : Rules) (i : Inputs) (b : ℕ) (m l o : Kept) (js ls : List Key) → Goes r i b m l js → Goes r i b l o ls → Goes r i b m o (js ++ ls)
join r i b m l o js ls s t = step_join r i b m.entries m.worked l.entries l.worked js o.entries o.worked ls s t

abbrev pub wider : (r : Rules) (i : Inputs) (b c : ℕ) (m l : Kept) (js : List Key) → b ≤ c → Goes r i b m l js → Goes r i c m l js
wider r i b c m l js h s = step_wider r i b c m.entries m.worked l.entries l.worked js h s

abbrev pub tallied : (r : Rules) (i : Inputs) (b : ℕ) (m l o : Kept) (js ls : List Key) → Goes r i b m l js → Goes r i b l o ls → tally o.entries (js ++ ls) ≡ tally l.entries js + tally o.entries ls
tallied r i b m l o js ls s t = tally_join r i b m.entries m.worked l.entries l.worked js o.entries o.worked ls s t

pub record Good (r : Rules) (i : Inputs) (m : Kept) (k : Key) (b : Brought) : Type 0 where
  pub js : List Key
  pub step : Goes r i (suc (r.rank k)) m b.kept js
  pub settled : Settled r i b.kept.entries k
  pub right : b.ans ≡ value r i k
  pub told : b.kept.goes ≡ m.goes + tally b.kept.entries js

abbrev pub Brings : Rules → Inputs → ℕ → Bring → Type 0
Brings r i n f = (m : Kept) (k : Key) → Fair r m.entries → r.rank k < n → Good r i m k (f m k)

-- what was asked is looked at
pub data Seen (r : Rules) (i : Inputs) (es : List Entry) (gs : List Got) (t : Bool) : Type 0 where
  all_same : t ≡ true → AllSettled r i es gs → Right r i gs → Seen r i es gs t
  other : t ≡ false → (g : Got) → InGots g gs → (value r i g.key ≡ g.ans → ⊥) → Seen r i es gs t

pub record Looked (r : Rules) (i : Inputs) (b : ℕ) (m : Kept) (gs : List Got) (c : Checked) : Type 0 where
  pub js : List Key
  pub step : Goes r i b m c.kept js
  pub seen : Seen r i c.kept.entries gs c.same1
  pub told : c.kept.goes ≡ m.goes + tally c.kept.entries js

-- a rule is told, until it's done
pub record Worked (r : Rules) (i : Inputs) (k : Key) (m : Kept) (so_far : List Got) (b : Brought) : Type 0 where
  pub js : List Key
  pub last : Kept
  pub a : Ans
  pub gots : List Got
  pub step : Goes r i (r.rank k) m last js
  pub asked : Asked (r.next k) [] gots a
  pub right : Right r i gots
  pub all : AllSettled r i last.entries gots
  pub is : b ≡ finish k a gots last
  pub more : List Got
  pub parts : gots ≡ so_far ++ more
  pub told : last.goes + length so_far ≡ (m.goes + tally last.entries js) + suc (length gots)

module _ (r : Rules) (i : Inputs) (fall : Falls r) (n : ℕ) (f : Bring) (ih : Brings r i n f) (b : ℕ) (le : b ≤ n) where
  pub look : (m : Kept) (gs : List Got) → Fair r m.entries → ((g : Got) → InGots g gs → r.rank g.key < b) → Looked r i b m gs (check f m gs)
  look m [] h l = record { js = []; step = step_none r i b m.entries m.worked h; seen = all_same refl (λ g y. elim y [ ]) (λ g y. elim y [ ]); told = omega arith }
  look m (g ∷ gs) h l =
      let low : r.rank g.key < b = l g first in
      let one : Good r i m g.key (f m g.key) = ih m g.key h (omega arith) in
      go (wider r i _ b m (f m g.key).kept one.js low one.step) one.told one (same (f m g.key).ans g.ans) refl (look (f m g.key).kept gs one.step.fair (λ x y. l x (later y)))
    where
      go : {js : List Key} → Goes r i b m (f m g.key).kept js → (f m g.key).kept.goes ≡ m.goes + tally (f m g.key).kept.entries js → Good r i m g.key (f m g.key) → (t : Bool) → same (f m g.key).ans g.ans ≡ t → Looked r i b (f m g.key).kept gs (check f (f m g.key).kept gs) → Looked r i b m (g ∷ gs) (check f m (g ∷ gs))
      go {js} s td one true e rest =
          let o = check f (f m g.key).kept gs in
          let seen_all : Seen r i o.kept.entries gs o.same1 → Seen r i o.kept.entries (g ∷ gs) o.same1 = elim [
            | all_same p q v ↦ all_same p (in_cons (λ x. Settled r i o.kept.entries x.key) g gs (rest.step.stays g.key one.settled) q) (in_cons (λ x. value r i x.key ≡ x.ans) g gs (sym one.right ∙ same_true _ _ e) v)
            | other p x y w ↦ other p x (later y) w
          ] in
          subst (Looked r i b m (g ∷ gs)) (sym (pick_true _ _ e)) (record { js = js ++ rest.js; step = join r i b m (f m g.key).kept o.kept js rest.js s rest.step; seen = seen_all rest.seen; told = let x = tallied r i b m (f m g.key).kept o.kept js rest.js s rest.step in let y = rest.told in omega (arith, x, y, td) })
      go {js} s td one false e rest =
          subst (Looked r i b m (g ∷ gs)) (sym (pick_false _ _ e)) (record { js = js; step = s; seen = other refl g first (λ v. both_ways _ e (same_yes _ _ (one.right ∙ v))); told = td })

module _ (r : Rules) (i : Inputs) (fall : Falls r) (n : ℕ) (f : Bring) (ih : Brings r i n f) (k : Key) (le : r.rank k ≤ n) where
  pub works : (l : ℕ) (gs : List Got) (m : Kept) → Fair r m.entries → Right r i gs → AllSettled r i m.entries gs → ((rest : List Got) (a : Ans) → Asked (r.next k) (answers gs) rest a → Asked (r.next k) [] (gs ++ rest) a) → length (answers gs) ≤ r.most k → r.most k < length (answers gs) + l → Worked r i k m gs (work f (r.next k) k l gs m)
  works zero gs m h v s x p q = absurd (omega arith)
  works (suc l) gs m h v s x p q = go (r.next k (answers gs)) refl (λ gs m. works l gs m)
    where
      go : (t : Then) → r.next k (answers gs) ≡ t → ((gs : List Got) (m : Kept) → Fair r m.entries → Right r i gs → AllSettled r i m.entries gs → ((rest : List Got) (a : Ans) → Asked (r.next k) (answers gs) rest a → Asked (r.next k) [] (gs ++ rest) a) → length (answers gs) ≤ r.most k → r.most k < length (answers gs) + l → Worked r i k m gs (work f (r.next k) k l gs m)) → Worked r i k m gs (work f (r.next k) k (suc l) gs m)
      go (done a) e again =
          record { js = []; last = went m; a = a; gots = gs; step = step_none r i (r.rank k) m.entries m.worked h; asked = rw append-nil at (x [] a (ends e)); right = v; all = s; is = rw e refl; more = []; parts = sym (append-nil gs); told = omega arith }
      go (ask j) e again =
          let low = lower r i fall k j (answers gs) e in
          let few = fewer r i fall k j (answers gs) e in
          let o = f (went m) j in
          let one : Good r i (went m) j o = ih (went m) j h (omega arith) in
          let g : Got = record { key = j; ans = o.ans } in
          let w = again (gs ++ (g ∷ [])) o.kept one.step.fair
          (in_more (λ y. value r i y.key ≡ y.ans) gs g v (sym one.right))
          (in_more (λ y. Settled r i o.kept.entries y.key) gs g (λ y z. one.step.stays y.key (s y z)) one.settled)
          (λ rest a y. rw append_assoc (x (g ∷ rest) a (asks e (rw answers_more at y))))
          (rw answers_more (simp length-append (omega arith)))
          (rw answers_more (simp length-append (omega arith))) in
          record {
            js = one.js ++ w.js;
            last = w.last;
            a = w.a;
            gots = w.gots;
            step = join r i (r.rank k) m o.kept w.last one.js w.js (wider r i _ (r.rank k) (went m) o.kept one.js low one.step) w.step;
            asked = w.asked;
            right = w.right;
            all = w.all;
            is = rw e w.is;
            more = g ∷ w.more;
            parts = w.parts ∙ append_assoc gs (g ∷ []) w.more;
            told = let x = tallied r i (r.rank k) m o.kept w.last one.js w.js (wider r i _ (r.rank k) (went m) o.kept one.js low one.step) w.step in let y = one.told in let z : w.last.goes + suc (length gs) ≡ (o.kept.goes + tally w.last.entries w.js) + suc (length w.gots) = let u : length (gs ++ (g ∷ [])) ≡ suc (length gs) = simp length-append (omega arith) in subst (λ (v : ℕ). w.last.goes + v ≡ (o.kept.goes + tally w.last.entries w.js) + suc (length w.gots)) u w.told in omega (arith, x, y, z);
          }

-- after the work, the entry is stored
pub finished : (r : Rules) (i : Inputs) (fall : Falls r) (m l : Kept) (k : Key) (b : Brought) (js : List Key) → Goes r i (r.rank k) m l js → Stale r i m.entries k → Worked r i k l [] b → l.goes ≡ m.goes + tally l.entries js → Good r i m k b
finished r i fall m l k b js s st w td =
    let t : Goes r i (r.rank k) m w.last (js ++ w.js) = join r i (r.rank k) m l w.last js w.js s w.step in
    let e : Entry = record { key = k; ans = w.a; gots = w.gots } in
    let unmoved : find w.last.entries k ≡ find m.entries k = elim (t.others k) [ inl x ↦ absurd (let z = t.low k x in omega arith) | inr x ↦ x ] in
    let sl = stale_moves r i m.entries w.last.entries k unmoved st in
    let u = stored r i fall w.last.entries w.last.worked e t.fair w.asked w.right w.all sl in
    let wide = wider r i (r.rank k) (suc (r.rank k)) m w.last (js ++ w.js) (omega arith) t in
    let end = (finish k w.a w.gots w.last).kept in
    let all_told : end.goes ≡ m.goes + tally end.entries ((js ++ w.js) ++ (k ∷ [])) =
    let x = tallied r i (r.rank k) m l w.last js w.js s w.step in
    let y = tallied r i (suc (r.rank k)) m w.last end (js ++ w.js) (k ∷ []) wide u in
    let z = stored_told r i fall w.last.entries w.last.worked e t.fair w.asked w.right w.all sl in
    let v = w.told in omega (arith, x, y, z, v, td) in
    let good : Good r i m k (finish k w.a w.gots w.last) =
    record {
      js = (js ++ w.js) ++ (k ∷ []);
      step = join r i (suc (r.rank k)) m w.last (finish k w.a w.gots w.last).kept (js ++ w.js) (k ∷ []) (wider r i (r.rank k) (suc (r.rank k)) m w.last (js ++ w.js) (omega arith) t) u;
      settled = stored_settled r i fall w.last.entries w.last.worked e t.fair w.asked w.right w.all sl;
      right = sym (value_asked r i fall k w.gots w.a st.0 w.asked w.right);
      told = all_told;
    } in
    subst (Good r i m k) (sym w.is) good

module _ (r : Rules) (i : Inputs) (fall : Falls r) (n : ℕ) (ih : Brings r i n (bring r i n)) (m : Kept) (k : Key) (h : Fair r m.entries) (le : r.rank k ≤ n) (p : r.input k ≡ false) where
  from_nothing : (l : Kept) → Fair r l.entries → Worked r i k l [] (work (bring r i n) (r.next k) k (suc (r.most k)) [] l)
  from_nothing l hl = works r i fall n (bring r i n) ih k le (suc (r.most k)) [] l hl (λ g y. elim y [ ]) (λ g y. elim y [ ]) (λ rest a x. x) (omega arith) (omega arith)

  renews : (o : Option Entry) → find m.entries k ≡ o → Good r i m k (renew (bring r i n) r m k o)
  renews none e = finished r i fall m m k _ [] (step_none r i (r.rank k) m.entries m.worked h) (p, inl e) (from_nothing m h) (omega arith)
  renews (some d) e = go (look r i fall n (bring r i n) ih (r.rank k) le m d.gots h (asked_lower r i fall k [] d.gots d.ans (h k d e)))
    where
      go : Looked r i (r.rank k) m d.gots (check (bring r i n) m d.gots) → Good r i m k (renew (bring r i n) r m k (some d))
      go w = seen w.seen
        where
          seen : Seen r i (check (bring r i n) m d.gots).kept.entries d.gots (check (bring r i n) m d.gots).same1 → Good r i m k (renew (bring r i n) r m k (some d))
          seen (all_same t s v) =
              let unmoved : find (check (bring r i n) m d.gots).kept.entries k ≡ find m.entries k = elim (w.step.others k) [ inl x ↦ absurd (let z = w.step.low k x in omega arith) | inr x ↦ x ] in
              let good : Good r i m k (brought (check (bring r i n) m d.gots).kept d.ans) =
              record {
                js = w.js;
                step = wider r i (r.rank k) (suc (r.rank k)) m (check (bring r i n) m d.gots).kept w.js (omega arith) w.step;
                settled = stands p (unmoved ∙ e) s v;
                right = sym (value_asked r i fall k d.gots d.ans p (h k d e) v);
                told = w.told;
              } in
              subst (Good r i m k) (sym (pick_true _ _ t)) good
          seen (other t g y v) =
              subst (Good r i m k) (sym (pick_false _ _ t)) (finished r i fall m (check (bring r i n) m d.gots).kept k _ w.js w.step (p, inr (d, g, e, y, v)) (from_nothing _ w.step.fair) w.told)

pub brings : (r : Rules) (i : Inputs) (fall : Falls r) (n : ℕ) → Brings r i n (bring r i n)
brings r i fall zero m k h l = absurd (omega arith)
brings r i fall (suc n) m k h l = go (r.input k) refl (brings r i fall n)
  where
    go : (t : Bool) → r.input k ≡ t → Brings r i n (bring r i n) → Good r i m k (bring r i (suc n) m k)
    go true p ih =
        let good : Good r i m k (brought m (i k)) = record { js = []; step = step_none r i (suc (r.rank k)) m.entries m.worked h; settled = given p; right = sym (pick_true _ _ p); told = omega arith } in
        subst (Good r i m k) (sym (pick_true _ _ p)) good
    go false p ih = subst (Good r i m k) (sym (pick_false _ _ p)) (renews r i fall n ih m k h (omega arith) p (find m.entries k) refl)
