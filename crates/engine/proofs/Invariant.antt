-- The invariant of the machine (Holds): the stack is in order, what it rests on is settled, and no key was worked out twice. Each turn
-- keeps it (holds_turn), and it says that there is depth left for the next turn (ready).
use Rattle.std.proofs.Common.{◌≡◌, ℕ, suc, ◌+◌, ◌-◌, ◌<◌, ◌≤◌, Bool, true, false, List, [], ◌∷◌, ◌++◌, length, sym, refl, ap, ◌∙◌, subst, inl, inr, append_assoc, append-nil, arith, length-append}
use mathlib.Core.Option.{Option, some, none}
use Rattle.std.proofs.lemmas.Bool.{both_ways}
use Rattle.engine.specs.declared.key.Key.{Key}
use Rattle.base.specs.Base.{pick, same}
use Rattle.engine.specs.Engine.{Then, ask, done, Rules, Inputs, Got, Entry, Kept, find, store, answers}
use Rattle.engine.specs.Theorems.{tally, Falls, Asked, ends, asks, InGots, first, Among, NoTwice, value, Settled, given, stands}
use Rattle.engine.proofs.Basics.{find_apart, pick_true, same_true, same_yes, answers_more, in_more, among_cases, among_one, no_twice_join, in_right, length_answers}
use Rattle.engine.proofs.Worth.{Partial, lower, fewer, asked_lower, value_asked}
use Rattle.engine.proofs.Settled.{Fair, Right, AllSettled}
use Rattle.engine.proofs.Steps.{tally_more, tally_same, Stale, stale_not, stored, stored_settled, stored_told}
use Rattle.engine.specs.Machine.{Frame, looks, works, State, call, back, tell, got, look, called, told, turn, Ready, pending_in, pending}
use Rattle.engine.proofs.Frames.{Deep, deep_moves}

-- a rule is about to be told: what it got is right and settled, and its key has to be worked out
pub record TellsOk (r : Rules) (i : Inputs) (es : List Entry) (k : Key) (gs : List Got) : Type 0 where
  pub part : Partial r k gs
  pub few : length gs ≤ r.most k
  pub right : Right r i gs
  pub settled : AllSettled r i es gs
  pub stale : Stale r i es k

-- what holds where the machine stands
abbrev pub At : Rules → Inputs → ℕ → State → Type 0
At r i n (call m k st) = (r.rank k < n - length st) × Deep r i n m.entries k st
At r i n (back m a st) = (q : Key) × (a ≡ value r i q) × Settled r i m.entries q × Deep r i n m.entries q st
At r i n (tell m k gs st) = (r.rank k < n - length st) × TellsOk r i m.entries k gs × Deep r i n m.entries k st

-- what is kept in a state
abbrev pub kept_of : State → Kept
kept_of (call m k st) = m
kept_of (back m a st) = m
kept_of (tell m k gs st) = m

-- what was done since the beginning, when ws had been worked out and rules had been told g times: the keys js were worked out, each
-- once, and all of them are settled; rules were told for those, and o times for keys that aren't done
pub record Since (r : Rules) (i : Inputs) (ws : List Key) (g o : ℕ) (m : Kept) : Type 0 where
  pub fair : Fair r m.entries
  pub js : List Key
  pub worked : m.worked ≡ ws ++ js
  pub once : NoTwice js
  pub settled : (j : Key) → Among j js → Settled r i m.entries j
  pub told : m.goes ≡ g + (tally m.entries js + o)

-- the invariant
pub record Holds (r : Rules) (i : Inputs) (n : ℕ) (ws : List Key) (g : ℕ) (c : State) : Type 0 where
  pub since : Since r i ws g (pending c) (kept_of c)
  pub at1 : At r i n c

-- another way to write how often
pub since_same : (r : Rules) (i : Inputs) (ws : List Key) (g o p : ℕ) (m : Kept) → o ≡ p → Since r i ws g o m → Since r i ws g p m
since_same r i ws g o p m e z = record { fair = z.fair; js = z.js; worked = z.worked; once = z.once; settled = z.settled; told = let t = z.told in omega (arith, t, e) }

pub ready : (r : Rules) (i : Inputs) (n : ℕ) (ws : List Key) (g : ℕ) (c : State) → Holds r i n ws g c → Ready r n c
ready r i n ws g (call m k st) h = omega (arith, h.at1.0)
ready r i n ws g (back m a st) h = tt
ready r i n ws g (tell m k gs st) h = h.at1.1.few

module _ (r : Rules) (i : Inputs) (fall : Falls r) (n : ℕ) (ws : List Key) (g₀ : ℕ) where
  nothing_yet : (es : List Entry) (k : Key) → Stale r i es k → TellsOk r i es k []
  nothing_yet es k st = record { part = λ rest a x. x; few = omega arith; right = λ g y. elim y [ ]; settled = λ g y. elim y [ ]; stale = st }

  on_look : (m : Kept) (k : Key) (e : Entry) (before gs : List Got) (st : List Frame) → Since r i ws g₀ (pending_in st) m → r.rank k < n - length st → r.input k ≡ false → find m.entries k ≡ some e → e.gots ≡ before ++ gs → Right r i before → AllSettled r i m.entries before → Deep r i n m.entries k st → Holds r i n ws g₀ (look m k e gs st)
  on_look m k e before [] st z l p f x v s d =
      let all = x ∙ append-nil before in
      let right : Right r i e.gots = subst (Right r i) (sym all) v in
      record { since = z; at1 = (k, sym (value_asked r i fall k e.gots e.ans p (z.fair k e f) right), stands p f (subst (AllSettled r i m.entries) (sym all) s) right, d) }
  on_look m k e before (g ∷ gs) st z l p f x v s d =
      let low = asked_lower r i fall k [] e.gots e.ans (z.fair k e f) g (subst (InGots g) (sym x) (in_right g before (g ∷ gs) first)) in
      record { since = z; at1 = (omega arith, (record { inner = p; rank = l; found = f; before = before; parts = x; right = v; settled = s }, refl, low, l, d)) }

  on_told : (m : Kept) (k : Key) (gs : List Got) (st : List Frame) → Since r i ws g₀ (length gs + pending_in st) m → r.rank k < n - length st → TellsOk r i m.entries k gs → Deep r i n m.entries k st → (t : Then) → r.next k (answers gs) ≡ t → Holds r i n ws g₀ (told m k gs st t)
  on_told m k gs st z l o d (done a) e =
      let en : Entry = record { key = k; ans = a; gots = gs } in
      let asked : Asked (r.next k) [] gs a = rw append-nil at (o.part [] a (ends e)) in
      let u = stored r i fall m.entries m.worked en z.fair asked o.right o.settled o.stale in
      let us = stored_settled r i fall m.entries m.worked en z.fair asked o.right o.settled o.stale in
      record {
        since = record {
          fair = u.fair;
          js = z.js ++ (k ∷ []);
          worked = ap (λ (x : List Key). x ++ (k ∷ [])) z.worked ∙ append_assoc ws z.js (k ∷ []);
          once = no_twice_join z.js (k ∷ []) z.once u.once (λ j x y. stale_not r i m.entries k o.stale (subst (Settled r i m.entries) (among_one j k y) (z.settled j x)));
          settled = λ j x. elim (among_cases j z.js (k ∷ []) x) [ inl y ↦ u.stays j (z.settled j y) | inr y ↦ u.after j y ];
          told =
              let a1 = tally_more (store en m.entries) z.js (k ∷ []) in
              let a2 = tally_same m.entries (store en m.entries) z.js (λ j x. find_apart en m.entries j (λ y. stale_not r i m.entries k o.stale (subst (Settled r i m.entries) (sym y) (z.settled j x)))) in
              let a3 = stored_told r i fall m.entries m.worked en z.fair asked o.right o.settled o.stale in
              let a4 = z.told in
              omega (arith, a1, a2, a3, a4);
        };
        at1 = (k, sym (value_asked r i fall k gs a o.stale.0 asked o.right), us, deep_moves r i n (suc (r.rank k)) m.entries m.worked (store en m.entries) (m.worked ++ (k ∷ [])) (k ∷ []) k st u (omega arith) d);
      }
  on_told m k gs st z l o d (ask q) e =
      let low = lower r i fall k q (answers gs) e in
      record {
        since = record { fair = z.fair; js = z.js; worked = z.worked; once = z.once; settled = z.settled; told = let t = z.told in omega (arith, t) };
        at1 = (omega arith, (record { inner = o.stale.0; rank = l; part = o.part; asked = e; right = o.right; settled = o.settled; stale = o.stale }, refl, low, l, d));
      }

  pub holds_turn : (c : State) → Holds r i n ws g₀ c → Holds r i n ws g₀ (turn r i c)
  holds_turn (call m k st) h = go (r.input k) refl (find m.entries k) refl
    where
      go : (b : Bool) → r.input k ≡ b → (o : Option Entry) → find m.entries k ≡ o → Holds r i n ws g₀ (pick b (back m (i k) st) (called m k st o))
      go true p o e = record { since = h.since; at1 = (k, sym (pick_true _ _ p), given p, h.at1.1) }
      go false p none e = record { since = since_same r i ws g₀ (pending_in st) (0 + pending_in st) m (omega arith) h.since; at1 = (h.at1.0, nothing_yet m.entries k (p, inl e), h.at1.1) }
      go false p (some d) e = on_look m k d [] d.gots st h.since h.at1.0 p e refl (λ g y. elim y [ ]) (λ g y. elim y [ ]) h.at1.1
  holds_turn (back m a []) h = h
  holds_turn (back m a (looks k e g gs ∷ st)) h = go (same a g.ans) refl h.at1
    where
      go : (t : Bool) → same a g.ans ≡ t → At r i n (back m a (looks k e g gs ∷ st)) → Holds r i n ws g₀ (pick t (look m k e gs st) (tell m k [] st))
      go true x (q, v, s, (o, w, lo, hi, d)) =
          let vg : a ≡ value r i g.key = v ∙ ap (value r i) (sym w) in
          on_look m k e (o.before ++ (g ∷ [])) gs st h.since hi o.inner o.found (o.parts ∙ sym (append_assoc o.before (g ∷ []) gs)) (in_more (λ y. value r i y.key ≡ y.ans) o.before g o.right (sym vg ∙ same_true _ _ x)) (in_more (λ y. Settled r i m.entries y.key) o.before g o.settled (subst (Settled r i m.entries) (sym w) s)) d
      go false x (q, v, s, (o, w, lo, hi, d)) =
          let vg : a ≡ value r i g.key = v ∙ ap (value r i) (sym w) in
          record { since = since_same r i ws g₀ (pending_in st) (0 + pending_in st) m (omega arith) h.since; at1 = (hi, nothing_yet m.entries k (o.inner, inr (e, g, o.found, subst (InGots g) (sym o.parts) (in_right g o.before (g ∷ gs) first), λ y. both_ways _ x (same_yes _ _ (vg ∙ y)))), d) }
  holds_turn (back m a (works k gs q ∷ st)) h = go h.at1
    where
      go : At r i n (back m a (works k gs q ∷ st)) → Holds r i n ws g₀ (tell m k (gs ++ (got q a ∷ [])) st)
      go (q2, v, s, (o, w, lo, hi, d)) =
          let vq : a ≡ value r i q = v ∙ ap (value r i) (sym w) in
          let few = fewer r i fall k q (answers gs) o.asked in
          let la = length_answers gs in
          record { since = since_same r i ws g₀ (suc (length gs) + pending_in st) (length (gs ++ (got q a ∷ [])) + pending_in st) m (simp length-append (omega arith)) h.since; at1 = (hi, record { part = λ rest c y. rw append_assoc (o.part (got q a ∷ rest) c (asks o.asked (rw answers_more at y))); few = simp length-append (omega arith); right = in_more (λ y. value r i y.key ≡ y.ans) gs (got q a) o.right (sym vq); settled = in_more (λ y. Settled r i m.entries y.key) gs (got q a) o.settled (subst (Settled r i m.entries) (sym w) s); stale = o.stale }, d) }
  holds_turn (tell m k gs st) h = on_told m k gs st h.since h.at1.0 h.at1.1 h.at1.2 (r.next k (answers gs)) refl

  -- a turn leaves settled what was settled
  pub settled_turn : (c : State) → Holds r i n ws g₀ c → (j : Key) → Settled r i (kept_of c).entries j → Settled r i (kept_of (turn r i c)).entries j
  settled_turn (call m k st) h j s = go (r.input k) (find m.entries k)
    where
      looking : (e : Entry) (gs : List Got) → Settled r i (kept_of (look m k e gs st)).entries j
      looking e [] = s
      looking e (g ∷ gs) = s

      go : (b : Bool) (o : Option Entry) → Settled r i (kept_of (pick b (back m (i k) st) (called m k st o))).entries j
      go true o = s
      go false none = s
      go false (some e) = looking e e.gots
  settled_turn (back m a []) h j s = s
  settled_turn (back m a (looks k e g gs ∷ st)) h j s = go (same a g.ans) gs
    where
      go : (b : Bool) (gs : List Got) → Settled r i (kept_of (pick b (look m k e gs st) (tell m k [] st))).entries j
      go true [] = s
      go true (x ∷ xs) = s
      go false xs = s
  settled_turn (back m a (works k gs q ∷ st)) h j s = s
  settled_turn (tell m k gs st) h j s = go (r.next k (answers gs)) refl
    where
      go : (t : Then) → r.next k (answers gs) ≡ t → Settled r i (kept_of (told m k gs st t)).entries j
      go (done a) e =
          let o = h.at1.1 in
          let asked : Asked (r.next k) [] gs a = rw append-nil at (o.part [] a (ends e)) in
          (stored r i fall m.entries m.worked (record { key = k; ans = a; gots = gs }) h.since.fair asked o.right o.settled o.stale).stays j s
      go (ask q) e = s

  -- a key known to be settled is answered at once, and the invariant holds
  pub holds_marked : (m : Kept) (k : Key) (st : List Frame) → Holds r i n ws g₀ (call m k st) → Settled r i m.entries k → Holds r i n ws g₀ (back m (value r i k) st)
  holds_marked m k st h s = record { since = h.since; at1 = (k, refl, s, h.at1.1) }
