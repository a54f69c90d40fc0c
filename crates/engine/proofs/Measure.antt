-- The machine's measure falls by one with each turn (left_turn): a loop over its turns ends.
use Rattle.std.proofs.Common.{◌≡◌, ℕ, suc, ◌+◌, ◌-◌, ◌≤◌, Bool, true, false, List, [], ◌∷◌, ◌++◌, length, sym, refl, ap, ◌∙◌, arith, length-append}
use mathlib.Core.Option.{Option, some, none}
use Rattle.engine.specs.declared.key.Key.{Key}
use Rattle.base.specs.Base.{pick, same}
use Rattle.engine.specs.Engine.{Then, ask, done, Rules, Inputs, Got, Entry, Kept, Brought, brought, bring, find, check, Checked, answers, went, finish, on_next, work, renew}
use Rattle.engine.specs.Machine.{Frame, looks, works, State, call, back, tell, got, look, called, told, turn, working, ended, below, Ready, cost_check, cost_then, cost_work, cost_working, cost_ended, cost_renew, cost, cost_below, cost_unwind, left, Busy}
use Rattle.engine.proofs.Means.{from_start}

sum_1 : (a b c d : ℕ) → a + suc ((b + c) + d) ≡ ((a + suc b) + c) + d
sum_1 a b c d = omega arith

sum_2 : (a c d : ℕ) → a + suc (c + d) ≡ ((a + suc 0) + c) + d
sum_2 a c d = omega arith

sum_3 : (a b : ℕ) → suc a + b ≡ suc (a + b)
sum_3 a b = omega arith

sum_4 : (a : ℕ) → suc 0 + a ≡ suc a
sum_4 a = omega arith

sum_5 : (a b c : ℕ) → suc (a + suc b) + c ≡ suc (a + suc (b + c))
sum_5 a b c = omega arith

sum_6 : (a : ℕ) → a ≡ 0 + a
sum_6 a = omega arith

module _ (r : Rules) (i : Inputs) (n : ℕ) where
  left_look : (m : Kept) (k : Key) (e : Entry) (gs : List Got) (st : List Frame) → left r i n (look m k e gs st) ≡ (cost_check (below r i n st) (cost_below r i n st) m gs + cost_ended r (below r i n st) (cost_below r i n st) k (check (below r i n st) m gs)) + cost_unwind r i n st (ended r (below r i n st) k e (check (below r i n st) m gs))
  left_look m k e [] st = sum_6 _
  left_look m k e (g ∷ gs) st = go (same (below r i n st m g.key).ans g.ans)
    where
      go : (t : Bool) →
          cost_below r i n st m g.key + suc (pick t (cost_check (below r i n st) (cost_below r i n st) (below r i n st m g.key).kept gs + cost_ended r (below r i n st) (cost_below r i n st) k (check (below r i n st) (below r i n st m g.key).kept gs)) (cost_working r (below r i n st) (cost_below r i n st) k [] (below r i n st m g.key).kept)
          + cost_unwind r i n st (pick t (ended r (below r i n st) k e (check (below r i n st) (below r i n st m g.key).kept gs)) (working r (below r i n st) k [] (below r i n st m g.key).kept)))
          ≡ ((cost_below r i n st m g.key + suc (pick t (cost_check (below r i n st) (cost_below r i n st) (below r i n st m g.key).kept gs) 0))
          + cost_ended r (below r i n st) (cost_below r i n st) k (pick {A = Checked} t (check (below r i n st) (below r i n st m g.key).kept gs) (record { kept = (below r i n st m g.key).kept; same1 = false })))
          + cost_unwind r i n st (ended r (below r i n st) k e (pick {A = Checked} t (check (below r i n st) (below r i n st m g.key).kept gs) (record { kept = (below r i n st m g.key).kept; same1 = false })))
      go true = sum_1 _ _ _ _
      go false = sum_2 _ _ _

  left_call : (m : Kept) (k : Key) (st : List Frame) (b : Bool) (o : Option Entry) →
      suc (pick b 0 (cost_renew r (below r i n st) (cost_below r i n st) m k o)) + cost_unwind r i n st (pick b (brought m (i k)) (renew (below r i n st) r m k o))
      ≡ suc (left r i n (pick b (back m (i k) st) (called m k st o)))
  left_call m k st true o = sum_4 _
  left_call m k st false none = sum_3 _ _ ∙ ap (λ (x : Brought). suc (cost_working r (below r i n st) (cost_below r i n st) k [] m + cost_unwind r i n st x)) (sym (from_start r i n (below r i n st) m k))
  left_call m k st false (some e) =
      let f = below r i n st in
      let d = check f m e.gots in
      sum_3 _ _ ∙ (ap (λ (x : Brought). suc ((cost_check f (cost_below r i n st) m e.gots + cost_ended r f (cost_below r i n st) k d) + cost_unwind r i n st (pick d.same1 (brought d.kept e.ans) x))) (sym (from_start r i n f d.kept k))
      ∙ ap suc (sym (left_look m k e e.gots st)))

  left_back : (m : Kept) (k : Key) (e : Entry) (gs : List Got) (st : List Frame) (t : Bool) →
      suc (pick t (cost_check (below r i n st) (cost_below r i n st) m gs + cost_ended r (below r i n st) (cost_below r i n st) k (check (below r i n st) m gs)) (cost_working r (below r i n st) (cost_below r i n st) k [] m)
      + cost_unwind r i n st (pick t (ended r (below r i n st) k e (check (below r i n st) m gs)) (working r (below r i n st) k [] m)))
      ≡ suc (left r i n (pick t (look m k e gs st) (tell m k [] st)))
  left_back m k e gs st true = ap suc (sym (left_look m k e gs st))
  left_back m k e gs st false = refl

  left_told : (m : Kept) (k : Key) (gs : List Got) (st : List Frame) → length gs ≤ r.most k → (t : Then) →
      suc (cost_then t (λ q. cost_below r i n st (went m) q + suc (cost_work (below r i n st) (cost_below r i n st) (r.next k) (r.most k - length gs) (gs ++ (got q (below r i n st (went m) q).ans ∷ [])) (below r i n st (went m) q).kept)))
      + cost_unwind r i n st (on_next t (λ a. finish k a gs (went m)) (λ q. work (below r i n st) (r.next k) k (r.most k - length gs) (gs ++ (got q (below r i n st (went m) q).ans ∷ [])) (below r i n st (went m) q).kept))
      ≡ suc (left r i n (told m k gs st t))
  left_told m k gs st l (done a) = sum_4 _
  left_told m k gs st l (ask q) =
      let f = below r i n st in
      let b = f (went m) q in
      let hs = gs ++ (got q b.ans ∷ []) in
      let e : suc (r.most k) - length (gs ++ (got q b.ans ∷ [])) ≡ r.most k - length gs = simp length-append (omega arith) in
      sum_5 _ _ _ ∙ ap (λ (x : ℕ). suc (cost_below r i n st (went m) q + suc (cost_work f (cost_below r i n st) (r.next k) x hs b.kept + cost_unwind r i n st (work f (r.next k) k x hs b.kept)))) (sym e)

  pub left_turn : (c : State) → Ready r n c → Busy c → left r i n c ≡ suc (left r i n (turn r i c))
  left_turn (call m k st) l b =
      let e : n - length st ≡ suc (n - suc (length st)) = omega arith in
      ap (λ (x : ℕ). cost r i x m k + cost_unwind r i n st (bring r i x m k)) e ∙ left_call m k st (r.input k) (find m.entries k)
  left_turn (back m a []) l b = absurd b
  left_turn (back m a (looks k e g gs ∷ st)) l b = left_back m k e gs st (same a g.ans)
  left_turn (back m a (works k gs q ∷ st)) l b = refl
  left_turn (tell m k gs st) l b =
      let e : suc (r.most k) - length gs ≡ suc (r.most k - length gs) = omega arith in
      ap (λ (x : ℕ). cost_work (below r i n st) (cost_below r i n st) (r.next k) x gs m + cost_unwind r i n st (work (below r i n st) (r.next k) k x gs m)) e ∙ left_told m k gs st l (r.next k (answers gs))
