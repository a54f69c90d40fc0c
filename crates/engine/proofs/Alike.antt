-- Neither what a key comes to nor how many turns are left hangs on the tallies: with the same entries both are the same (left-alike). So the
-- measure of a loop can be computed from the entries alone.
use Rattle.std.proofs.Common.{◌≡◌, ℕ, zero, suc, ◌+◌, ◌-◌, Bool, true, false, List, [], ◌∷◌, ◌++◌, length, refl, ap, subst}
use mathlib.Core.Option.{Option, some, none}
use Rattle.engine.specs.declared.key.Key.{Key}
use Rattle.base.specs.Base.{pick, same}
use Rattle.engine.specs.Engine.{Ans, Then, ask, done, Rules, Inputs, Got, Entry, Kept, Brought, Bring, brought, bring, find, store, check, Checked, answers, went, finish, on_next, work, renew}
use Rattle.engine.specs.Machine.{Frame, looks, works, call, back, tell, got, working, ended, below, Cost, cost_check, cost_then, cost_work, cost_working, cost_ended, cost_renew, cost, cost_below, cost_unwind, left}

-- the same but for the tallies
pub record Alike (b c : Brought) : Type 0 where
  pub entries1 : b.kept.entries ≡ c.kept.entries
  pub ans1 : b.ans ≡ c.ans

record AlikeChecked (b c : Checked) : Type 0 where
  pub entries1 : b.kept.entries ≡ c.kept.entries
  pub same2 : b.same1 ≡ c.same1

pick_both : {A : Type 0} (R : A → A → Type 0) (b c : Bool) (x y u v : A) → b ≡ c → R x y → R u v → R (pick b x u) (pick c y v)
pick_both R b c x y u v e p q = subst (λ d. R (pick b x u) (pick d y v)) e (go b)
  where
    go : (b : Bool) → R (pick b x u) (pick b y v)
    go true = p
    go false = q

abbrev Even : Bring → Type 0
Even f = (m l : Kept) (k : Key) → m.entries ≡ l.entries → Alike (f m k) (f l k)

abbrev EvenCost : Cost → Type 0
EvenCost c = (m l : Kept) (k : Key) → m.entries ≡ l.entries → c m k ≡ c l k

module _ (f : Bring) (h : Even f) where
  check_alike : (m l : Kept) (gs : List Got) → m.entries ≡ l.entries → AlikeChecked (check f m gs) (check f l gs)
  check_alike m l [] e = record { entries1 = e; same2 = refl }
  check_alike m l (g ∷ gs) e =
      let x = h m l g.key e in
      pick_both AlikeChecked _ _ _ _ _ _ (ap (λ a. same a g.ans) x.ans1) (check_alike (f m g.key).kept (f l g.key).kept gs x.entries1) (record { entries1 = x.entries1; same2 = refl })

  finish_alike : (k : Key) (a : Ans) (gs : List Got) (m l : Kept) → m.entries ≡ l.entries → Alike (finish k a gs m) (finish k a gs l)
  finish_alike k a gs m l e = record { entries1 = ap (store (record { key = k; ans = a; gots = gs })) e; ans1 = refl }

  work_alike : (g : List Ans → Then) (k : Key) (n : ℕ) (gs : List Got) (m l : Kept) → m.entries ≡ l.entries → Alike (work f g k n gs m) (work f g k n gs l)
  work_alike g k zero gs m l e = finish_alike k [] gs m l e
  work_alike g k (suc n) gs m l e = go (λ hs m l e. work_alike g k n hs m l e) (g (answers gs))
    where
      go : ((hs : List Got) (m l : Kept) → m.entries ≡ l.entries → Alike (work f g k n hs m) (work f g k n hs l)) → (t : Then) → Alike (on_next t (λ a. finish k a gs (went m)) (λ q. work f g k n (gs ++ (got q (f (went m) q).ans ∷ [])) (f (went m) q).kept)) (on_next t (λ a. finish k a gs (went l)) (λ q. work f g k n (gs ++ (got q (f (went l) q).ans ∷ [])) (f (went l) q).kept))
      go ih (done a) = finish_alike k a gs (went m) (went l) e
      go ih (ask q) =
          let x = h (went m) (went l) q e in
          subst (λ a. Alike (work f g k n (gs ++ (got q (f (went m) q).ans ∷ [])) (f (went m) q).kept) (work f g k n (gs ++ (got q a ∷ [])) (f (went l) q).kept)) x.ans1 (ih (gs ++ (got q (f (went m) q).ans ∷ [])) (f (went m) q).kept (f (went l) q).kept x.entries1)

  working_alike : (r : Rules) (k : Key) (gs : List Got) (m l : Kept) → m.entries ≡ l.entries → Alike (working r f k gs m) (working r f k gs l)
  working_alike r k gs m l e = work_alike (r.next k) k (suc (r.most k) - length gs) gs m l e

  ended_alike : (r : Rules) (k : Key) (d : Entry) (x y : Checked) → AlikeChecked x y → Alike (ended r f k d x) (ended r f k d y)
  ended_alike r k d x y a = pick_both Alike _ _ _ _ _ _ a.same2 (record { entries1 = a.entries1; ans1 = refl }) (working_alike r k [] x.kept y.kept a.entries1)

  renew_alike : (r : Rules) (k : Key) (m l : Kept) (o : Option Entry) → m.entries ≡ l.entries → Alike (renew f r m k o) (renew f r l k o)
  renew_alike r k m l none e = work_alike (r.next k) k (suc (r.most k)) [] m l e
  renew_alike r k m l (some d) e =
      let a = check_alike m l d.gots e in
      pick_both Alike _ _ _ _ _ _ a.same2 (record { entries1 = a.entries1; ans1 = refl }) (work_alike (r.next k) k (suc (r.most k)) [] (check f m d.gots).kept (check f l d.gots).kept a.entries1)

  module _ (c : Cost) (hc : EvenCost c) where
    cost_check_alike : (m l : Kept) (gs : List Got) → m.entries ≡ l.entries → cost_check f c m gs ≡ cost_check f c l gs
    cost_check_alike m l [] e = refl
    cost_check_alike m l (g ∷ gs) e =
        let x = h m l g.key e in
        let a = hc m l g.key e in
        let p = pick_both (λ (u v : ℕ). u ≡ v) (same (f m g.key).ans g.ans) (same (f l g.key).ans g.ans) (cost_check f c (f m g.key).kept gs) (cost_check f c (f l g.key).kept gs) 0 0 (ap (λ a. same a g.ans) x.ans1) (cost_check_alike (f m g.key).kept (f l g.key).kept gs x.entries1) refl in
        λ t. a t + suc (p t)

    cost_work_alike : (g : List Ans → Then) (n : ℕ) (gs : List Got) (m l : Kept) → m.entries ≡ l.entries → cost_work f c g n gs m ≡ cost_work f c g n gs l
    cost_work_alike g zero gs m l e = refl
    cost_work_alike g (suc n) gs m l e = ap suc (go (λ hs m l e. cost_work_alike g n hs m l e) (g (answers gs)))
      where
        go : ((hs : List Got) (m l : Kept) → m.entries ≡ l.entries → cost_work f c g n hs m ≡ cost_work f c g n hs l) → (t : Then) → cost_then t (λ q. c (went m) q + suc (cost_work f c g n (gs ++ (got q (f (went m) q).ans ∷ [])) (f (went m) q).kept)) ≡ cost_then t (λ q. c (went l) q + suc (cost_work f c g n (gs ++ (got q (f (went l) q).ans ∷ [])) (f (went l) q).kept))
        go ih (done a) = refl
        go ih (ask q) =
            let x = h (went m) (went l) q e in
            let a = hc (went m) (went l) q e in
            let p = subst (λ z. cost_work f c g n (gs ++ (got q (f (went m) q).ans ∷ [])) (f (went m) q).kept ≡ cost_work f c g n (gs ++ (got q z ∷ [])) (f (went l) q).kept) x.ans1 (ih (gs ++ (got q (f (went m) q).ans ∷ [])) (f (went m) q).kept (f (went l) q).kept x.entries1) in
            λ t. a t + suc (p t)

    cost_working_alike : (r : Rules) (k : Key) (gs : List Got) (m l : Kept) → m.entries ≡ l.entries → cost_working r f c k gs m ≡ cost_working r f c k gs l
    cost_working_alike r k gs m l e = cost_work_alike (r.next k) (suc (r.most k) - length gs) gs m l e

    cost_ended_alike : (r : Rules) (k : Key) (x y : Checked) → AlikeChecked x y → cost_ended r f c k x ≡ cost_ended r f c k y
    cost_ended_alike r k x y a = pick_both (λ (u v : ℕ). u ≡ v) _ _ _ _ _ _ a.same2 refl (cost_working_alike r k [] x.kept y.kept a.entries1)

    cost_renew_alike : (r : Rules) (k : Key) (m l : Kept) (o : Option Entry) → m.entries ≡ l.entries → cost_renew r f c m k o ≡ cost_renew r f c l k o
    cost_renew_alike r k m l none e = cost_working_alike r k [] m l e
    cost_renew_alike r k m l (some d) e =
        let p = cost_check_alike m l d.gots e in
        let q = cost_ended_alike r k (check f m d.gots) (check f l d.gots) (check_alike m l d.gots e) in
        λ t. p t + q t

module _ (r : Rules) (i : Inputs) where
  bring_alike : (n : ℕ) → Even (bring r i n)
  bring_alike zero m l k e = record { entries1 = e; ans1 = refl }
  bring_alike (suc n) m l k e =
      let x = renew_alike (bring r i n) (bring_alike n) r k m l (find m.entries k) e in
      let y = subst (λ o. Alike (renew (bring r i n) r m k (find m.entries k)) (renew (bring r i n) r l k o)) (ap (λ es. find es k) e) x in
      pick_both Alike (r.input k) (r.input k) (brought m (i k)) (brought l (i k)) _ _ refl (record { entries1 = e; ans1 = refl }) y

  cost_alike : (n : ℕ) → EvenCost (cost r i n)
  cost_alike zero m l k e = refl
  cost_alike (suc n) m l k e =
      let x = cost_renew_alike (bring r i n) (bring_alike n) (cost r i n) (cost_alike n) r k m l (find m.entries k) e in
      let y = subst (λ o. cost_renew r (bring r i n) (cost r i n) m k (find m.entries k) ≡ cost_renew r (bring r i n) (cost r i n) l k o) (ap (λ es. find es k) e) x in
      ap suc (pick_both (λ (u v : ℕ). u ≡ v) (r.input k) (r.input k) 0 0 _ _ refl refl y)

  module _ (n : ℕ) where
    cost_unwind_alike : (st : List Frame) (b c : Brought) → Alike b c → cost_unwind r i n st b ≡ cost_unwind r i n st c
    cost_unwind_alike [] b c a = refl
    cost_unwind_alike (looks k e g gs ∷ st) b c a =
        let f = below r i n st in
        let h = bring_alike (n - suc (length st)) in
        let d = cost_below r i n st in
        let hd = cost_alike (n - suc (length st)) in
        let s = ap (λ z. same z g.ans) a.ans1 in
        let ch = check_alike f h b.kept c.kept gs a.entries1 in
        let p1 = cost_check_alike f h d hd b.kept c.kept gs a.entries1 in
        let p2 = cost_ended_alike f h d hd r k (check f b.kept gs) (check f c.kept gs) ch in
        let p3 = cost_working_alike f h d hd r k [] b.kept c.kept a.entries1 in
        let p = pick_both (λ (u v : ℕ). u ≡ v) _ _ _ _ _ _ s (let z : cost_check f d b.kept gs + cost_ended r f d k (check f b.kept gs) ≡ cost_check f d c.kept gs + cost_ended r f d k (check f c.kept gs) = λ t. p1 t + p2 t in z) p3 in
        let q = cost_unwind_alike st _ _ (pick_both Alike _ _ _ _ _ _ s (ended_alike f h r k e (check f b.kept gs) (check f c.kept gs) ch) (working_alike f h r k [] b.kept c.kept a.entries1)) in
        λ t. suc (p t + q t)
    cost_unwind_alike (works k gs q ∷ st) b c a =
        let f = below r i n st in
        let h = bring_alike (n - suc (length st)) in
        let d = cost_below r i n st in
        let hd = cost_alike (n - suc (length st)) in
        let x = gs ++ (got q b.ans ∷ []) in
        let p = subst (λ z. cost_working r f d k x b.kept ≡ cost_working r f d k (gs ++ (got q z ∷ [])) c.kept) a.ans1 (cost_working_alike f h d hd r k x b.kept c.kept a.entries1) in
        let w = subst (λ z. Alike (working r f k x b.kept) (working r f k (gs ++ (got q z ∷ [])) c.kept)) a.ans1 (working_alike f h r k x b.kept c.kept a.entries1) in
        let s = cost_unwind_alike st _ _ w in
        λ t. suc (p t + s t)

    -- the same entries, the same number of turns
    pub left_call_alike : (m l : Kept) (k : Key) (st : List Frame) → m.entries ≡ l.entries → left r i n (call m k st) ≡ left r i n (call l k st)
    left_call_alike m l k st e =
        let p = cost_alike (n - length st) m l k e in
        let q = cost_unwind_alike st _ _ (bring_alike (n - length st) m l k e) in
        λ t. p t + q t

    pub left_back_alike : (m l : Kept) (a : Ans) (st : List Frame) → m.entries ≡ l.entries → left r i n (back m a st) ≡ left r i n (back l a st)
    left_back_alike m l a st e = cost_unwind_alike st (brought m a) (brought l a) (record { entries1 = e; ans1 = refl })

    pub left_tell_alike : (m l : Kept) (k : Key) (gs : List Got) (st : List Frame) → m.entries ≡ l.entries → left r i n (tell m k gs st) ≡ left r i n (tell l k gs st)
    left_tell_alike m l k gs st e =
        let f = below r i n st in
        let h = bring_alike (n - suc (length st)) in
        let p = cost_working_alike f h (cost_below r i n st) (cost_alike (n - suc (length st))) r k gs m l e in
        let q = cost_unwind_alike st _ _ (working_alike f h r k gs m l e) in
        λ t. p t + q t
