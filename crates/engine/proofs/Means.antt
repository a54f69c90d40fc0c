-- A turn of the machine keeps what its state comes to (mean_turn), as long as there is depth left for it.
use Rattle.std.proofs.Common.{◌≡◌, ℕ, suc, ◌-◌, ◌≤◌, Bool, true, false, List, [], ◌∷◌, ◌++◌, length, refl, ap, ◌∙◌, arith, length-append}
use mathlib.Core.Option.{Option, some, none}
use Rattle.engine.specs.declared.key.Key.{Key}
use Rattle.base.specs.Base.{pick, same}
use Rattle.engine.specs.Engine.{Then, ask, done, Rules, Inputs, Got, Entry, Kept, Brought, Bring, brought, bring, find, check, Checked, answers, went, finish, on_next, work, renew}
use Rattle.engine.specs.Machine.{Frame, looks, works, State, call, back, tell, got, look, called, told, turn, working, ended, below, unwind, mean, Ready}

pick_map : {A C : Type 0} (h : A → C) (b : Bool) (x y : A) → pick b (h x) (h y) ≡ h (pick b x y)
pick_map h true x y = refl
pick_map h false x y = refl

module _ (r : Rules) (i : Inputs) (n : ℕ) where
  mean_look : (m : Kept) (k : Key) (e : Entry) (gs : List Got) (st : List Frame) → mean r i n (look m k e gs st) ≡ unwind r i n st (ended r (below r i n st) k e (check (below r i n st) m gs))
  mean_look m k e [] st = refl
  mean_look m k e (g ∷ gs) st =
      let f = below r i n st in
      let b = f m g.key in
      ap (unwind r i n st) (pick_map {A = Checked} (ended r f k e) (same b.ans g.ans) (check f b.kept gs) (record { kept = b.kept; same1 = false }))

  pub from_start : (f : Bring) (m : Kept) (k : Key) → working r f k [] m ≡ work f (r.next k) k (suc (r.most k)) [] m
  from_start f m k = let e : suc (r.most k) - 0 ≡ suc (r.most k) = omega arith in ap (λ (x : ℕ). work f (r.next k) k x [] m) e

  mean_call : (m : Kept) (k : Key) (st : List Frame) (b : Bool) (o : Option Entry) → mean r i n (pick b (back m (i k) st) (called m k st o)) ≡ unwind r i n st (pick b (brought m (i k)) (renew (below r i n st) r m k o))
  mean_call m k st true o = refl
  mean_call m k st false none = ap (unwind r i n st) (from_start (below r i n st) m k)
  mean_call m k st false (some e) =
      let f = below r i n st in
      mean_look m k e e.gots st ∙ ap (λ (x : Brought). unwind r i n st (pick (check f m e.gots).same1 (brought (check f m e.gots).kept e.ans) x)) (from_start f (check f m e.gots).kept k)

  mean_back : (m : Kept) (k : Key) (e : Entry) (gs : List Got) (st : List Frame) (b : Bool) → mean r i n (pick b (look m k e gs st) (tell m k [] st)) ≡ unwind r i n st (pick b (ended r (below r i n st) k e (check (below r i n st) m gs)) (working r (below r i n st) k [] m))
  mean_back m k e gs st true = mean_look m k e gs st
  mean_back m k e gs st false = refl

  mean_told : (m : Kept) (k : Key) (gs : List Got) (st : List Frame) → length gs ≤ r.most k → (t : Then) → mean r i n (told m k gs st t) ≡ unwind r i n st (on_next t (λ a. finish k a gs (went m)) (λ q. work (below r i n st) (r.next k) k (r.most k - length gs) (gs ++ (got q (below r i n st (went m) q).ans ∷ [])) (below r i n st (went m) q).kept))
  mean_told m k gs st l (done a) = refl
  mean_told m k gs st l (ask q) =
      let b = below r i n st (went m) q in
      let e : suc (r.most k) - length (gs ++ (got q b.ans ∷ [])) ≡ r.most k - length gs = simp length-append (omega arith) in
      ap (λ (x : ℕ). unwind r i n st (work (below r i n st) (r.next k) k x (gs ++ (got q b.ans ∷ [])) b.kept)) e

  pub mean_turn : (c : State) → Ready r n c → mean r i n (turn r i c) ≡ mean r i n c
  mean_turn (call m k st) l =
      let e : suc (n - suc (length st)) ≡ n - length st = omega arith in
      mean_call m k st (r.input k) (find m.entries k) ∙ ap (λ (x : ℕ). unwind r i n st (bring r i x m k)) e
  mean_turn (back m a []) l = refl
  mean_turn (back m a (looks k e g gs ∷ st)) l = mean_back m k e gs st (same a g.ans)
  mean_turn (back m a (works k gs q ∷ st)) l = refl
  mean_turn (tell m k gs st) l =
      let e : suc (r.most k - length gs) ≡ suc (r.most k) - length gs = omega arith in
      mean_told m k gs st l (r.next k (answers gs)) ∙ ap (λ (x : ℕ). unwind r i n st (work (below r i n st) (r.next k) k x gs m)) e
