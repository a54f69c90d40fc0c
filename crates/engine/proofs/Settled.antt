-- Settled keys: what is settled stays so when entries are stored (settled_lower, settled_store), and to bring a settled key changes
-- nothing (settled_bring), since the answer of its entry is right (entry_right). This is why asking again tells no rule.
use Rattle.std.proofs.Common.{◌≡◌, ℕ, zero, suc, ◌<◌, true, false, ◌⊎◌, List, [], ◌∷◌, sym, refl, ap, ◌∙◌, subst, inl, inr, arith}
use mathlib.Core.Option.{some}
use Rattle.std.proofs.lemmas.Bool.{both_ways}
use Rattle.engine.specs.declared.key.Key.{Key}
use Rattle.base.specs.Base.{pick}
use Rattle.engine.specs.Engine.{Rules, Inputs, Got, Entry, Kept, Bring, brought, bring, find, store, check, Checked, work, renew}
use Rattle.engine.specs.Theorems.{Falls, Asked, InGots, first, later, value, Settled, given, stands}
use Rattle.engine.proofs.Basics.{pick_true, pick_false, same_yes, key_cases, find_apart}
use Rattle.engine.proofs.Worth.{asked_lower, value_asked}

-- entries are honest: as Honest, of the entries alone
abbrev pub Fair : Rules → List Entry → Type 0
Fair r es = (k : Key) (e : Entry) → find es k ≡ some e → Asked (r.next k) [] e.gots e.ans

-- the answers of these are what the keys are worth now
abbrev pub Right : Rules → Inputs → List Got → Type 0
Right r i gs = (g : Got) → InGots g gs → value r i g.key ≡ g.ans

abbrev pub AllSettled : Rules → Inputs → List Entry → List Got → Type 0
AllSettled r i es gs = (g : Got) → InGots g gs → Settled r i es g.key

-- what was asked has the answers that it had: the look at it ends well, and changes nothing
pub check_all : (f : Bring) (m : Kept) (gs : List Got) → ((g : Got) → InGots g gs → f m g.key ≡ brought m g.ans) → check f m gs ≡ record { kept = m; same1 = true }
check_all f m [] h = refl
check_all f m (g ∷ gs) h = rw (h g first, same_yes g.ans g.ans refl) (check_all f m gs (λ x y. h x (later y)))

module _ (r : Rules) (i : Inputs) (fall : Falls r) where
  -- a settled key stays so when a higher one is stored
  pub settled_lower : (e : Entry) (es : List Entry) → Fair r es → (q : Key) → Settled r i es q → r.rank q < r.rank e.key → Settled r i (store e es) q
  settled_lower e es h q (given p) l = given p
  settled_lower e es h q (stands {e = d} p f s v) l =
      stands p (find_apart e es q (λ x. let y = ap r.rank x in omega arith) ∙ f)
      (λ g y. let z = asked_lower r i fall q [] d.gots d.ans (h q d f) g y in settled_lower e es h g.key (s g y) (omega arith)) v

  -- and when any is, that is settled then
  pub settled_store : (e : Entry) (es : List Entry) → Settled r i (store e es) e.key → (q : Key) → Settled r i es q → Settled r i (store e es) q
  settled_store e es n q (given p) = given p
  settled_store e es n q (stands {e = d} p f s v) = go (key_cases e.key q) (λ g y. settled_store e es n g.key (s g y))
    where
      go : (e.key ≡ q) ⊎ (e.key ≡ q → ⊥) → AllSettled r i (store e es) d.gots → Settled r i (store e es) q
      go (inl x) ih = subst (Settled r i (store e es)) x n
      go (inr x) ih = stands p (find_apart e es q x ∙ f) ih v

  -- to bring a settled key changes nothing
  pub settled_bring : (n : ℕ) (m : Kept) (k : Key) → Fair r m.entries → r.rank k < n → Settled r i m.entries k → bring r i n m k ≡ brought m (value r i k)
  settled_bring zero m k h l s = absurd (omega arith)
  settled_bring (suc n) m k h l (given p) = pick_true _ _ p ∙ ap (brought m) (sym (pick_true _ _ p))
  settled_bring (suc n) m k h l (stands {e = e} p f s v) =
      let a = h k e f in
      let c = check_all (bring r i n) m e.gots (λ g y. let z = asked_lower r i fall k [] e.gots e.ans a g y in settled_bring n m g.key h (omega arith) (s g y) ∙ ap (brought m) (v g y)) in
      pick_false _ _ p ∙ (ap (renew (bring r i n) r m k) f ∙ (ap (λ (x : Checked). pick x.same1 (brought x.kept e.ans) (work (bring r i n) (r.next k) k (suc (r.most k)) [] x.kept)) c ∙ ap (brought m) (sym (value_asked r i fall k e.gots e.ans p a v))))

  -- a settled key's entry holds the right answer
  pub entry_right : (es : List Entry) (k : Key) (e : Entry) → Fair r es → r.input k ≡ false → find es k ≡ some e → Settled r i es k → e.ans ≡ value r i k
  entry_right es k e h p f (given q) = absurd (both_ways _ p q)
  entry_right es k e h p f (stands {e = d} q x y v) =
      let z : d ≡ e = cc in
      sym (value_asked r i fall k e.gots e.ans p (h k e f) (subst (λ (c : Entry). Right r i c.gots) z v))
