-- What a key is worth is the same for any bound on the depth above its rank (worth_above), and an honest entry whose answers are right
-- holds the right answer (value_asked).
use Rattle.std.proofs.Common.{◌≡◌, ℕ, zero, suc, ◌+◌, ◌<◌, ◌≤◌, false, List, [], ◌∷◌, ◌++◌, length, refl, ap, ◌∙◌, arith, leb→le, length-append}
use Rattle.engine.specs.declared.key.Key.{Key}
use Rattle.base.specs.Base.{pick}
use Rattle.engine.specs.Engine.{Ans, Then, ask, done, Rules, Inputs, follow, worth, Got, answers}
use Rattle.engine.specs.Theorems.{Falls, Asked, ends, asks, InGots, first, later, value}
use Rattle.engine.proofs.Basics.{pick_false}

-- what a rule got so far goes with any end: an entry in the making
abbrev pub Partial : Rules → Key → List Got → Type 0
Partial r k gs = (rest : List Got) (a : Ans) → Asked (r.next k) (answers gs) rest a → Asked (r.next k) [] (gs ++ rest) a

-- the same answers, the same end
pub follow_same : (f h : Key → Ans) (g : List Ans → Then) (n : ℕ) (as₁ : List Ans) → ((q : Key) (bs : List Ans) → g bs ≡ ask q → f q ≡ h q) → follow f g n as₁ ≡ follow h g n as₁
follow_same f h g zero as₁ e = refl
follow_same f h g (suc n) as₁ e = go (g as₁) refl (λ bs. follow_same f h g n bs e)
  where
    go : (t : Then) → g as₁ ≡ t → ((bs : List Ans) → follow f g n bs ≡ follow h g n bs) → follow f g (suc n) as₁ ≡ follow h g (suc n) as₁
    go (done a) p ih = rw p refl
    go (ask q) p ih = rw (p, e q as₁ p) (ih (as₁ ++ (h q ∷ [])))

module _ (r : Rules) (i : Inputs) (fall : Falls r) where
  pub lower : (k q : Key) (as₁ : List Ans) → r.next k as₁ ≡ ask q → r.rank q < r.rank k
  lower k q as₁ e = leb→le (suc (r.rank q)) (r.rank k) (fall.lower k q as₁ e).0

  pub fewer : (k q : Key) (as₁ : List Ans) → r.next k as₁ ≡ ask q → length as₁ < r.most k
  fewer k q as₁ e = leb→le (suc (length as₁)) (r.most k) (fall.lower k q as₁ e).1

  pub worth_above : (n l : ℕ) (k : Key) → r.rank k < n → r.rank k < l → worth r i n k ≡ worth r i l k
  worth_above zero l k p q = absurd (omega arith)
  worth_above (suc n) zero k p q = absurd (omega arith)
  worth_above (suc n) (suc l) k p q =
      ap (pick (r.input k) (i k)) (follow_same (worth r i n) (worth r i l) (r.next k) (suc (r.most k)) [] (λ j bs e. let h = lower k j bs e in worth_above n l j (omega arith) (omega arith)))

  -- what is asked has a smaller rank
  pub asked_lower : (k : Key) (as₁ : List Ans) (gs : List Got) (a : Ans) → Asked (r.next k) as₁ gs a → (g : Got) → InGots g gs → r.rank g.key < r.rank k
  asked_lower k as₁ (h ∷ gs) a (asks p x) g first = lower k g.key as₁ p
  asked_lower k as₁ (h ∷ gs) a (asks p x) g (later y) = asked_lower k _ gs a x g y
  asked_lower k as₁ [] a x g y = elim y [ ]

  -- an entry whose answers are right has the right answer
  pub follow_asked : (f : Key → Ans) (k : Key) (n : ℕ) (as₁ : List Ans) (gs : List Got) (a : Ans) → Asked (r.next k) as₁ gs a → ((g : Got) → InGots g gs → f g.key ≡ g.ans) → length as₁ ≤ r.most k → r.most k < length as₁ + n → follow f (r.next k) n as₁ ≡ a
  follow_asked f k zero as₁ gs a x v p q = absurd (omega arith)
  follow_asked f k (suc n) as₁ [] a (ends e) v p q = rw e refl
  follow_asked f k (suc n) as₁ (g ∷ gs) a (asks e x) v p q =
      rw (e, v g first) (follow_asked f k n (as₁ ++ (g.ans ∷ [])) gs a x (λ h y. v h (later y)) (simp length-append (let h = fewer k g.key as₁ e in omega arith)) (simp length-append (omega arith)))

  pub value_asked : (k : Key) (gs : List Got) (a : Ans) → r.input k ≡ false → Asked (r.next k) [] gs a → ((g : Got) → InGots g gs → value r i g.key ≡ g.ans) → value r i k ≡ a
  value_asked k gs a p x v =
      pick_false (i k) _ p ∙ follow_asked (worth r i (r.rank k)) k (suc (r.most k)) [] gs a x (λ g y. let h = asked_lower k [] gs a x g y in worth_above (r.rank k) (suc (r.rank g.key)) g.key h (omega arith) ∙ v g y) (omega arith) (omega arith)
