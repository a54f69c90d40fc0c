-- Facts on which the other files rest: tests of keys and answers are right, what is found after an entry was stored, members of lists.
use Rattle.std.proofs.Common.{◌≡◌, suc, Bool, true, false, ◌&&◌, eqb, ◌⊎◌, List, [], ◌∷◌, ◌++◌, length, sym, refl, ap, ◌∙◌, inl, inr, rules}
use mathlib.Core.Option.{some, none}
use Rattle.std.proofs.lemmas.Bool.{and_parts, and_from, eqb-true, eq-eqb, both_ways}
use Rattle.std.proofs.lemmas.Slice.Eq.{compares_Decides}
use Rattle.engine.specs.declared.key.Key.{Key}
use Rattle.base.specs.Base.{pick, same}
use Rattle.engine.specs.Engine.{Ans, Got, Entry, find, store, answers, same_key}
use Rattle.engine.specs.Theorems.{Among, here, there, NoTwice, another, InGots, first, later}

-- a test and its two ways
pub pick_true : {A : Type 0} {b : Bool} (x y : A) → b ≡ true → pick b x y ≡ x
pick_true {A} {b} x y e = rw e

pub pick_false : {A : Type 0} {b : Bool} (x y : A) → b ≡ false → pick b x y ≡ y
pick_false {A} {b} x y e = rw e

-- answers and keys are told apart
pub same_true : (a b : Ans) → same a b ≡ true → a ≡ b
same_true a b e = (compares_Decides same (search rules) a b).0 e

pub same_yes : (a b : Ans) → a ≡ b → same a b ≡ true
same_yes a b e = (compares_Decides same (search rules) a b).1 e

pub key_true : (j k : Key) → same_key j k ≡ true → j ≡ k
key_true j k e =
    let p = and_parts (eqb j.kind k.kind) (eqb j.a k.a && eqb j.b k.b) e in
    let q = and_parts (eqb j.a k.a) (eqb j.b k.b) p.1 in
    λ x. record { kind = eqb-true j.kind k.kind p.0 x; a = eqb-true j.a k.a q.0 x; b = eqb-true j.b k.b q.1 x }

pub key_refl : (k : Key) → same_key k k ≡ true
key_refl k = and_from _ _ (eq-eqb k.kind k.kind refl) (and_from _ _ (eq-eqb k.a k.a refl) (eq-eqb k.b k.b refl))

pub key_yes : (j k : Key) → j ≡ k → same_key j k ≡ true
key_yes j k e = rw e (key_refl k)

pub key_cases : (j k : Key) → (j ≡ k) ⊎ (j ≡ k → ⊥)
key_cases j k = go (same_key j k) refl
  where
    go : (b : Bool) → same_key j k ≡ b → (j ≡ k) ⊎ (j ≡ k → ⊥)
    go true e = inl (key_true j k e)
    go false e = inr (λ p. both_ways _ e (key_yes j k p))

pub key_no : (j k : Key) → (j ≡ k → ⊥) → same_key j k ≡ false
key_no j k n = go (same_key j k) refl
  where
    go : (b : Bool) → same_key j k ≡ b → same_key j k ≡ false
    go true e = absurd (n (key_true j k e))
    go false e = e

-- what is found after storing
pub find_here : (e : Entry) (es : List Entry) → find (store e es) e.key ≡ some e
find_here e [] = pick_true (some e) none (key_refl e.key)
find_here e (f ∷ fs) = go (same_key f.key e.key) refl (find_here e fs)
  where
    go : (b : Bool) → same_key f.key e.key ≡ b → find (store e fs) e.key ≡ some e → find (store e (f ∷ fs)) e.key ≡ some e
    go true p ih = rw p (pick_true (some e) (find fs e.key) (key_refl e.key))
    go false p ih = rw (p, p) ih

pub find_apart : (e : Entry) (es : List Entry) (k : Key) → (e.key ≡ k → ⊥) → find (store e es) k ≡ find es k
find_apart e [] k n = pick_false (some e) none (key_no e.key k n)
find_apart e (f ∷ fs) k n = go (same_key f.key e.key) refl (find_apart e fs k n)
  where
    go : (b : Bool) → same_key f.key e.key ≡ b → find (store e fs) k ≡ find fs k → find (store e (f ∷ fs)) k ≡ find (f ∷ fs) k
    go true p ih = rw p (rw (key_no e.key k n, key_no f.key k (λ q. n (sym (key_true f.key e.key p) ∙ q))))
    go false p ih = rw p (ap (pick (same_key f.key k) (some f)) ih)

-- answers of a longer list
pub answers_more : (gs : List Got) (g : Got) → answers (gs ++ (g ∷ [])) ≡ answers gs ++ (g.ans ∷ [])
answers_more [] g = refl
answers_more (h ∷ gs) g = ap (λ as₁. h.ans ∷ as₁) (answers_more gs g)

pub length_answers : (gs : List Got) → length (answers gs) ≡ length gs
length_answers [] = refl
length_answers (g ∷ gs) = ap suc (length_answers gs)

-- what stands in two lists together
pub among_cases : (j : Key) (xs ys : List Key) → Among j (xs ++ ys) → Among j xs ⊎ Among j ys
among_cases j [] ys h = inr h
among_cases j (x ∷ xs) ys here = inl here
among_cases j (x ∷ xs) ys (there h) = elim (among_cases j xs ys h) [ inl p ↦ inl (there p) | inr p ↦ inr p ]

pub among_one : (j k : Key) → Among j (k ∷ []) → j ≡ k
among_one j k here = refl
among_one j k (there h) = elim h [ ]

pub no_twice_join : (xs ys : List Key) → NoTwice xs → NoTwice ys → ((j : Key) → Among j xs → Among j ys → ⊥) → NoTwice (xs ++ ys)
no_twice_join [] ys p q n = q
no_twice_join (x ∷ xs) ys (another a p) q n =
    another (λ h. elim (among_cases x xs ys h) [ inl u ↦ a u | inr u ↦ n x here u ]) (no_twice_join xs ys p q (λ j u v. n j (there u) v))

pub among_left : (j : Key) (xs ys : List Key) → Among j xs → Among j (xs ++ ys)
among_left j (x ∷ xs) ys here = here
among_left j (x ∷ xs) ys (there h) = there (among_left j xs ys h)
among_left j [] ys h = elim h [ ]

pub among_right : (j : Key) (xs ys : List Key) → Among j ys → Among j (xs ++ ys)
among_right j [] ys h = h
among_right j (x ∷ xs) ys h = there (among_right j xs ys h)

-- what holds of all that stands in a longer list
pub in_cons : (P : Got → Type 0) (h : Got) (gs : List Got) → P h → ((g : Got) → InGots g gs → P g) → (g : Got) → InGots g (h ∷ gs) → P g
in_cons P h gs p q g first = p
in_cons P h gs p q g (later y) = q g y

pub in_more : (P : Got → Type 0) (gs : List Got) (h : Got) → ((g : Got) → InGots g gs → P g) → P h → (g : Got) → InGots g (gs ++ (h ∷ [])) → P g
in_more P [] h q p g first = p
in_more P [] h q p g (later y) = elim y [ ]
in_more P (x ∷ gs) h q p g first = q g first
in_more P (x ∷ gs) h q p g (later y) = in_more P gs h (λ z w. q z (later w)) p g y

pub in_both : (P : Got → Type 0) (xs ys : List Got) → ((g : Got) → InGots g xs → P g) → ((g : Got) → InGots g ys → P g) → (g : Got) → InGots g (xs ++ ys) → P g
in_both P [] ys p q g h = q g h
in_both P (x ∷ xs) ys p q g first = p g first
in_both P (x ∷ xs) ys p q g (later h) = in_both P xs ys (λ z w. p z (later w)) q g h

pub in_right : (g : Got) (xs ys : List Got) → InGots g ys → InGots g (xs ++ ys)
in_right g [] ys h = h
in_right g (x ∷ xs) ys h = later (in_right g xs ys h)
