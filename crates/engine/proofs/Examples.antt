-- Small rules, on which the definitions are seen to compute: for each set its questions go down (Falls), and facts by computation say
-- the answer and how often rules are told when a key is brought with nothing kept, when it is asked again, and when an input changed.
--   sums: a total over inputs, with a layer between that lets little through, so that most changes end there
--   diamond: each key of a level asks both keys of the level below; every key is worked out once, though the paths double with each level
--   switch: what a rule asks next hangs on what it was told
use Rattle.std.proofs.Common.{◌≡◌, ℕ, zero, suc, ◌+◌, Bool, true, false, T, eqb, leb, List, [], ◌∷◌, length, sym, refl, subst, arith, le→leb}
use Rattle.engine.specs.declared.key.Key.{Key}
use Rattle.base.specs.Base.{pick}
use Rattle.engine.specs.Engine.{Ans, Then, ask, done, Rules, Inputs, worth, Brought, bring}
use Rattle.engine.specs.Says.{kept}
use Rattle.engine.specs.Theorems.{Falls}
use Rattle.engine.proofs.Promises.{up_to_date, nothing_honest}

abbrev pub key : ℕ → ℕ → ℕ → Key
key n a b = record { kind = n; a = a; b = b }

-- all answers put together, and the sum of all their numbers
abbrev pub sum : Ans → ℕ
sum [] = 0
sum (x ∷ xs) = x + sum xs

abbrev pub total : List Ans → ℕ
total [] = 0
total (a ∷ as₁) = sum a + total as₁

-- keys of kind 0 are inputs
abbrev pub is_zero : ℕ → Bool
is_zero zero = true
is_zero (suc n) = false

-- a key brought with these entries kept and nothing counted yet, so that the count is that of this bringing alone
abbrev pub next_time : Rules → Inputs → ℕ → Brought → Key → Brought
next_time r i n b k = bring r i n (kept b.kept.entries) k

-- SUMS. 0 a: an input. 1 a: 1 if input a is above 9, else 0. 2 n: how many of the first n inputs are above 9
abbrev pub sums_next : ℕ → ℕ → List Ans → Then
sums_next zero a as₁ = done []
sums_next (suc zero) a [] = ask (key 0 a 0)
sums_next (suc zero) a (x ∷ xs) = done (pick (leb 10 (sum x)) 1 0 ∷ [])
sums_next (suc (suc n)) a as₁ = pick (leb (suc (length as₁)) a) (ask (key 1 (length as₁) 0)) (done (total as₁ ∷ []))

abbrev pub sums_rank : ℕ → ℕ
sums_rank zero = 0
sums_rank (suc zero) = 1
sums_rank (suc (suc n)) = 2

abbrev pub sums_most : ℕ → ℕ → ℕ
sums_most zero a = 0
sums_most (suc zero) a = 1
sums_most (suc (suc n)) a = a

abbrev pub sums : Rules
sums = record { input = λ k. is_zero k.kind; next = λ k. sums_next k.kind k.a; rank = λ k. sums_rank k.kind; most = λ k. sums_most k.kind k.a }

sums_lower : (n a : ℕ) (as₁ : List Ans) (q : Key) → sums_next n a as₁ ≡ ask q → T (leb (suc (sums_rank q.kind)) (sums_rank n)) × T (leb (suc (length as₁)) (sums_most n a))
sums_lower zero a as₁ q e = absurd (let z : ◌≡◌ {A = ℕ} 0 1 = cc in omega arith)
sums_lower (suc zero) a [] q e = let z : key 0 a 0 ≡ q = cc in subst (λ (x : Key). T (leb (suc (sums_rank x.kind)) 1) × T (leb 1 1)) z (tt, tt)
sums_lower (suc zero) a (x ∷ xs) q e = absurd (let z : ◌≡◌ {A = ℕ} 0 1 = cc in omega arith)
sums_lower (suc (suc n)) a as₁ q e = go (leb (suc (length as₁)) a) refl e
  where
    go : (b : Bool) → leb (suc (length as₁)) a ≡ b → pick b (ask (key 1 (length as₁) 0)) (done (total as₁ ∷ [])) ≡ ask q → T (leb (suc (sums_rank q.kind)) 2) × T (leb (suc (length as₁)) a)
    go true p f = let z : key 1 (length as₁) 0 ≡ q = cc in (subst (λ (x : Key). T (leb (suc (sums_rank x.kind)) 2)) z tt, subst T (sym p) tt)
    go false p f = absurd (let z : ◌≡◌ {A = ℕ} 0 1 = cc in omega arith)

pub sums_fall : Falls sums
sums_fall = record { lower = λ k q as₁ e. sums_lower k.kind k.a as₁ q e }

-- four inputs, x the second of them
abbrev pub four : ℕ → Inputs
four x k = pick (eqb k.a 0) (4 ∷ []) (pick (eqb k.a 1) (x ∷ []) (pick (eqb k.a 2) (30 ∷ []) (12 ∷ [])))

abbrev pub sums_top : Key
sums_top = key 2 4 0

abbrev pub sums_fresh : Brought
sums_fresh = bring sums (four 7) 3 (kept []) sums_top

-- with nothing kept: two inputs are above 9; each of the four keys of the layer is told twice, the sum five times
pub sums_answer : sums_fresh.ans ≡ 2 ∷ []
sums_answer = refl

pub sums_worth : worth sums (four 7) 3 sums_top ≡ 2 ∷ []
sums_worth = refl

pub sums_told : sums_fresh.kept.goes ≡ 13
sums_told = refl

-- and for any inputs the answer is what the key is worth, by the theorem
pub sums_any : (i : Inputs) → (bring sums i 3 (kept []) sums_top).ans ≡ worth sums i 3 sums_top
sums_any i = (up_to_date sums i 3 (kept []) sums_top sums_fall tt (nothing_honest sums)).0

-- asked again: no rule is told
abbrev pub sums_again : Brought
sums_again = next_time sums (four 7) 3 sums_fresh sums_top

pub sums_again_answer : sums_again.ans ≡ 2 ∷ []
sums_again_answer = refl

pub sums_again_told : sums_again.kept.goes ≡ 0
sums_again_told = refl

-- 7 becomes 8: one key of the layer is told twice, and its answer is as before, so the sum isn't told at all
abbrev pub sums_near : Brought
sums_near = next_time sums (four 8) 3 sums_fresh sums_top

pub sums_near_answer : sums_near.ans ≡ 2 ∷ []
sums_near_answer = refl

pub sums_near_told : sums_near.kept.goes ≡ 2
sums_near_told = refl

pub sums_near_worked : sums_near.kept.worked ≡ key 1 1 0 ∷ []
sums_near_worked = refl

-- 7 becomes 11: the sum has to be worked out too, five tellings more; the other three keys of the layer aren't
abbrev pub sums_far : Brought
sums_far = next_time sums (four 11) 3 sums_fresh sums_top

pub sums_far_answer : sums_far.ans ≡ 3 ∷ []
sums_far_answer = refl

pub sums_far_told : sums_far.kept.goes ≡ 7
sums_far_told = refl

pub sums_far_worked : sums_far.kept.worked ≡ key 1 1 0 ∷ sums_top ∷ []
sums_far_worked = refl

-- DIAMOND. 0 b: an input. 1 0 b: input b. 1 (suc a) b: the sum of both keys of level a, and b
abbrev pub diamond_next : ℕ → ℕ → ℕ → List Ans → Then
diamond_next zero a b as₁ = done []
diamond_next (suc n) zero b [] = ask (key 0 b 0)
diamond_next (suc n) zero b (x ∷ xs) = done x
diamond_next (suc n) (suc a) b [] = ask (key 1 a 0)
diamond_next (suc n) (suc a) b (x ∷ []) = ask (key 1 a 1)
diamond_next (suc n) (suc a) b (x ∷ (y ∷ ys)) = done (((sum x + sum y) + b) ∷ [])

abbrev pub diamond_rank : ℕ → ℕ → ℕ
diamond_rank zero a = 0
diamond_rank (suc n) a = suc a

abbrev pub diamond : Rules
diamond = record { input = λ k. is_zero k.kind; next = λ k. diamond_next k.kind k.a k.b; rank = λ k. diamond_rank k.kind k.a; most = λ k. 2 }

diamond_lower : (n a b : ℕ) (as₁ : List Ans) (q : Key) → diamond_next n a b as₁ ≡ ask q → T (leb (suc (diamond_rank q.kind q.a)) (diamond_rank n a)) × T (leb (suc (length as₁)) 2)
diamond_lower zero a b as₁ q e = absurd (let z : ◌≡◌ {A = ℕ} 0 1 = cc in omega arith)
diamond_lower (suc n) zero b [] q e = let z : key 0 b 0 ≡ q = cc in (subst (λ (x : Key). T (leb (suc (diamond_rank x.kind x.a)) 1)) z tt, tt)
diamond_lower (suc n) zero b (x ∷ xs) q e = absurd (let z : ◌≡◌ {A = ℕ} 0 1 = cc in omega arith)
diamond_lower (suc n) (suc a) b [] q e = let z : key 1 a 0 ≡ q = cc in (subst (λ (x : Key). T (leb (suc (diamond_rank x.kind x.a)) (suc (suc a)))) z (le→leb (suc (suc a)) (suc (suc a)) (omega arith)), tt)
diamond_lower (suc n) (suc a) b (x ∷ []) q e = let z : key 1 a 1 ≡ q = cc in (subst (λ (x : Key). T (leb (suc (diamond_rank x.kind x.a)) (suc (suc a)))) z (le→leb (suc (suc a)) (suc (suc a)) (omega arith)), tt)
diamond_lower (suc n) (suc a) b (x ∷ (y ∷ ys)) q e = absurd (let z : ◌≡◌ {A = ℕ} 0 1 = cc in omega arith)

pub diamond_fall : Falls diamond
diamond_fall = record { lower = λ k q as₁ e. diamond_lower k.kind k.a k.b as₁ q e }

-- two inputs, and the top five levels above them
abbrev pub two : ℕ → ℕ → Inputs
two x y k = pick (eqb k.a 0) (x ∷ []) (y ∷ [])

abbrev pub diamond_top : Key
diamond_top = key 1 5 0

abbrev pub diamond_fresh : Brought
diamond_fresh = bring diamond (two 1 2) 7 (kept []) diamond_top

-- with nothing kept: the two keys of level 0 are told twice each, the eight between and the top three times each, though there are 32
-- ways down
pub diamond_answer : diamond_fresh.ans ≡ 63 ∷ []
diamond_answer = refl

pub diamond_told : diamond_fresh.kept.goes ≡ 31
diamond_told = refl

-- asked again: no rule is told
pub diamond_again_told : (next_time diamond (two 1 2) 7 diamond_fresh diamond_top).kept.goes ≡ 0
diamond_again_told = refl

-- both inputs changed, but for their sum: levels 0 and 1 are told, ten times, and no level above
abbrev pub diamond_swapped : Brought
diamond_swapped = next_time diamond (two 2 1) 7 diamond_fresh diamond_top

pub diamond_swapped_answer : diamond_swapped.ans ≡ 63 ∷ []
diamond_swapped_answer = refl

pub diamond_swapped_told : diamond_swapped.kept.goes ≡ 10
diamond_swapped_told = refl

-- one input changed: all but one key of level 0 are told
abbrev pub diamond_changed : Brought
diamond_changed = next_time diamond (two 1 3) 7 diamond_fresh diamond_top

pub diamond_changed_answer : diamond_changed.ans ≡ 79 ∷ []
diamond_changed_answer = refl

pub diamond_changed_told : diamond_changed.kept.goes ≡ 29
diamond_changed_told = refl

-- SWITCH. 0 a: an input. 1: asks input 0; if that is 0 it asks input 1, else it asks 2, and it answers what it got. 2: twice input 2
abbrev pub switch_next : ℕ → List Ans → Then
switch_next zero as₁ = done []
switch_next (suc zero) [] = ask (key 0 0 0)
switch_next (suc zero) (x ∷ []) = ask (pick (eqb (sum x) 0) (key 0 1 0) (key 2 0 0))
switch_next (suc zero) (x ∷ (y ∷ ys)) = done y
switch_next (suc (suc n)) [] = ask (key 0 2 0)
switch_next (suc (suc n)) (x ∷ xs) = done ((sum x + sum x) ∷ [])

abbrev pub switch_rank : ℕ → ℕ
switch_rank zero = 0
switch_rank (suc zero) = 2
switch_rank (suc (suc n)) = 1

abbrev pub switch : Rules
switch = record { input = λ k. is_zero k.kind; next = λ k. switch_next k.kind; rank = λ k. switch_rank k.kind; most = λ k. 2 }

switch_lower : (n : ℕ) (as₁ : List Ans) (q : Key) → switch_next n as₁ ≡ ask q → T (leb (suc (switch_rank q.kind)) (switch_rank n)) × T (leb (suc (length as₁)) 2)
switch_lower zero as₁ q e = absurd (let z : ◌≡◌ {A = ℕ} 0 1 = cc in omega arith)
switch_lower (suc zero) [] q e = let z : key 0 0 0 ≡ q = cc in (subst (λ (x : Key). T (leb (suc (switch_rank x.kind)) 2)) z tt, tt)
switch_lower (suc zero) (x ∷ []) q e = go (eqb (sum x) 0) e
  where
    go : (b : Bool) → ask (pick b (key 0 1 0) (key 2 0 0)) ≡ ask q → T (leb (suc (switch_rank q.kind)) 2) × T (leb 2 2)
    go true f = let z : key 0 1 0 ≡ q = cc in (subst (λ (x : Key). T (leb (suc (switch_rank x.kind)) 2)) z tt, tt)
    go false f = let z : key 2 0 0 ≡ q = cc in (subst (λ (x : Key). T (leb (suc (switch_rank x.kind)) 2)) z tt, tt)
switch_lower (suc zero) (x ∷ (y ∷ ys)) q e = absurd (let z : ◌≡◌ {A = ℕ} 0 1 = cc in omega arith)
switch_lower (suc (suc n)) [] q e = let z : key 0 2 0 ≡ q = cc in (subst (λ (x : Key). T (leb (suc (switch_rank x.kind)) 1)) z tt, tt)
switch_lower (suc (suc n)) (x ∷ xs) q e = absurd (let z : ◌≡◌ {A = ℕ} 0 1 = cc in omega arith)

pub switch_fall : Falls switch
switch_fall = record { lower = λ k q as₁ e. switch_lower k.kind as₁ q e }

-- the three inputs
abbrev pub three : ℕ → ℕ → ℕ → Inputs
three x y z k = pick (eqb k.a 0) (x ∷ []) (pick (eqb k.a 1) (y ∷ []) (z ∷ []))

abbrev pub switch_top : Key
switch_top = key 1 0 0

-- with nothing kept, and the switch at 0: input 1 is asked and 2 is not
abbrev pub switch_fresh : Brought
switch_fresh = bring switch (three 0 5 8) 3 (kept []) switch_top

pub switch_answer : switch_fresh.ans ≡ 5 ∷ []
switch_answer = refl

pub switch_told : switch_fresh.kept.goes ≡ 3
switch_told = refl

-- asked again, and with another input that wasn't asked: no rule is told
pub switch_again_told : (next_time switch (three 0 5 8) 3 switch_fresh switch_top).kept.goes ≡ 0
switch_again_told = refl

pub switch_unasked_told : (next_time switch (three 0 5 9) 3 switch_fresh switch_top).kept.goes ≡ 0
switch_unasked_told = refl

-- switched over: the rule is told anew, three times, and what it asks then for the first time, twice
abbrev pub switch_over : Brought
switch_over = next_time switch (three 1 5 8) 3 switch_fresh switch_top

pub switch_over_answer : switch_over.ans ≡ 16 ∷ []
switch_over_answer = refl

pub switch_over_told : switch_over.kept.goes ≡ 5
switch_over_told = refl

-- back, and over again: only the rule itself is told, since the entry of what it asks stands
abbrev pub switch_back : Brought
switch_back = next_time switch (three 0 5 8) 3 switch_over switch_top

pub switch_back_answer : switch_back.ans ≡ 5 ∷ []
switch_back_answer = refl

pub switch_back_told : switch_back.kept.goes ≡ 3
switch_back_told = refl

pub switch_over_again_told : (next_time switch (three 1 5 8) 3 switch_back switch_top).kept.goes ≡ 3
switch_over_again_told = refl
