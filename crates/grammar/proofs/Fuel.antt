-- What is left behind what was read is no more than there was.
use mathlib.Core.Bool.{Bool, true, false}
use mathlib.Core.List.{List, [], ◌∷◌}
use mathlib.Core.Option.{Option, some, none}
use Prim.Native.Nat.{ℕ, zero, suc, ◌+◌, ◌≤◌}
use native.Mathlib.Omega.{arith}
use lib.ListN.{length}
use lib.Dec.{eqb}
use Rattle.base.specs.Base.{pick, opt, Word, same}
use Rattle.lexer.specs.Tokens.{Tok, next, tail1}
use Rattle.lexer.specs.Words.{op_at, compares, is_name, is_number, digits, k_let, k_in, k_if, k_then, k_else, t_lp, t_rp, t_comma, t_gets, t_dot}
use Rattle.grammar.specs.Grammar.{E, Es, and_then, e_field, e_op, Got, it, bad, with1, eat, a_word, expr, begins, lets, ifs, level, more, fields, atom, calls, args}

abbrev pub Fits : {A : Type 0} → ℕ → Got A → Type 0
Fits m (it a us) = length us ≤ m
Fits m (bad us) = Unit {0}

pub record Within {A : Type 0} (m : ℕ) (g : Got A) : Type 0 where
  pub fits : Fits m g

pub w_bad : {A : Type 0} (m : ℕ) (us : List Tok) → Within {A = A} m (bad us)
w_bad m us = record { fits = tt }

pub w_it : {A : Type 0} (m : ℕ) (a : A) (us : List Tok) → length us ≤ m → Within m (it a us)
w_it m a us h = record { fits = h }

pub w_with : {A C : Type 0} (m k : ℕ) (g : Got A) (f : A → List Tok → Got C) → Within m g → ((a : A) (us : List Tok) → length us ≤ m → Within k (f a us)) → Within k (with1 g f)
w_with m k (it a us) f w h = h a us w.fits
w_with m k (bad us) f w h = record { fits = tt }

pub w_pick : {A : Type 0} (k : ℕ) (b : Bool) (x y : Got A) → Within k x → Within k y → Within k (pick b x y)
w_pick k true x y p q = p
w_pick k false x y p q = q

pub w_opt : {A C : Type 0} (k : ℕ) (o : Option A) (c : Got C) (f : A → Got C) → Within k c → ((x : A) → Within k (f x)) → Within k (opt o c f)
w_opt k none c f p q = p
w_opt k (some x) c f p q = q x

pub w_eat : {C : Type 0} (k : ℕ) (w : Word) (ts : List Tok) (f : Tok → List Tok → Got C) → ((t : Tok) (us : List Tok) → suc (length us) ≤ length ts → Within k (f t us)) → Within k (eat w ts f)
w_eat k w [] f h = record { fits = tt }
w_eat k w (t ∷ ts) f h = w_pick k (same t.w w) (f t ts) (bad (t ∷ ts)) (h t ts (omega arith)) (record { fits = tt })

pub w_word : (k : ℕ) (ok : Word → Bool) (ts : List Tok) → length ts ≤ suc k → Within k (a_word ok ts)
w_word k ok [] h = record { fits = tt }
w_word k ok (t ∷ ts) h = w_pick k (ok t.w) (it t ts) (bad (t ∷ ts)) (record { fits = omega arith }) (record { fits = tt })

pub w_more : {A : Type 0} (m k : ℕ) (g : Got A) → m ≤ k → Within m g → Within k g
w_more m k (it a us) l w = let h : length us ≤ m = w.fits in record { fits = omega arith }
w_more m k (bad us) l w = record { fits = tt }

pub tail_most : (ts : List Tok) → length (tail1 ts) ≤ length ts
tail_most [] = omega arith
tail_most (t ∷ ts) = omega arith

mutual
  pub within_expr : (n : ℕ) (ts : List Tok) → Within (length ts) (expr n ts)
  within_expr zero ts = w_bad _ _
  within_expr (suc n) ts = within_begins n ts (next ts)

  pub within_begins : (n : ℕ) (ts : List Tok) (w : Word) → Within (length ts) (begins n ts w)
  within_begins zero ts w = w_bad _ _
  within_begins (suc n) ts w = w_pick _ (same w k_let) _ _ (within_lets n ts) (w_pick _ (same w k_if) _ _ (within_ifs n ts) (within_level n 1 ts))

  pub within_lets : (n : ℕ) (ts : List Tok) → Within (length ts) (lets n ts)
  within_lets zero ts = w_bad _ _
  within_lets (suc n) ts =
      let k = length ts in
      w_eat k k_let ts _ (λ l us h1. w_with (length us) k _ _ (w_word (length us) is_name us (omega arith)) (λ x vs h2. w_eat k t_gets vs _ (λ g xs h3. w_with (length xs) k _ _ (within_expr n xs) (λ a ys h4.
      w_eat k k_in ys _ (λ i zs h5. w_with (length zs) k _ _ (within_expr n zs) (λ b rs h6. w_it k _ rs (omega arith)))))))

  pub within_ifs : (n : ℕ) (ts : List Tok) → Within (length ts) (ifs n ts)
  within_ifs zero ts = w_bad _ _
  within_ifs (suc n) ts =
      let k = length ts in
      w_eat k k_if ts _ (λ l us h1. w_with (length us) k _ _ (within_expr n us) (λ a vs h2. w_eat k k_then vs _ (λ g xs h3. w_with (length xs) k _ _ (within_expr n xs) (λ b ys h4.
      w_eat k k_else ys _ (λ i zs h5. w_with (length zs) k _ _ (within_expr n zs) (λ c rs h6. w_it k _ rs (omega arith)))))))

  pub within_level : (n l : ℕ) (ts : List Tok) → Within (length ts) (level n l ts)
  within_level zero l ts = w_bad _ _
  within_level (suc n) l ts =
      let k = length ts in
      w_pick k (eqb l 7) _ _ (within_atom n ts) (w_pick k (eqb l 3) _ _
      (w_with k k _ _ (within_level n 4 ts) (λ a us h. w_opt k (compares (next us)) _ _ (w_it k a us h) (λ o. w_with (length (tail1 us)) k _ _ (within_level n 4 (tail1 us)) (λ b vs h2. w_it k _ vs (omega (arith, tail_most us))))))
      (w_with k k _ _ (within_level n (l + 1) ts) (λ a us h. w_pick k (eqb l 6) _ _ (w_more (length us) k _ h (within_fields n a us)) (w_more (length us) k _ h (within_more n l a us)))))

  pub within_more : (n l : ℕ) (a : E) (ts : List Tok) → Within (length ts) (more n l a ts)
  within_more zero l a ts = w_bad _ _
  within_more (suc n) l a ts =
      let k = length ts in
      w_opt k (op_at l (next ts)) _ _ (w_it k a ts (omega arith)) (λ o. w_with (length (tail1 ts)) k _ _ (within_level n (l + 1) (tail1 ts)) (λ b us h. w_more (length us) k _ (omega (arith, tail_most ts)) (within_more n l (e_op o a b) us)))

  pub within_fields : (n : ℕ) (a : E) (ts : List Tok) → Within (length ts) (fields n a ts)
  within_fields zero a ts = w_bad _ _
  within_fields (suc n) a ts =
      let k = length ts in
      w_pick k (same (next ts) t_dot) _ _ (w_with k k _ _ (w_word k is_name (tail1 ts) (omega (arith, tail_most ts))) (λ x us h. w_more (length us) k _ h (within_fields n (e_field a x) us))) (w_it k a ts (omega arith))

  pub within_atom : (n : ℕ) (ts : List Tok) → Within (length ts) (atom n ts)
  within_atom zero ts = w_bad _ _
  within_atom (suc n) [] = w_bad _ _
  within_atom (suc n) (t ∷ ts) =
      let k = suc (length ts) in
      w_pick k (same t.w t_lp) _ _ (w_with (length ts) k _ _ (within_expr n ts) (λ a us h. w_eat k t_rp us _ (λ r vs h2. w_it k _ vs (omega arith))))
      (w_pick k (is_number t.w) _ _ (w_pick k (digits t.w) _ _ (w_it k _ ts (omega arith)) (w_bad _ _))
      (w_pick k (is_name t.w) _ _ (w_pick k (same (next ts) t_lp) _ _ (w_more (length (tail1 ts)) k _ (omega (arith, tail_most ts)) (within_calls n t (tail1 ts))) (w_it k _ ts (omega arith))) (w_bad _ _)))

  pub within_calls : (n : ℕ) (f : Tok) (ts : List Tok) → Within (length ts) (calls n f ts)
  within_calls zero f ts = w_bad _ _
  within_calls (suc n) f ts = let k = length ts in w_pick k (same (next ts) t_rp) _ _ (w_eat k t_rp ts _ (λ r us h. w_it k _ us (omega arith))) (within_args n f ts (λ es. es))

  pub within_args : (n : ℕ) (f : Tok) (ts : List Tok) (k : Es → Es) → Within (length ts) (args n f ts k)
  within_args zero f ts k = w_bad _ _
  within_args (suc n) f ts k =
      let m = length ts in
      w_with m m _ _ (within_expr n ts) (λ a us h. w_pick m (same (next us) t_comma) _ _ (w_more (length (tail1 us)) m _ (omega (arith, tail_most us)) (within_args n f (tail1 us) (λ es. k (and_then a es)))) (w_eat m t_rp us _ (λ r vs h2. w_it m _ vs (omega arith))))
