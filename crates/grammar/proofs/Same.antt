-- Calls that may go deep enough come to the same, however deep: each body as a function of what it calls.
use mathlib.Core.Path.{◌≡◌, refl, sym, ap, ◌∙◌}
use mathlib.Core.Bool.{Bool, true, false}
use mathlib.Core.List.{List, [], ◌∷◌}
use mathlib.Core.Option.{Option, some, none}
use Prim.Native.Nat.{ℕ, zero, suc, ◌+◌, ◌*◌, ◌≤◌}
use native.Mathlib.Omega.{arith}
use lib.ListN.{length}
use lib.Dec.{eqb}
use borrow.Author.Tests.{eqb-true, eqb-false}
use Rattle.base.specs.Base.{pick, opt, Word, same}
use Rattle.lexer.specs.Tokens.{Tok, next, tail1}
use Rattle.lexer.specs.Words.{op_at, compares, is_name, is_number, digits, k_let, k_in, k_if, k_then, k_else, t_lp, t_rp, t_comma, t_gets, t_dot}
use Rattle.grammar.specs.Grammar.{E, Es, no, and_then, e_num, e_name, e_call, e_field, e_op, e_if, e_let, e_par, Got, it, bad, with1, eat, a_word, expr, begins, lets, ifs, level, more, fields, atom, calls, args}
use Rattle.grammar.proofs.Fuel.{Within, w_word, tail_most, within_expr, within_level}

-- parts that are the same make the same
pub s_with : {A C : Type 0} (m : ℕ) (g h : Got A) (f k : A → List Tok → Got C) → Within m g → g ≡ h → ((a : A) (us : List Tok) → length us ≤ m → f a us ≡ k a us) → with1 g f ≡ with1 h k
s_with {A = A} {C = C} m g h f k w e s = go g w s ∙ ap (λ x. with1 x k) e
  where
    go : (x : Got A) → Within m x → ((a : A) (us : List Tok) → length us ≤ m → f a us ≡ k a us) → with1 x f ≡ with1 x k
    go (it a us) w s = s a us w.fits
    go (bad us) w s = refl

pub s_pick : {A : Type 0} (b : Bool) (x y u v : A) → (b ≡ true → x ≡ u) → (b ≡ false → y ≡ v) → pick b x y ≡ pick b u v
s_pick true x y u v p q = p refl
s_pick false x y u v p q = q refl

pub s_opt : {A C : Type 0} (o : Option A) (c : C) (f k : A → C) → ((x : A) → f x ≡ k x) → opt o c f ≡ opt o c k
s_opt none c f k p = refl
s_opt (some x) c f k p = p x

pub s_eat : {C : Type 0} (w : Word) (ts : List Tok) (f k : Tok → List Tok → Got C) → ((t : Tok) (us : List Tok) → suc (length us) ≤ length ts → f t us ≡ k t us) → eat w ts f ≡ eat w ts k
s_eat w [] f k p = refl
s_eat w (t ∷ ts) f k p = ap (λ x. pick (same t.w w) x (bad (t ∷ ts))) (p t ts (omega arith))

-- the bodies, over what they call
abbrev pub Reads : Type 0
Reads = List Tok → Got E

abbrev pub b_lets : Reads → List Tok → Got E
b_lets f ts = eat k_let ts (λ l us. with1 (a_word is_name us) (λ x vs. eat t_gets vs (λ g xs. with1 (f xs) (λ a ys. eat k_in ys (λ i zs. with1 (f zs) (λ b rs. it (e_let l.from x a b) rs))))))

abbrev pub b_ifs : Reads → List Tok → Got E
b_ifs f ts = eat k_if ts (λ l us. with1 (f us) (λ a vs. eat k_then vs (λ h xs. with1 (f xs) (λ b ys. eat k_else ys (λ e zs. with1 (f zs) (λ c rs. it (e_if l.from a b c) rs))))))

abbrev pub b_compare : (ℕ → Reads) → E → List Tok → Got E
b_compare L a us = opt (compares (next us)) (it a us) (λ o. with1 (L 4 (tail1 us)) (λ b vs. it (e_op o a b) vs))

abbrev pub b_level : Reads → (ℕ → Reads) → (E → Reads) → (ℕ → E → Reads) → ℕ → List Tok → Got E
b_level A L F M l ts = pick (eqb l 7) (A ts) (pick (eqb l 3) (with1 (L 4 ts) (λ a us. b_compare L a us)) (with1 (L (l + 1) ts) (λ a us. pick (eqb l 6) (F a us) (M l a us))))

abbrev pub b_more : (ℕ → Reads) → (ℕ → E → Reads) → ℕ → E → List Tok → Got E
b_more L M l a ts = opt (op_at l (next ts)) (it a ts) (λ o. with1 (L (l + 1) (tail1 ts)) (λ b us. M l (e_op o a b) us))

abbrev pub b_fields : (E → Reads) → E → List Tok → Got E
b_fields F a ts = pick (same (next ts) t_dot) (with1 (a_word is_name (tail1 ts)) (λ x us. F (e_field a x) us)) (it a ts)

abbrev pub b_atom : Reads → (Tok → Reads) → List Tok → Got E
b_atom X C [] = bad []
b_atom X C (t ∷ ts) =
    pick (same t.w t_lp) (with1 (X ts) (λ a us. eat t_rp us (λ r vs. it (e_par t.from a r.to) vs)))
    (pick (is_number t.w) (pick (digits t.w) (it (e_num t) ts) (bad (t ∷ ts)))
    (pick (is_name t.w) (pick (same (next ts) t_lp) (C t (tail1 ts)) (it (e_name t) ts)) (bad (t ∷ ts))))

abbrev pub b_calls : (Tok → List Tok → (Es → Es) → Got E) → Tok → List Tok → Got E
b_calls A f ts = pick (same (next ts) t_rp) (eat t_rp ts (λ r us. it (e_call f no r.to) us)) (A f ts (λ es. es))

abbrev pub b_args : Reads → (Tok → List Tok → (Es → Es) → Got E) → Tok → List Tok → (Es → Es) → Got E
b_args X A f ts k = with1 (X ts) (λ a us. pick (same (next us) t_comma) (A f (tail1 us) (λ es. k (and_then a es))) (eat t_rp us (λ r vs. it (e_call f (k (and_then a no)) r.to) vs)))

abbrev pub Keeps : Reads → Type 0
Keeps f = (us : List Tok) → Within (length us) (f us)

pub lets_same : (f g : Reads) (ts : List Tok) → Keeps f → ((us : List Tok) → suc (length us) ≤ length ts → f us ≡ g us) → b_lets f ts ≡ b_lets g ts
lets_same f g ts w e = s_eat k_let ts _ _ (λ l us h1. s_with (length us) (a_word is_name us) _ _ _ (w_word (length us) is_name us (omega arith)) refl (λ x vs h2. s_eat t_gets vs _ _ (λ q xs h3.
    s_with (length xs) (f xs) (g xs) _ _ (w xs) (e xs (omega arith)) (λ a ys h4. s_eat k_in ys _ _ (λ i zs h5. s_with (length zs) (f zs) (g zs) _ _ (w zs) (e zs (omega arith)) (λ b rs h6. refl))))))

pub ifs_same : (f g : Reads) (ts : List Tok) → Keeps f → ((us : List Tok) → suc (length us) ≤ length ts → f us ≡ g us) → b_ifs f ts ≡ b_ifs g ts
ifs_same f g ts w e = s_eat k_if ts _ _ (λ l us h1. s_with (length us) (f us) (g us) _ _ (w us) (e us (omega arith)) (λ a vs h2. s_eat k_then vs _ _ (λ q xs h3.
    s_with (length xs) (f xs) (g xs) _ _ (w xs) (e xs (omega arith)) (λ b ys h4. s_eat k_else ys _ _ (λ i zs h5. s_with (length zs) (f zs) (g zs) _ _ (w zs) (e zs (omega arith)) (λ c rs h6. refl))))))

pub level_same : (A A₁ : Reads) (L L₁ : ℕ → Reads) (F F₁ : E → Reads) (M M₁ : ℕ → E → Reads) (l : ℕ) (ts : List Tok) → l ≤ 7 → ((j : ℕ) → Keeps (L j)) → A ts ≡ A₁ ts →
    (l ≡ 3 → (us : List Tok) → length us ≤ length ts → L 4 us ≡ L₁ 4 us) → (l ≤ 6 → L (l + 1) ts ≡ L₁ (l + 1) ts) → ((a : E) (us : List Tok) → length us ≤ length ts → F a us ≡ F₁ a us) →
    (l ≤ 6 → (a : E) (us : List Tok) → length us ≤ length ts → M l a us ≡ M₁ l a us) → b_level A L F M l ts ≡ b_level A₁ L₁ F₁ M₁ l ts
level_same A A₁ L L₁ F F₁ M M₁ l ts l7 w eA e3 eL eF eM = s_pick (eqb l 7) _ _ _ _ (λ p. eA) (λ p.
    let l6 : l ≤ 6 = omega (arith, eqb-false l 7 p) in
    s_pick (eqb l 3) _ _ _ _
    (λ q. let is3 = eqb-true l 3 q in
    s_with (length ts) (L 4 ts) (L₁ 4 ts) _ _ (w 4 ts) (e3 is3 ts (omega arith)) (λ a us h. s_opt (compares (next us)) _ _ _ (λ o. s_with (length (tail1 us)) (L 4 (tail1 us)) (L₁ 4 (tail1 us)) _ _ (w 4 (tail1 us)) (e3 is3 (tail1 us) (omega (arith, tail_most us))) (λ b vs h2. refl))))
    (λ q. s_with (length ts) (L (l + 1) ts) (L₁ (l + 1) ts) _ _ (w (l + 1) ts) (eL l6) (λ a us h. s_pick (eqb l 6) _ _ _ _ (λ r. eF a us h) (λ r. eM l6 a us h))))

abbrev nil : Option ℕ
nil = none

pub op_at_none : (l : ℕ) → op_at l [] ≡ none
op_at_none l = go (eqb l 1) (eqb l 2) (eqb l 4) (eqb l 5)
  where
    go : (p q r s : Bool) → pick p nil (pick q nil (pick r nil (pick s nil nil))) ≡ nil
    go true q r s = refl
    go false true r s = refl
    go false false true s = refl
    go false false false true = refl
    go false false false false = refl

pub more_same : (L L₁ : ℕ → Reads) (M M₁ : ℕ → E → Reads) (l : ℕ) (a : E) (ts : List Tok) → ((j : ℕ) → Keeps (L j)) → ((us : List Tok) → suc (length us) ≤ length ts → L (l + 1) us ≡ L₁ (l + 1) us) →
    ((b : E) (us : List Tok) → suc (length us) ≤ length ts → M l b us ≡ M₁ l b us) → b_more L M l a ts ≡ b_more L₁ M₁ l a ts
more_same L L₁ M M₁ l a [] w eL eM = ap (λ (o : Option ℕ). opt o (it a []) (λ o. with1 (L (l + 1) []) (λ b us. M l (e_op o a b) us))) (op_at_none l) ∙ sym (ap (λ (o : Option ℕ). opt o (it a []) (λ o. with1 (L₁ (l + 1) []) (λ b us. M₁ l (e_op o a b) us))) (op_at_none l))
more_same L L₁ M M₁ l a (t ∷ ts) w eL eM = s_opt (op_at l t.w) _ _ _ (λ o. s_with (length ts) (L (l + 1) ts) (L₁ (l + 1) ts) _ _ (w (l + 1) ts) (eL ts (omega arith)) (λ b us h. eM (e_op o a b) us (omega arith)))

pub fields_same : (F F₁ : E → Reads) (a : E) (ts : List Tok) → ((b : E) (us : List Tok) → suc (length us) ≤ length ts → F b us ≡ F₁ b us) → b_fields F a ts ≡ b_fields F₁ a ts
fields_same F F₁ a [] e = refl
fields_same F F₁ a (t ∷ ts) e = s_pick (same t.w t_dot) _ _ _ _ (λ p. s_with (length ts) (a_word is_name ts) _ _ _ (w_word (length ts) is_name ts (omega arith)) refl (λ x us h. e (e_field a x) us (omega arith))) (λ p. refl)

pub atom_same : (X X₁ : Reads) (C C₁ : Tok → Reads) (ts : List Tok) → Keeps X → ((us : List Tok) → suc (length us) ≤ length ts → X us ≡ X₁ us) → ((f : Tok) (us : List Tok) → suc (suc (length us)) ≤ length ts → C f us ≡ C₁ f us) → b_atom X C ts ≡ b_atom X₁ C₁ ts
atom_same X X₁ C C₁ [] w eX eC = refl
atom_same X X₁ C C₁ (t ∷ ts) w eX eC = s_pick (same t.w t_lp) _ _ _ _ (λ p. s_with (length ts) (X ts) (X₁ ts) _ _ (w ts) (eX ts (omega arith)) (λ a us h. refl)) (λ p.
    s_pick (is_number t.w) _ _ _ _ (λ q. refl) (λ q. s_pick (is_name t.w) _ _ _ _ (λ r. called ts eC) (λ r. refl)))
  where
    called : (us : List Tok) → ((f : Tok) (vs : List Tok) → suc (suc (length vs)) ≤ suc (length us) → C f vs ≡ C₁ f vs) → pick (same (next us) t_lp) (C t (tail1 us)) (it (e_name t) us) ≡ pick (same (next us) t_lp) (C₁ t (tail1 us)) (it (e_name t) us)
    called [] e = refl
    called (u ∷ us) e = ap (λ x. pick (same u.w t_lp) x (it (e_name t) (u ∷ us))) (e t us (omega arith))

pub calls_same : (A A₁ : Tok → List Tok → (Es → Es) → Got E) (f : Tok) (ts : List Tok) → A f ts (λ es. es) ≡ A₁ f ts (λ es. es) → b_calls A f ts ≡ b_calls A₁ f ts
calls_same A A₁ f ts e = ap (λ x. pick (same (next ts) t_rp) (eat t_rp ts (λ r us. it (e_call f no r.to) us)) x) e

pub args_same : (X X₁ : Reads) (A A₁ : Tok → List Tok → (Es → Es) → Got E) (f : Tok) (ts : List Tok) (k : Es → Es) → Keeps X → X ts ≡ X₁ ts → ((us : List Tok) (q : Es → Es) → suc (length us) ≤ length ts → A f us q ≡ A₁ f us q) → b_args X A f ts k ≡ b_args X₁ A₁ f ts k
args_same X X₁ A A₁ f ts k w eX eA = s_with (length ts) (X ts) (X₁ ts) _ _ (w ts) eX (λ a us h. further a us (λ vs q h2. eA vs q (omega arith)))
  where
    further : (a : E) (us : List Tok) → ((vs : List Tok) (q : Es → Es) → suc (length vs) ≤ length us → A f vs q ≡ A₁ f vs q) →
        pick (same (next us) t_comma) (A f (tail1 us) (λ es. k (and_then a es))) (eat t_rp us (λ r vs. it (e_call f (k (and_then a no)) r.to) vs)) ≡ pick (same (next us) t_comma) (A₁ f (tail1 us) (λ es. k (and_then a es))) (eat t_rp us (λ r vs. it (e_call f (k (and_then a no)) r.to) vs))
    further a [] e = refl
    further a (u ∷ us) e = ap (λ x. pick (same u.w t_comma) x (eat t_rp (u ∷ us) (λ r vs. it (e_call f (k (and_then a no)) r.to) vs))) (e us (λ es. k (and_then a es)) (omega arith))

-- two numbers, both enough
mutual
  pub same_expr : (n m : ℕ) (ts : List Tok) → 10 * length ts + 10 ≤ n → 10 * length ts + 10 ≤ m → expr n ts ≡ expr m ts
  same_expr zero m ts p q = absurd (omega arith)
  same_expr (suc n) zero ts p q = absurd (omega arith)
  same_expr (suc n) (suc m) ts p q = same_begins n m ts (next ts) (omega arith) (omega arith)

  pub same_begins : (n m : ℕ) (ts : List Tok) (w : Word) → 10 * length ts + 9 ≤ n → 10 * length ts + 9 ≤ m → begins n ts w ≡ begins m ts w
  same_begins zero m ts w p q = absurd (omega arith)
  same_begins (suc n) zero ts w p q = absurd (omega arith)
  same_begins (suc n) (suc m) ts w p q = s_pick (same w k_let) _ _ _ _ (λ x. same_lets n m ts (omega arith) (omega arith)) (λ x. s_pick (same w k_if) _ _ _ _ (λ y. same_ifs n m ts (omega arith) (omega arith)) (λ y. same_level n m 1 ts (omega arith) (omega arith) (omega arith)))

  pub same_lets : (n m : ℕ) (ts : List Tok) → 10 * length ts + 1 ≤ n → 10 * length ts + 1 ≤ m → lets n ts ≡ lets m ts
  same_lets zero m ts p q = absurd (omega arith)
  same_lets (suc n) zero ts p q = absurd (omega arith)
  same_lets (suc n) (suc m) ts p q = lets_same (expr n) (expr m) ts (within_expr n) (λ us h. same_expr n m us (omega arith) (omega arith))

  pub same_ifs : (n m : ℕ) (ts : List Tok) → 10 * length ts + 1 ≤ n → 10 * length ts + 1 ≤ m → ifs n ts ≡ ifs m ts
  same_ifs zero m ts p q = absurd (omega arith)
  same_ifs (suc n) zero ts p q = absurd (omega arith)
  same_ifs (suc n) (suc m) ts p q = ifs_same (expr n) (expr m) ts (within_expr n) (λ us h. same_expr n m us (omega arith) (omega arith))

  pub same_level : (n m l : ℕ) (ts : List Tok) → l ≤ 7 → 10 * length ts + 9 ≤ n + l → 10 * length ts + 9 ≤ m + l → level n l ts ≡ level m l ts
  same_level zero m l ts l7 p q = absurd (omega arith)
  same_level (suc n) zero l ts l7 p q = absurd (omega arith)
  same_level (suc n) (suc m) l ts l7 p q = level_same (atom n) (atom m) (level n) (level m) (fields n) (fields m) (more n) (more m) l ts l7 (λ j. within_level n j)
      (same_atom n m ts (omega arith) (omega arith))
      (λ e us h. same_level n m 4 us (omega arith) (omega arith) (omega arith))
      (λ l6. same_level n m (l + 1) ts (omega arith) (omega arith) (omega arith))
      (λ a us h. same_fields n m a us (omega arith) (omega arith))
      (λ l6 a us h. same_more n m l a us l6 (omega arith) (omega arith))

  pub same_more : (n m l : ℕ) (a : E) (ts : List Tok) → l ≤ 6 → 10 * length ts + 1 ≤ n → 10 * length ts + 1 ≤ m → more n l a ts ≡ more m l a ts
  same_more zero m l a ts l6 p q = absurd (omega arith)
  same_more (suc n) zero l a ts l6 p q = absurd (omega arith)
  same_more (suc n) (suc m) l a ts l6 p q = more_same (level n) (level m) (more n) (more m) l a ts (λ j. within_level n j) (λ us h. same_level n m (l + 1) us (omega arith) (omega arith) (omega arith)) (λ b us h. same_more n m l b us l6 (omega arith) (omega arith))

  pub same_fields : (n m : ℕ) (a : E) (ts : List Tok) → 10 * length ts + 1 ≤ n → 10 * length ts + 1 ≤ m → fields n a ts ≡ fields m a ts
  same_fields zero m a ts p q = absurd (omega arith)
  same_fields (suc n) zero a ts p q = absurd (omega arith)
  same_fields (suc n) (suc m) a ts p q = fields_same (fields n) (fields m) a ts (λ b us h. same_fields n m b us (omega arith) (omega arith))

  pub same_atom : (n m : ℕ) (ts : List Tok) → 10 * length ts + 1 ≤ n → 10 * length ts + 1 ≤ m → atom n ts ≡ atom m ts
  same_atom zero m ts p q = absurd (omega arith)
  same_atom (suc n) zero ts p q = absurd (omega arith)
  same_atom (suc n) (suc m) [] p q = refl
  same_atom (suc n) (suc m) (t ∷ ts) p q = atom_same (expr n) (expr m) (calls n) (calls m) (t ∷ ts) (within_expr n) (λ us h. same_expr n m us (omega arith) (omega arith)) (λ f us h. same_calls n m f us (omega arith) (omega arith))

  pub same_calls : (n m : ℕ) (f : Tok) (ts : List Tok) → 10 * length ts + 12 ≤ n → 10 * length ts + 12 ≤ m → calls n f ts ≡ calls m f ts
  same_calls zero m f ts p q = absurd (omega arith)
  same_calls (suc n) zero f ts p q = absurd (omega arith)
  same_calls (suc n) (suc m) f ts p q = calls_same (args n) (args m) f ts (same_args n m f ts (λ es. es) (omega arith) (omega arith))

  pub same_args : (n m : ℕ) (f : Tok) (ts : List Tok) (k : Es → Es) → 10 * length ts + 11 ≤ n → 10 * length ts + 11 ≤ m → args n f ts k ≡ args m f ts k
  same_args zero m f ts k p q = absurd (omega arith)
  same_args (suc n) zero f ts k p q = absurd (omega arith)
  same_args (suc n) (suc m) f ts k p q = args_same (expr n) (expr m) (args n) (args m) f ts k (within_expr n) (same_expr n m ts (omega arith) (omega arith)) (λ us r h. same_args n m f us r (omega arith) (omega arith))
