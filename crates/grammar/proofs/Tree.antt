-- A machine with trees in its frames that comes to what the definition comes to.
use mathlib.Core.Path.{◌≡◌, refl, sym, ap, ◌∙◌}
use mathlib.Core.Bool.{Bool, true, false}
use mathlib.Core.List.{List, [], ◌∷◌}
use mathlib.Core.Option.{Option, some, none}
use Prim.Native.Nat.{ℕ, zero, suc, ◌≤◌}
use native.Mathlib.Omega.{arith}
use lib.Dec.{eqb, leb}
use borrow.Author.Tests.{eqb-true, eqb-false, leb-true, leb-false, lt-leb}
use Rattle.base.specs.Base.{pick, opt, Word, same}
use Rattle.lexer.specs.Tokens.{Tok, next, tail1}
use Rattle.lexer.specs.Words.{is_name, is_number, digits, k_let, k_in, k_if, k_then, k_else, t_lp, t_rp, t_comma, t_gets, t_dot, op_any}
use Rattle.grammar.specs.Grammar.{E, Es, no, and_then, e_num, e_name, e_call, e_field, e_op, e_if, e_let, e_par, Got, it, bad, with1, eat, a_word}
use Rattle.grammar.specs.Machine.{lev, made}
use Rattle.grammar.proofs.Free.{an_expr, a_let, an_if, a_level, a_fields, an_atom, a_call, an_args, expr_eq, let_eq, if_eq, fields_eq, atom_eq, call_eq, args_eq, next_level, level_step, level_last, after, next_eq, lev_in, AtLevel, op_level}

-- what waits for a value
pub data TreeFrame : Type 0 where
  in_par : ℕ → TreeFrame
  in_call : Tok → List E → TreeFrame
  in_bound : ℕ → Tok → TreeFrame
  in_body : ℕ → Tok → E → TreeFrame
  in_cond : ℕ → TreeFrame
  in_then : ℕ → E → TreeFrame
  in_else : ℕ → E → E → TreeFrame
  right_of : ℕ → E → TreeFrame

-- an expression is to begin; an atom is to begin; a value of a level is there
pub data TreePhase : Type 0 where
  at_begin : TreePhase
  at_atom : TreePhase
  at_value : ℕ → E → TreePhase

pub data TreeState : Type 0 where
  tree_going : TreePhase → List Tok → List TreeFrame → TreeState
  tree_won : E → List Tok → TreeState
  tree_lost : List Tok → TreeState

-- the level at which what is being read began
abbrev pub tree_base : List TreeFrame → ℕ
tree_base [] = 1
tree_base (in_par n ∷ fs) = 1
tree_base (in_call f es ∷ fs) = 1
tree_base (in_bound n x ∷ fs) = 1
tree_base (in_body n x a ∷ fs) = 1
tree_base (in_cond n ∷ fs) = 1
tree_base (in_then n a ∷ fs) = 1
tree_base (in_else n a b ∷ fs) = 1
tree_base (right_of o a ∷ fs) = suc (lev o)

-- arguments, the newest first, before others
abbrev pub put_all : List E → Es → Es
put_all [] es = es
put_all (a ∷ as₁) es = put_all as₁ (and_then a es)

abbrev pub tree_eats : Word → List Tok → (Tok → List Tok → TreeState) → TreeState
tree_eats w [] f = tree_lost []
tree_eats w (t ∷ ts) f = pick (same t.w w) (f t ts) (tree_lost (t ∷ ts))

abbrev pub tree_word : (Word → Bool) → List Tok → (Tok → List Tok → TreeState) → TreeState
tree_word ok [] f = tree_lost []
tree_word ok (t ∷ ts) f = pick (ok t.w) (f t ts) (tree_lost (t ∷ ts))

abbrev pub tree_let : List Tok → List TreeFrame → TreeState
tree_let ts fs = tree_eats k_let ts (λ l us. tree_word is_name us (λ x vs. tree_eats t_gets vs (λ g xs. tree_going at_begin xs (in_bound l.from x ∷ fs))))

abbrev pub tree_if : List Tok → List TreeFrame → TreeState
tree_if ts fs = tree_eats k_if ts (λ l us. tree_going at_begin us (in_cond l.from ∷ fs))

abbrev pub tree_begin : List Tok → List TreeFrame → TreeState
tree_begin ts fs = pick (same (next ts) k_let) (tree_let ts fs) (pick (same (next ts) k_if) (tree_if ts fs) (tree_going at_atom ts fs))

abbrev pub tree_call : Tok → List Tok → List TreeFrame → TreeState
tree_call f ts fs = pick (same (next ts) t_rp) (tree_eats t_rp ts (λ r us. tree_going (at_value 7 (e_call f no r.to)) us fs)) (tree_going at_begin ts (in_call f [] ∷ fs))

abbrev pub tree_atom : List Tok → List TreeFrame → TreeState
tree_atom [] fs = tree_lost []
tree_atom (t ∷ ts) fs =
    pick (same t.w t_lp) (tree_going at_begin ts (in_par t.from ∷ fs))
    (pick (is_number t.w) (pick (digits t.w) (tree_going (at_value 7 (e_num t)) ts fs) (tree_lost (t ∷ ts)))
    (pick (is_name t.w) (pick (same (next ts) t_lp) (tree_call t (tail1 ts) fs) (tree_going (at_value 7 (e_name t)) ts fs)) (tree_lost (t ∷ ts))))

-- a value goes to what waits for it
abbrev pub tree_pop : E → List Tok → List TreeFrame → TreeState
tree_pop a ts [] = tree_won a ts
tree_pop a ts (in_par n ∷ fs) = tree_eats t_rp ts (λ r us. tree_going (at_value 7 (e_par n a r.to)) us fs)
tree_pop a ts (in_call f es ∷ fs) = pick (same (next ts) t_comma) (tree_going at_begin (tail1 ts) (in_call f (a ∷ es) ∷ fs)) (tree_eats t_rp ts (λ r us. tree_going (at_value 7 (e_call f (put_all es (and_then a no)) r.to)) us fs))
tree_pop a ts (in_bound n x ∷ fs) = tree_eats k_in ts (λ i us. tree_going at_begin us (in_body n x a ∷ fs))
tree_pop b ts (in_body n x a ∷ fs) = tree_going (at_value 0 (e_let n x a b)) ts fs
tree_pop a ts (in_cond n ∷ fs) = tree_eats k_then ts (λ i us. tree_going at_begin us (in_then n a ∷ fs))
tree_pop b ts (in_then n a ∷ fs) = tree_eats k_else ts (λ i us. tree_going at_begin us (in_else n a b ∷ fs))
tree_pop c ts (in_else n a b ∷ fs) = tree_going (at_value 0 (e_if n a b c)) ts fs
tree_pop b ts (right_of o a ∷ fs) = tree_going (at_value (made (lev o)) (e_op o a b)) ts fs

abbrev pub tree_dot : E → List Tok → List TreeFrame → TreeState
tree_dot a ts fs = pick (same (next ts) t_dot) (tree_word is_name (tail1 ts) (λ x us. tree_going (at_value 7 (e_field a x)) us fs)) (tree_going (at_value 6 a) ts fs)

abbrev pub tree_op : ℕ → E → List Tok → List TreeFrame → TreeState
tree_op j a ts fs = opt (op_any j (next ts)) (tree_going (at_value j a) ts fs) (λ o. tree_going at_atom (tail1 ts) (right_of o a ∷ fs))

abbrev pub tree_value : ℕ → E → List Tok → List TreeFrame → TreeState
tree_value zero a ts fs = tree_pop a ts fs
tree_value (suc j) a ts fs = pick (leb (suc j) (tree_base fs)) (tree_pop a ts fs) (pick (eqb j 6) (tree_dot a ts fs) (tree_op j a ts fs))

abbrev pub tree_step : TreeState → TreeState
tree_step (tree_going at_begin ts fs) = tree_begin ts fs
tree_step (tree_going at_atom ts fs) = tree_atom ts fs
tree_step (tree_going (at_value l a) ts fs) = tree_value l a ts fs
tree_step (tree_won a ts) = tree_won a ts
tree_step (tree_lost ts) = tree_lost ts

-- from a result of level l to one of level b
abbrev pub rise : ℕ → ℕ → Got E → Got E
rise b zero g = g
rise b (suc j) g = pick (leb (suc j) b) g (rise b j (with1 g (next_level j)))

-- what frames come to, given what they wait for
abbrev pub unwind : List TreeFrame → Got E → Got E
unwind [] g = g
unwind (in_par n ∷ fs) g = unwind fs (rise (tree_base fs) 7 (with1 g (λ a us. eat t_rp us (λ r vs. it (e_par n a r.to) vs))))
unwind (in_call f es ∷ fs) g = unwind fs (rise (tree_base fs) 7 (with1 g (λ a us. pick (same (next us) t_comma) (an_args f (tail1 us) (λ xs. put_all es (and_then a xs))) (eat t_rp us (λ r vs. it (e_call f (put_all es (and_then a no)) r.to) vs)))))
unwind (in_bound n x ∷ fs) g = unwind fs (with1 g (λ a ys. eat k_in ys (λ i zs. with1 (an_expr zs) (λ b rs. it (e_let n x a b) rs))))
unwind (in_body n x a ∷ fs) g = unwind fs (with1 g (λ b rs. it (e_let n x a b) rs))
unwind (in_cond n ∷ fs) g = unwind fs (with1 g (λ a vs. eat k_then vs (λ h xs. with1 (an_expr xs) (λ b ys. eat k_else ys (λ e zs. with1 (an_expr zs) (λ c rs. it (e_if n a b c) rs))))))
unwind (in_then n a ∷ fs) g = unwind fs (with1 g (λ b ys. eat k_else ys (λ e zs. with1 (an_expr zs) (λ c rs. it (e_if n a b c) rs))))
unwind (in_else n a b ∷ fs) g = unwind fs (with1 g (λ c rs. it (e_if n a b c) rs))
unwind (right_of o a ∷ fs) g = unwind fs (rise (tree_base fs) (made (lev o)) (with1 g (λ b us. it (e_op o a b) us)))

abbrev pub mean : TreeState → Got E
mean (tree_going at_begin ts fs) = unwind fs (an_expr ts)
mean (tree_going at_atom ts fs) = unwind fs (rise (tree_base fs) 7 (an_atom ts))
mean (tree_going (at_value l a) ts fs) = unwind fs (rise (tree_base fs) l (it a ts))
mean (tree_won a ts) = it a ts
mean (tree_lost ts) = bad ts

abbrev pub Fine : TreeState → Type 0
Fine (tree_going at_begin ts fs) = tree_base fs ≡ 1
Fine (tree_going at_atom ts fs) = Unit {0}
Fine (tree_going (at_value l a) ts fs) = l ≤ 7
Fine (tree_won a ts) = Unit {0}
Fine (tree_lost ts) = Unit {0}

rise_bad : (b l : ℕ) (us : List Tok) → rise b l (bad us) ≡ bad us
rise_bad b zero us = refl
rise_bad b (suc j) us = go (leb (suc j) b) (rise_bad b j us)
  where
    go : (t : Bool) → rise b j (bad us) ≡ bad us → pick t (bad us) (rise b j (bad us)) ≡ bad us
    go true e = refl
    go false e = e

unwind_bad : (fs : List TreeFrame) (us : List Tok) → unwind fs (bad us) ≡ bad us
unwind_bad [] us = refl
unwind_bad (in_par n ∷ fs) us = ap (unwind fs) (rise_bad (tree_base fs) 7 us) ∙ unwind_bad fs us
unwind_bad (in_call f es ∷ fs) us = ap (unwind fs) (rise_bad (tree_base fs) 7 us) ∙ unwind_bad fs us
unwind_bad (in_bound n x ∷ fs) us = unwind_bad fs us
unwind_bad (in_body n x a ∷ fs) us = unwind_bad fs us
unwind_bad (in_cond n ∷ fs) us = unwind_bad fs us
unwind_bad (in_then n a ∷ fs) us = unwind_bad fs us
unwind_bad (in_else n a b ∷ fs) us = unwind_bad fs us
unwind_bad (right_of o a ∷ fs) us = ap (unwind fs) (rise_bad (tree_base fs) (made (lev o)) us) ∙ unwind_bad fs us

both_bad : (fs : List TreeFrame) (l : ℕ) (us : List Tok) → unwind fs (rise (tree_base fs) l (bad us)) ≡ bad us
both_bad fs l us = ap (unwind fs) (rise_bad (tree_base fs) l us) ∙ unwind_bad fs us

m_eat : {C : Type 0} (K : Got C → Got E) (w : Word) (ts : List Tok) (F : Tok → List Tok → TreeState) (f : Tok → List Tok → Got C) → ((us : List Tok) → K (bad us) ≡ bad us) → ((t : Tok) (us : List Tok) → mean (F t us) ≡ K (f t us)) → mean (tree_eats w ts F) ≡ K (eat w ts f)
m_eat K w [] F f b e = sym (b [])
m_eat K w (t ∷ ts) F f b e = go (same t.w w) (b (t ∷ ts)) (e t ts)
  where
    go : (x : Bool) → K (bad (t ∷ ts)) ≡ bad (t ∷ ts) → mean (F t ts) ≡ K (f t ts) → mean (pick x (F t ts) (tree_lost (t ∷ ts))) ≡ K (pick x (f t ts) (bad (t ∷ ts)))
    go true b e = e
    go false b e = sym b

m_word : (K : Got Tok → Got E) (ok : Word → Bool) (ts : List Tok) (F : Tok → List Tok → TreeState) → ((us : List Tok) → K (bad us) ≡ bad us) → ((t : Tok) (us : List Tok) → mean (F t us) ≡ K (it t us)) → mean (tree_word ok ts F) ≡ K (a_word ok ts)
m_word K ok [] F b e = sym (b [])
m_word K ok (t ∷ ts) F b e = go (ok t.w) (b (t ∷ ts)) (e t ts)
  where
    go : (x : Bool) → K (bad (t ∷ ts)) ≡ bad (t ∷ ts) → mean (F t ts) ≡ K (it t ts) → mean (pick x (F t ts) (tree_lost (t ∷ ts))) ≡ K (pick x (it t ts) (bad (t ∷ ts)))
    go true b e = e
    go false b e = sym b

m_pick : {C : Type 0} (K : C → Got E) (b : Bool) (X Y : TreeState) (x y : C) → (b ≡ true → mean X ≡ K x) → (b ≡ false → mean Y ≡ K y) → mean (pick b X Y) ≡ K (pick b x y)
m_pick K true X Y x y p q = p refl
m_pick K false X Y x y p q = q refl

pub level_rise : (l b : ℕ) (ts : List Tok) → 1 ≤ b → b ≤ l → l ≤ 7 → rise b l (a_level l ts) ≡ a_level b ts
level_rise zero b ts h1 h2 h3 = absurd (omega arith)
level_rise (suc j) b ts h1 h2 h3 = go (leb (suc j) b) refl (λ h. level_rise j b ts h1 h (omega arith))
  where
    go : (t : Bool) → leb (suc j) b ≡ t → (b ≤ j → rise b j (a_level j ts) ≡ a_level b ts) → pick t (a_level (suc j) ts) (rise b j (with1 (a_level (suc j) ts) (next_level j))) ≡ a_level b ts
    go true p ih = let q = leb-true (suc j) b p in let e : suc j ≡ b = omega arith in ap (λ k. a_level k ts) e
    go false p ih = let q = leb-false (suc j) b p in ap (rise b j) (sym (level_step j ts (omega arith) (omega arith))) ∙ ih (omega arith)

atom_rise : (b : ℕ) (ts : List Tok) → 1 ≤ b → b ≤ 7 → rise b 7 (an_atom ts) ≡ a_level b ts
atom_rise b ts h1 h2 = ap (rise b 7) (sym (level_last ts)) ∙ level_rise 7 b ts h1 h2 (omega arith)

-- each step keeps what it will come to
pop_mean : (a : E) (ts : List Tok) (fs : List TreeFrame) → mean (tree_pop a ts fs) ≡ unwind fs (it a ts)
pop_mean a ts [] = refl
pop_mean a ts (in_par n ∷ fs) = m_eat (λ g. unwind fs (rise (tree_base fs) 7 g)) t_rp ts _ (λ r vs. it (e_par n a r.to) vs) (both_bad fs 7) (λ r us. refl)
pop_mean a ts (in_call f es ∷ fs) = m_pick (λ g. unwind fs (rise (tree_base fs) 7 g)) (same (next ts) t_comma) _ _ _ _
    (λ p. ap (λ g. unwind fs (rise (tree_base fs) 7 g)) (sym (args_eq f (tail1 ts) (λ xs. put_all es (and_then a xs)))))
    (λ p. m_eat (λ g. unwind fs (rise (tree_base fs) 7 g)) t_rp ts _ (λ r vs. it (e_call f (put_all es (and_then a no)) r.to) vs) (both_bad fs 7) (λ r us. refl))
pop_mean a ts (in_bound n x ∷ fs) = m_eat (unwind fs) k_in ts _ (λ i zs. with1 (an_expr zs) (λ b rs. it (e_let n x a b) rs)) (unwind_bad fs) (λ r us. refl)
pop_mean b ts (in_body n x a ∷ fs) = refl
pop_mean a ts (in_cond n ∷ fs) = m_eat (unwind fs) k_then ts _ (λ h xs. with1 (an_expr xs) (λ b ys. eat k_else ys (λ e zs. with1 (an_expr zs) (λ c rs. it (e_if n a b c) rs)))) (unwind_bad fs) (λ r us. refl)
pop_mean b ts (in_then n a ∷ fs) = m_eat (unwind fs) k_else ts _ (λ e zs. with1 (an_expr zs) (λ c rs. it (e_if n a b c) rs)) (unwind_bad fs) (λ r us. refl)
pop_mean c ts (in_else n a b ∷ fs) = refl
pop_mean b ts (right_of o a ∷ fs) = refl

begin_mean : (ts : List Tok) (fs : List TreeFrame) → tree_base fs ≡ 1 → mean (tree_begin ts fs) ≡ unwind fs (an_expr ts)
begin_mean ts fs e = m_pick (unwind fs) (same (next ts) k_let) _ _ (a_let ts) (pick (same (next ts) k_if) (an_if ts) (a_level 1 ts))
    (λ p. m_eat (unwind fs) k_let ts _ (λ l us. with1 (a_word is_name us) (λ x vs. eat t_gets vs (λ g xs. with1 (an_expr xs) (λ a ys. eat k_in ys (λ i zs. with1 (an_expr zs) (λ b rs. it (e_let l.from x a b) rs)))))) (unwind_bad fs) (λ l us.
    m_word (λ q. unwind fs (with1 q (λ x vs. eat t_gets vs (λ g xs. with1 (an_expr xs) (λ a ys. eat k_in ys (λ i zs. with1 (an_expr zs) (λ b rs. it (e_let l.from x a b) rs))))))) is_name us _ (unwind_bad fs) (λ x vs.
    m_eat (unwind fs) t_gets vs _ (λ g xs. with1 (an_expr xs) (λ a ys. eat k_in ys (λ i zs. with1 (an_expr zs) (λ b rs. it (e_let l.from x a b) rs)))) (unwind_bad fs) (λ g xs. refl)))
    ∙ ap (unwind fs) (sym (let_eq ts)))
    (λ p. m_pick (unwind fs) (same (next ts) k_if) _ _ (an_if ts) (a_level 1 ts)
    (λ q. m_eat (unwind fs) k_if ts _ (λ l us. with1 (an_expr us) (λ a vs. eat k_then vs (λ h xs. with1 (an_expr xs) (λ b ys. eat k_else ys (λ e zs. with1 (an_expr zs) (λ c rs. it (e_if l.from a b c) rs)))))) (unwind_bad fs) (λ l us. refl) ∙ ap (unwind fs) (sym (if_eq ts)))
    (λ q. ap (λ b. unwind fs (rise b 7 (an_atom ts))) e ∙ ap (unwind fs) (atom_rise 1 ts (omega arith) (omega arith))))
    ∙ ap (unwind fs) (sym (expr_eq ts))

call_mean : (f : Tok) (ts : List Tok) (fs : List TreeFrame) → mean (tree_call f ts fs) ≡ unwind fs (rise (tree_base fs) 7 (a_call f ts))
call_mean f ts fs = let K : Got E → Got E = λ g. unwind fs (rise (tree_base fs) 7 g) in
    m_pick K (same (next ts) t_rp) _ _ (eat t_rp ts (λ r us. it (e_call f no r.to) us)) (an_args f ts (λ es. es))
    (λ p. m_eat K t_rp ts _ (λ r us. it (e_call f no r.to) us) (both_bad fs 7) (λ r us. refl))
    (λ p. ap K (sym (args_eq f ts (λ es. es))))
    ∙ ap K (sym (call_eq f ts))

atom_mean : (ts : List Tok) (fs : List TreeFrame) → mean (tree_atom ts fs) ≡ unwind fs (rise (tree_base fs) 7 (an_atom ts))
atom_mean [] fs = sym (both_bad fs 7 []) ∙ ap (λ g. unwind fs (rise (tree_base fs) 7 g)) (sym (atom_eq []))
atom_mean (t ∷ ts) fs = let K : Got E → Got E = λ g. unwind fs (rise (tree_base fs) 7 g) in
    m_pick K (same t.w t_lp) _ _ _ _ (λ p. refl) (λ p.
    m_pick K (is_number t.w) _ _ _ _ (λ q. m_pick K (digits t.w) _ _ _ _ (λ r. refl) (λ r. sym (both_bad fs 7 (t ∷ ts)))) (λ q.
    m_pick K (is_name t.w) _ _ _ _ (λ r. m_pick K (same (next ts) t_lp) _ _ _ _ (λ s. call_mean t (tail1 ts) fs) (λ s. refl)) (λ r. sym (both_bad fs 7 (t ∷ ts)))))
    ∙ ap K (sym (atom_eq (t ∷ ts)))

with_with : (g : Got E) (o : ℕ) (a : E) (h : E → List Tok → Got E) → with1 (with1 g (λ c vs. it (e_op o a c) vs)) h ≡ with1 g (λ c vs. h (e_op o a c) vs)
with_with (it c vs) o a h = refl
with_with (bad vs) o a h = refl

rise_made : (b j : ℕ) (g : Got E) (o : ℕ) (a : E) → b ≤ j → rise b (made j) (with1 g (λ c vs. it (e_op o a c) vs)) ≡ rise b j (with1 g (λ c vs. after j (e_op o a c) vs))
rise_made b j g o a h = go (eqb j 3) refl
  where
    go : (t : Bool) → eqb j 3 ≡ t → rise b (pick t 3 (suc j)) (with1 g (λ c vs. it (e_op o a c) vs)) ≡ rise b j (with1 g (λ c vs. pick t (it (e_op o a c) vs) (next_level j (e_op o a c) vs)))
    go true p = ap (λ k. rise b k (with1 g (λ c vs. it (e_op o a c) vs))) (sym (eqb-true j 3 p))
    go false p = ap (λ t. pick t (with1 g (λ c vs. it (e_op o a c) vs)) (rise b j (with1 (with1 g (λ c vs. it (e_op o a c) vs)) (next_level j)))) (lt-leb (suc j) b (omega arith)) ∙ ap (rise b j) (with_with g o a (next_level j))

op_mean : (j : ℕ) (a : E) (ts : List Tok) (fs : List TreeFrame) → j ≤ 5 → tree_base fs ≤ j → mean (tree_op j a ts fs) ≡ unwind fs (rise (tree_base fs) j (next_level j a ts))
op_mean j a ts fs j5 h = go (op_any j (next ts)) (op_level j (next ts)) ∙ ap (λ g. unwind fs (rise (tree_base fs) j g)) (sym (next_eq j a ts j5))
  where
    go : (q : Option ℕ) → AtLevel j q → mean (opt q (tree_going (at_value j a) ts fs) (λ o. tree_going at_atom (tail1 ts) (right_of o a ∷ fs))) ≡ unwind fs (rise (tree_base fs) j (opt q (it a ts) (λ o. with1 (a_level (suc j) (tail1 ts)) (λ b vs. after j (e_op o a b) vs))))
    go none e = refl
    go (some o) e =
        ap (λ g. unwind fs (rise (tree_base fs) (made (lev o)) (with1 g (λ b vs. it (e_op o a b) vs)))) (atom_rise (suc (lev o)) (tail1 ts) (omega arith) (omega (arith, lev_in o))) ∙
        ap (λ i. unwind fs (rise (tree_base fs) (made i) (with1 (a_level (suc i) (tail1 ts)) (λ b vs. it (e_op o a b) vs)))) e ∙
        ap (unwind fs) (rise_made (tree_base fs) j (a_level (suc j) (tail1 ts)) o a h)

dot_mean : (a : E) (ts : List Tok) (fs : List TreeFrame) → tree_base fs ≤ 6 → mean (tree_dot a ts fs) ≡ unwind fs (rise (tree_base fs) 6 (a_fields a ts))
dot_mean a ts fs h = let K : Got E → Got E = λ g. unwind fs (rise (tree_base fs) 6 g) in
    m_pick K (same (next ts) t_dot) _ _ (with1 (a_word is_name (tail1 ts)) (λ x us. a_fields (e_field a x) us)) (it a ts)
    (λ p. m_word (λ g. K (with1 g (λ x us. a_fields (e_field a x) us))) is_name (tail1 ts) _ (both_bad fs 6) (λ x us. ap (λ t. unwind fs (pick t (it (e_field a x) us) (rise (tree_base fs) 6 (a_fields (e_field a x) us)))) (lt-leb 7 (tree_base fs) (omega arith))))
    (λ p. refl)
    ∙ ap K (sym (fields_eq a ts))

value_mean : (l : ℕ) (a : E) (ts : List Tok) (fs : List TreeFrame) → l ≤ 7 → mean (tree_value l a ts fs) ≡ unwind fs (rise (tree_base fs) l (it a ts))
value_mean zero a ts fs l7 = pop_mean a ts fs
value_mean (suc j) a ts fs l7 = go (leb (suc j) (tree_base fs)) refl
  where
    six : (t : Bool) → eqb j 6 ≡ t → tree_base fs ≤ j → mean (pick t (tree_dot a ts fs) (tree_op j a ts fs)) ≡ unwind fs (rise (tree_base fs) j (next_level j a ts))
    six true p h = let e = eqb-true j 6 p in dot_mean a ts fs (omega arith) ∙ ap (λ k. unwind fs (rise (tree_base fs) k (next_level k a ts))) (sym e)
    six false p h = let e = eqb-false j 6 p in op_mean j a ts fs (omega arith) h

    go : (t : Bool) → leb (suc j) (tree_base fs) ≡ t → mean (pick t (tree_pop a ts fs) (pick (eqb j 6) (tree_dot a ts fs) (tree_op j a ts fs))) ≡ unwind fs (pick t (it a ts) (rise (tree_base fs) j (next_level j a ts)))
    go true p = pop_mean a ts fs
    go false p = let h = leb-false (suc j) (tree_base fs) p in six (eqb j 6) refl (omega arith)

pub step_mean : (s : TreeState) → Fine s → mean (tree_step s) ≡ mean s
step_mean (tree_going at_begin ts fs) h = begin_mean ts fs h
step_mean (tree_going at_atom ts fs) h = atom_mean ts fs
step_mean (tree_going (at_value l a) ts fs) h = value_mean l a ts fs h
step_mean (tree_won a ts) h = refl
step_mean (tree_lost ts) h = refl
