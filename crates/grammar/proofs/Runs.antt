-- The machine with trees ends, and what it ends with.
use mathlib.Core.Path.{◌≡◌, refl, sym, ap, subst, ◌∙◌}
use mathlib.Core.Bool.{Bool, true, false, false≢true}
use mathlib.Core.List.{List, [], ◌∷◌}
use mathlib.Core.Option.{Option, some, none}
use Prim.Native.Nat.{ℕ, zero, suc, ◌+◌, ◌*◌, ◌≤◌}
use native.Mathlib.Omega.{arith}
use lib.ListN.{length}
use lib.Dec.{eqb, leb}
use borrow.Author.Tests.{eqb-true}
use Rattle.base.specs.Base.{pick, opt, Word, same}
use Rattle.lexer.specs.Tokens.{Tok, next, tail1}
use Rattle.lexer.specs.Words.{compares, is_name, is_number, digits, k_let, k_in, k_if, k_then, k_else, t_lp, t_rp, t_comma, t_gets, t_dot, op_any}
use Rattle.grammar.specs.Grammar.{E, Got, it, bad, expr}
use Rattle.grammar.specs.Machine.{lev, made}
use Rattle.grammar.proofs.Fuel.{tail_most}
use Rattle.grammar.proofs.Same.{op_at_none}
use Rattle.grammar.proofs.Free.{expr_free, lev_in}
use Rattle.grammar.proofs.Tree.{TreeFrame, in_par, in_call, in_bound, in_body, in_cond, in_then, in_else, right_of, TreePhase, at_begin, at_atom, at_value, TreeState, tree_going, tree_won, tree_lost, tree_base, tree_eats, tree_word, tree_begin, tree_call, tree_atom, tree_pop, tree_dot, tree_op, tree_value, tree_step, mean, Fine, step_mean}

-- a number that falls with every step: pieces left, frames, and the phase
abbrev pub tree_weight : TreePhase → ℕ
tree_weight at_begin = 1
tree_weight at_atom = 0
tree_weight (at_value l a) = l

abbrev pub tree_effort : TreeState → ℕ
tree_effort (tree_going m ts fs) = suc (9 * length ts + (7 * length fs + tree_weight m))
tree_effort (tree_won a ts) = 0
tree_effort (tree_lost ts) = 0

pub record Good (m : ℕ) (s : TreeState) : Type 0 where
  pub fine : Fine s
  pub less : tree_effort s ≤ m

g_lost : (m : ℕ) (us : List Tok) → Good m (tree_lost us)
g_lost m us = record { fine = tt; less = omega arith }

g_pick : (m : ℕ) (b : Bool) (X Y : TreeState) → (b ≡ true → Good m X) → (b ≡ false → Good m Y) → Good m (pick b X Y)
g_pick m true X Y p q = p refl
g_pick m false X Y p q = q refl

g_eat : (m : ℕ) (w : Word) (ts : List Tok) (F : Tok → List Tok → TreeState) → ((t : Tok) (us : List Tok) → suc (length us) ≤ length ts → Good m (F t us)) → Good m (tree_eats w ts F)
g_eat m w [] F h = g_lost m []
g_eat m w (t ∷ ts) F h = g_pick m (same t.w w) (F t ts) (tree_lost (t ∷ ts)) (λ p. h t ts (omega arith)) (λ p. g_lost m (t ∷ ts))

g_word : (m : ℕ) (ok : Word → Bool) (ts : List Tok) (F : Tok → List Tok → TreeState) → ((t : Tok) (us : List Tok) → suc (length us) ≤ length ts → Good m (F t us)) → Good m (tree_word ok ts F)
g_word m ok [] F h = g_lost m []
g_word m ok (t ∷ ts) F h = g_pick m (ok t.w) (F t ts) (tree_lost (t ∷ ts)) (λ p. h t ts (omega arith)) (λ p. g_lost m (t ∷ ts))

pub tail_less : (ts : List Tok) (c : ℕ) (w : Word) → same (next ts) (c ∷ w) ≡ true → suc (length (tail1 ts)) ≤ length ts
tail_less [] c w e = absurd (false≢true e)
tail_less (t ∷ ts) c w e = omega arith

pub made_most : (j : ℕ) → j ≤ 5 → made j ≤ 6
made_most j h = go (eqb j 3)
  where
    go : (b : Bool) → pick b 3 (suc j) ≤ 6
    go true = omega arith
    go false = omega arith

pop_good : (m : ℕ) (a : E) (ts : List Tok) (fs : List TreeFrame) → 9 * length ts + 7 * length fs ≤ m → Good m (tree_pop a ts fs)
pop_good m a ts [] h = record { fine = tt; less = omega arith }
pop_good m a ts (in_par n ∷ fs) h = g_eat m t_rp ts _ (λ r us l. record { fine = omega arith; less = omega arith })
pop_good m a ts (in_call f es ∷ fs) h = g_pick m (same (next ts) t_comma) _ _ (λ p. let l = tail_less ts 44 [] p in record { fine = refl; less = omega arith }) (λ p. g_eat m t_rp ts _ (λ r us l. record { fine = omega arith; less = omega arith }))
pop_good m a ts (in_bound n x ∷ fs) h = g_eat m k_in ts _ (λ r us l. record { fine = refl; less = omega arith })
pop_good m a ts (in_body n x b ∷ fs) h = record { fine = omega arith; less = omega arith }
pop_good m a ts (in_cond n ∷ fs) h = g_eat m k_then ts _ (λ r us l. record { fine = refl; less = omega arith })
pop_good m a ts (in_then n b ∷ fs) h = g_eat m k_else ts _ (λ r us l. record { fine = refl; less = omega arith })
pop_good m a ts (in_else n b c ∷ fs) h = record { fine = omega arith; less = omega arith }
pop_good m a ts (right_of o b ∷ fs) h = let q = made_most (lev o) (lev_in o).1 in record { fine = omega arith; less = omega arith }

begin_good : (m : ℕ) (ts : List Tok) (fs : List TreeFrame) → 9 * length ts + (7 * length fs + 1) ≤ m → Good m (tree_begin ts fs)
begin_good m ts fs h = g_pick m (same (next ts) k_let) _ _
    (λ p. g_eat m k_let ts _ (λ l us h1. g_word m is_name us _ (λ x vs h2. g_eat m t_gets vs _ (λ g xs h3. record { fine = refl; less = omega arith }))))
    (λ p. g_pick m (same (next ts) k_if) _ _ (λ q. g_eat m k_if ts _ (λ l us h1. record { fine = refl; less = omega arith })) (λ q. record { fine = tt; less = omega arith }))

call_good : (m : ℕ) (f : Tok) (ts : List Tok) (fs : List TreeFrame) → 9 * suc (length ts) + 7 * length fs ≤ m → Good m (tree_call f ts fs)
call_good m f ts fs h = g_pick m (same (next ts) t_rp) _ _ (λ p. g_eat m t_rp ts _ (λ r us l. record { fine = omega arith; less = omega arith })) (λ p. record { fine = refl; less = omega arith })

atom_good : (m : ℕ) (ts : List Tok) (fs : List TreeFrame) → 9 * length ts + 7 * length fs ≤ m → Good m (tree_atom ts fs)
atom_good m [] fs h = g_lost m []
atom_good m (t ∷ ts) fs h =
    g_pick m (same t.w t_lp) _ _ (λ p. record { fine = refl; less = omega arith }) (λ p.
    g_pick m (is_number t.w) _ _ (λ q. g_pick m (digits t.w) _ _ (λ r. record { fine = omega arith; less = omega arith }) (λ r. g_lost m (t ∷ ts))) (λ q.
    g_pick m (is_name t.w) _ _ (λ r. g_pick m (same (next ts) t_lp) _ _ (λ s. call_good m t (tail1 ts) fs (omega (arith, tail_most ts))) (λ s. record { fine = omega arith; less = omega arith })) (λ r. g_lost m (t ∷ ts))))

dot_good : (m : ℕ) (a : E) (ts : List Tok) (fs : List TreeFrame) → 9 * length ts + (7 * length fs + 7) ≤ m → Good m (tree_dot a ts fs)
dot_good m a ts fs h = g_pick m (same (next ts) t_dot) _ _ (λ p. g_word m is_name (tail1 ts) _ (λ x us l. let q = tail_most ts in record { fine = omega arith; less = omega arith })) (λ p. record { fine = omega arith; less = omega arith })

pub any_none : (j : ℕ) → op_any j [] ≡ none
any_none j = ap (pick (eqb j 3) (compares [])) (op_at_none j) ∙ go (eqb j 3)
  where
    go : (b : Bool) → pick b (compares []) (compares []) ≡ none
    go true = refl
    go false = refl

op_good : (m j : ℕ) (a : E) (ts : List Tok) (fs : List TreeFrame) → suc j ≤ 7 → 9 * length ts + (7 * length fs + suc j) ≤ m → Good m (tree_op j a ts fs)
op_good m j a [] fs j7 h = subst (λ q. Good m (opt q (tree_going (at_value j a) [] fs) (λ o. tree_going at_atom [] (right_of o a ∷ fs)))) (sym (any_none j)) (record { fine = omega arith; less = omega arith })
op_good m j a (t ∷ ts) fs j7 h = go (op_any j t.w)
  where
    go : (q : Option ℕ) → Good m (opt q (tree_going (at_value j a) (t ∷ ts) fs) (λ o. tree_going at_atom ts (right_of o a ∷ fs)))
    go none = record { fine = omega arith; less = omega arith }
    go (some o) = record { fine = tt; less = omega arith }

value_good : (m l : ℕ) (a : E) (ts : List Tok) (fs : List TreeFrame) → l ≤ 7 → 9 * length ts + (7 * length fs + l) ≤ m → Good m (tree_value l a ts fs)
value_good m zero a ts fs l7 h = pop_good m a ts fs (omega arith)
value_good m (suc j) a ts fs l7 h = g_pick m (leb (suc j) (tree_base fs)) _ _ (λ p. pop_good m a ts fs (omega arith)) (λ p. g_pick m (eqb j 6) _ _ (λ q. dot_good m a ts fs (omega (arith, eqb-true j 6 q))) (λ q. op_good m j a ts fs l7 h))

pub step_good : (m : ℕ) (s : TreeState) → Fine s → tree_effort s ≤ suc m → Good m (tree_step s)
step_good m (tree_going at_begin ts fs) f h = begin_good m ts fs (omega arith)
step_good m (tree_going at_atom ts fs) f h = atom_good m ts fs (omega arith)
step_good m (tree_going (at_value l a) ts fs) f h = value_good m l a ts fs f (omega arith)
step_good m (tree_won a ts) f h = record { fine = tt; less = omega arith }
step_good m (tree_lost ts) f h = record { fine = tt; less = omega arith }

abbrev pub tree_run : ℕ → TreeState → TreeState
tree_run zero s = s
tree_run (suc n) s = tree_run n (tree_step s)

abbrev pub as_tree : Got E → TreeState
as_tree (it e us) = tree_won e us
as_tree (bad us) = tree_lost us

ended : (s : TreeState) → tree_effort s ≤ 0 → s ≡ as_tree (mean s)
ended (tree_going m ts fs) h = absurd (omega arith)
ended (tree_won a ts) h = refl
ended (tree_lost ts) h = refl

pub runs : (n : ℕ) (s : TreeState) → Fine s → tree_effort s ≤ n → tree_run n s ≡ as_tree (mean s)
runs zero s f h = ended s h
runs (suc n) s f h = let g = step_good n s f h in runs n (tree_step s) g.fine g.less ∙ ap as_tree (step_mean s f)

-- the whole: what is read of pieces, in 9 steps a piece and 2 more
abbrev pub tree_start : List Tok → TreeState
tree_start ts = tree_going at_begin ts []

pub machine_is : (n m : ℕ) (ts : List Tok) → 10 * length ts + 10 ≤ n → 9 * length ts + 2 ≤ m → tree_run m (tree_start ts) ≡ as_tree (expr n ts)
machine_is n m ts h k = runs m (tree_start ts) refl (omega arith) ∙ ap as_tree (sym (expr_free n ts h))
