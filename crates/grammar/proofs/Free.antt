-- The definition's functions without the number that bounds how deep calls go, and their equations.
use mathlib.Core.Path.{◌≡◌, refl, sym, ap, ◌∙◌}
use mathlib.Core.Bool.{Bool, true, false}
use mathlib.Core.List.{List, [], ◌∷◌}
use mathlib.Core.Option.{Option, some, none}
use Prim.Native.Nat.{ℕ, suc, ◌+◌, ◌*◌, ◌≤◌}
use native.Mathlib.Omega.{arith}
use lib.ListN.{length}
use lib.Dec.{eqb, leb}
use borrow.Author.Tests.{eqb-true, ne_eqb}
use Rattle.base.specs.Base.{pick, opt, or_else, when1, Word, same}
use Rattle.lexer.specs.Tokens.{Tok, next, tail1}
use Rattle.lexer.specs.Words.{op_at, compares, k_let, k_if, k_or, k_and, t_is, t_less, t_plus, t_minus, t_times, op_any}
use Rattle.grammar.specs.Grammar.{E, Es, e_op, Got, it, with1, expr, lets, ifs, level, more, fields, atom, calls, args}
use Rattle.grammar.specs.Machine.{lev}
use Rattle.grammar.proofs.Fuel.{within_expr, within_level}
use Rattle.grammar.proofs.Same.{b_lets, b_ifs, b_compare, b_level, b_more, b_fields, b_atom, b_calls, b_args, lets_same, ifs_same, level_same, more_same, fields_same, atom_same, args_same, same_expr, same_lets, same_ifs, same_level, same_more, same_fields, same_atom, same_calls, same_args}

abbrev pub enough : List Tok → ℕ
enough ts = 10 * length ts + 12

unfoldable pub an_expr : List Tok → Got E
an_expr ts = expr (enough ts) ts

unfoldable pub a_let : List Tok → Got E
a_let ts = lets (enough ts) ts

unfoldable pub an_if : List Tok → Got E
an_if ts = ifs (enough ts) ts

unfoldable pub a_level : ℕ → List Tok → Got E
a_level l ts = level (enough ts) l ts

unfoldable pub a_more : ℕ → E → List Tok → Got E
a_more l a ts = more (enough ts) l a ts

unfoldable pub a_fields : E → List Tok → Got E
a_fields a ts = fields (enough ts) a ts

unfoldable pub an_atom : List Tok → Got E
an_atom ts = atom (enough ts) ts

unfoldable pub a_call : Tok → List Tok → Got E
a_call f ts = calls (enough ts) f ts

unfoldable pub an_args : Tok → List Tok → (Es → Es) → Got E
an_args f ts k = args (enough ts) f ts k

-- the number that the definition gives is enough, also the one of a whole item
pub expr_free : (n : ℕ) (ts : List Tok) → 10 * length ts + 10 ≤ n → expr n ts ≡ an_expr ts
unfolding an_expr
expr_free n ts h = same_expr n (enough ts) ts h (omega arith)

pub expr_of_item : (ts us : List Tok) → length us ≤ length ts → expr (20 * (2 + length ts)) us ≡ an_expr us
expr_of_item ts us h = expr_free (20 * (2 + length ts)) us (omega arith)

pub expr_eq : (ts : List Tok) → an_expr ts ≡ pick (same (next ts) k_let) (a_let ts) (pick (same (next ts) k_if) (an_if ts) (a_level 1 ts))
unfolding an_expr a_let an_if a_level
expr_eq ts = same_expr (enough ts) (suc (suc (enough ts))) ts (omega arith) (omega arith)

pub let_eq : (ts : List Tok) → a_let ts ≡ b_lets an_expr ts
unfolding a_let an_expr
let_eq ts = same_lets (enough ts) (suc (enough ts)) ts (omega arith) (omega arith) ∙ lets_same (expr (enough ts)) an_expr ts (within_expr (enough ts)) (λ us h. same_expr (enough ts) (enough us) us (omega arith) (omega arith))

pub if_eq : (ts : List Tok) → an_if ts ≡ b_ifs an_expr ts
unfolding an_if an_expr
if_eq ts = same_ifs (enough ts) (suc (enough ts)) ts (omega arith) (omega arith) ∙ ifs_same (expr (enough ts)) an_expr ts (within_expr (enough ts)) (λ us h. same_expr (enough ts) (enough us) us (omega arith) (omega arith))

pub level_eq : (l : ℕ) (ts : List Tok) → l ≤ 7 → 1 ≤ l → a_level l ts ≡ b_level an_atom a_level a_fields a_more l ts
unfolding an_atom a_level a_fields a_more
level_eq l ts l7 l1 = let n = enough ts in same_level n (suc n) l ts l7 (omega arith) (omega arith) ∙ level_same (atom n) an_atom (level n) a_level (fields n) a_fields (more n) a_more l ts l7 (λ j. within_level n j) refl
    (λ e us h. same_level n (enough us) 4 us (omega arith) (omega arith) (omega arith)) (λ l6. refl)
    (λ a us h. same_fields n (enough us) a us (omega arith) (omega arith))
    (λ l6 a us h. same_more n (enough us) l a us l6 (omega arith) (omega arith))

pub more_eq : (l : ℕ) (a : E) (ts : List Tok) → l ≤ 6 → a_more l a ts ≡ b_more a_level a_more l a ts
unfolding a_level a_more
more_eq l a ts l6 = let n = enough ts in same_more n (suc n) l a ts l6 (omega arith) (omega arith) ∙ more_same (level n) a_level (more n) a_more l a ts (λ j. within_level n j)
    (λ us h. same_level n (enough us) (l + 1) us (omega arith) (omega arith) (omega arith))
    (λ b us h. same_more n (enough us) l b us l6 (omega arith) (omega arith))

pub fields_eq : (a : E) (ts : List Tok) → a_fields a ts ≡ b_fields a_fields a ts
unfolding a_fields
fields_eq a ts = let n = enough ts in same_fields n (suc n) a ts (omega arith) (omega arith) ∙ fields_same (fields n) a_fields a ts (λ b us h. same_fields n (enough us) b us (omega arith) (omega arith))

pub atom_eq : (ts : List Tok) → an_atom ts ≡ b_atom an_expr a_call ts
unfolding an_atom an_expr a_call
atom_eq [] = same_atom (enough []) (suc (enough [])) [] (omega arith) (omega arith)
atom_eq (t ∷ ts) = let n = enough (t ∷ ts) in same_atom n (suc n) (t ∷ ts) (omega arith) (omega arith) ∙ atom_same (expr n) an_expr (calls n) a_call (t ∷ ts) (within_expr n) (λ us h. same_expr n (enough us) us (omega arith) (omega arith)) (λ f us h. same_calls n (enough us) f us (omega arith) (omega arith))

pub call_eq : (f : Tok) (ts : List Tok) → a_call f ts ≡ b_calls an_args f ts
unfolding a_call an_args
call_eq f ts = same_calls (enough ts) (suc (enough ts)) f ts (omega arith) (omega arith)

pub args_eq : (f : Tok) (ts : List Tok) (k : Es → Es) → an_args f ts k ≡ b_args an_expr an_args f ts k
unfolding an_args an_expr
args_eq f ts k = let n = enough ts in same_args n (suc n) f ts k (omega arith) (omega arith) ∙ args_same (expr n) an_expr (args n) an_args f ts k (within_expr n) (same_expr n (enough ts) ts (omega arith) (omega arith)) (λ us r h. same_args n (enough us) f us r (omega arith) (omega arith))

-- what follows a value of the level above
abbrev next_b : Bool → Bool → ℕ → E → List Tok → Got E
next_b b3 b6 j a us = pick b3 (b_compare a_level a us) (pick b6 (a_fields a us) (a_more j a us))

abbrev pub next_level : ℕ → E → List Tok → Got E
next_level j a us = pick (eqb j 3) (b_compare a_level a us) (pick (eqb j 6) (a_fields a us) (a_more j a us))

abbrev level_b : Bool → Bool → Bool → ℕ → List Tok → Got E
level_b b7 b3 b6 l ts = pick b7 (an_atom ts) (pick b3 (with1 (a_level 4 ts) (λ a us. b_compare a_level a us)) (with1 (a_level (l + 1) ts) (λ a us. pick b6 (a_fields a us) (a_more l a us))))

joined : (b3 b6 : Bool) (l : ℕ) (ts : List Tok) → (b3 ≡ true → l ≡ 3) → level_b false b3 b6 l ts ≡ with1 (a_level (suc l) ts) (next_b b3 b6 l)
joined true b6 l ts e = let q = e refl in let p : 4 ≡ suc l = omega arith in ap (λ k. with1 (a_level k ts) (λ a us. b_compare a_level a us)) p
joined false b6 l ts e = let p : l + 1 ≡ suc l = omega arith in ap (λ k. with1 (a_level k ts) (λ a us. pick b6 (a_fields a us) (a_more l a us))) p

pub level_step : (l : ℕ) (ts : List Tok) → l ≤ 6 → 1 ≤ l → a_level l ts ≡ with1 (a_level (suc l) ts) (next_level l)
level_step l ts l6 l1 = level_eq l ts (omega arith) l1 ∙ ap (λ b. level_b b (eqb l 3) (eqb l 6) l ts) (ne_eqb l 7 (λ e. omega arith)) ∙ joined (eqb l 3) (eqb l 6) l ts (eqb-true l 3)

pub level_last : (ts : List Tok) → a_level 7 ts ≡ an_atom ts
level_last ts = level_eq 7 ts (omega arith) (omega arith)

-- operators of a level, comparisons too, and what follows one
abbrev pub after : ℕ → E → List Tok → Got E
after j e vs = pick (eqb j 3) (it e vs) (next_level j e vs)

abbrev any_b : Bool → ℕ → E → List Tok → Got E
any_b b3 j a us = opt (pick b3 (compares (next us)) (op_at j (next us))) (it a us) (λ o. with1 (a_level (suc j) (tail1 us)) (λ b vs. pick b3 (it (e_op o a b) vs) (next_b b3 false j (e_op o a b) vs)))

any_goes : (b3 : Bool) (j : ℕ) (a : E) (us : List Tok) → j ≤ 5 → (b3 ≡ true → j ≡ 3) → next_b b3 false j a us ≡ any_b b3 j a us
any_goes true j a us j5 e = let q = e refl in let p : 4 ≡ suc j = omega arith in ap (λ k. opt (compares (next us)) (it a us) (λ o. with1 (a_level k (tail1 us)) (λ b vs. it (e_op o a b) vs))) p
any_goes false j a us j5 e = let p : j + 1 ≡ suc j = omega arith in more_eq j a us (omega arith) ∙ ap (λ k. opt (op_at j (next us)) (it a us) (λ o. with1 (a_level k (tail1 us)) (λ b vs. a_more j (e_op o a b) vs))) p

pub next_eq : (j : ℕ) (a : E) (us : List Tok) → j ≤ 5 → next_level j a us ≡ opt (op_any j (next us)) (it a us) (λ o. with1 (a_level (suc j) (tail1 us)) (λ b vs. after j (e_op o a b) vs))
next_eq j a us j5 =
    let f : eqb j 6 ≡ false = ne_eqb j 6 (λ e. omega arith) in
    ap (λ b. next_b (eqb j 3) b j a us) f ∙ any_goes (eqb j 3) j a us j5 (eqb-true j 3) ∙ ap (λ b6. opt (op_any j (next us)) (it a us) (λ o. with1 (a_level (suc j) (tail1 us)) (λ b vs. pick (eqb j 3) (it (e_op o a b) vs) (next_b (eqb j 3) b6 j (e_op o a b) vs)))) (sym f)

-- an operator's level
pub lev_in : (o : ℕ) → (1 ≤ lev o) × (lev o ≤ 5)
lev_in o = go (eqb o 6) (eqb o 5) (eqb o 2) (leb o 1)
  where
    go : (p q r s : Bool) → (1 ≤ pick p 1 (pick q 2 (pick r 5 (pick s 4 3)))) × (pick p 1 (pick q 2 (pick r 5 (pick s 4 3))) ≤ 5)
    go true q r s = omega arith
    go false true r s = omega arith
    go false false true s = omega arith
    go false false false true = omega arith
    go false false false false = omega arith

abbrev pub AtLevel : ℕ → Option ℕ → Type 0
AtLevel j none = Unit {0}
AtLevel j (some o) = lev o ≡ j

l_pick : (j : ℕ) (b : Bool) (x y : Option ℕ) → (b ≡ true → AtLevel j x) → (b ≡ false → AtLevel j y) → AtLevel j (pick b x y)
l_pick j true x y p q = p refl
l_pick j false x y p q = q refl

l_when : (j o : ℕ) (b : Bool) → lev o ≡ j → AtLevel j (when1 b (some o))
l_when j o true e = e
l_when j o false e = tt

l_or : (j : ℕ) (x y : Option ℕ) → AtLevel j x → AtLevel j y → AtLevel j (or_else x y)
l_or j none y p q = q
l_or j (some o) y p q = p

pub op_level : (j : ℕ) (w : Word) → AtLevel j (op_any j w)
op_level j w = l_pick j (eqb j 3) _ _ (λ e. let q = sym (eqb-true j 3 e) in l_or j _ _ (l_when j 3 (same w t_is) q) (l_when j 4 (same w t_less) q)) (λ e3.
    l_pick j (eqb j 1) _ _ (λ e. l_when j 6 (same w k_or) (sym (eqb-true j 1 e))) (λ e1.
    l_pick j (eqb j 2) _ _ (λ e. l_when j 5 (same w k_and) (sym (eqb-true j 2 e))) (λ e2.
    l_pick j (eqb j 4) _ _ (λ e. let q = sym (eqb-true j 4 e) in l_or j _ _ (l_when j 0 (same w t_plus) q) (l_when j 1 (same w t_minus) q)) (λ e4.
    l_pick j (eqb j 5) _ _ (λ e. l_when j 2 (same w t_times) (sym (eqb-true j 5 e))) (λ e5. tt)))))
