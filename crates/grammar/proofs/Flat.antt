-- The machine that holds no trees comes to the code of what the definition reads, or stops where it does.
use mathlib.Core.Path.{◌≡◌, refl, sym, ap, subst, ◌∙◌}
use mathlib.Core.Bool.{Bool, true, false}
use mathlib.Core.List.{List, [], ◌∷◌, ◌++◌, append_assoc}
use mathlib.Core.Option.{Option, some, none}
use Prim.Native.Nat.{ℕ, zero, suc, ◌+◌, ◌*◌, ◌≤◌}
use native.Mathlib.Omega.{arith}
use lib.ListN.{length}
use lib.Dec.{eqb, leb}
use borrow.Author.Tests.{eqb-true}
use Rattle.base.specs.Base.{pick, opt, Word, same}
use Rattle.lexer.specs.Tokens.{Tok, next, tail1}
use Rattle.lexer.specs.Words.{is_name, is_number, digits, k_let, k_in, k_if, k_then, k_else, t_lp, t_rp, t_comma, t_gets, t_dot, op_any}
use Rattle.grammar.specs.Grammar.{E, Es, no, and_then, e_num, e_name, e_call, e_field, e_op, e_if, e_let, e_par, Got, it, bad, expr}
use Rattle.grammar.specs.Code.{Op, o_call, o_arg, o_end, o_field, o_op, o_cond, o_if, o_bind, o_let, o_par, count, onto, ontos, code}
use Rattle.grammar.specs.Machine.{lev, made, Frame, f_par, f_call, f_bound, f_body, f_cond, f_then, f_else, f_right, p_begin, p_atom, p_value, State, going, won, lost, base, patch, eats, names_it, do_begin, do_call, do_atom, pop, do_dot, do_op, do_value, step, run, start, as_code, effort, outcome}
use Rattle.grammar.proofs.Fuel.{tail_most}
use Rattle.grammar.proofs.Free.{lev_in}
use Rattle.grammar.proofs.Tree.{TreeFrame, in_par, in_call, in_bound, in_body, in_cond, in_then, in_else, right_of, at_begin, at_atom, at_value, TreeState, tree_going, tree_won, tree_lost, tree_base, put_all, tree_eats, tree_word, tree_begin, tree_call, tree_atom, tree_pop, tree_value, tree_step}
use Rattle.grammar.proofs.Runs.{tree_run, tree_start, as_tree, machine_is, tail_less, made_most, any_none}

one : (b : E) (x : Op) (os : List Op) → onto b (x ∷ os) ≡ code b ++ (x ∷ os) → onto b (x ∷ []) ≡ code b ++ (x ∷ []) → onto b (x ∷ os) ≡ onto b (x ∷ []) ++ os
one b x os p q = p ∙ sym (append_assoc (code b) (x ∷ []) os) ∙ ap (λ l. l ++ os) (sym q)

two : (a : E) (xs ys os : List Op) → onto a xs ≡ code a ++ xs → onto a ys ≡ code a ++ ys → xs ≡ ys ++ os → onto a xs ≡ onto a ys ++ os
two a xs ys os p q e = p ∙ ap (λ l. code a ++ l) e ∙ sym (append_assoc (code a) ys os) ∙ ap (λ l. l ++ os) (sym q)

-- an expression's code in front of what follows is its code and then that
mutual
  pub onto_is : (e : E) (os : List Op) → onto e os ≡ code e ++ os
  onto_is (e_num t) os = refl
  onto_is (e_name t) os = refl
  onto_is (e_call f es n) os = ap (λ l. o_call f (count es) ∷ l) (ontos_is es (o_end n ∷ os) ∙ sym (append_assoc (ontos es []) (o_end n ∷ []) os) ∙ ap (λ l. l ++ os) (sym (ontos_is es (o_end n ∷ []))))
  onto_is (e_field e x) os = onto_is e (o_field x ∷ os) ∙ sym (append_assoc (code e) (o_field x ∷ []) os) ∙ ap (λ l. l ++ os) (sym (onto_is e (o_field x ∷ [])))
  onto_is (e_op o a b) os = two a (onto b (o_op o ∷ os)) (onto b (o_op o ∷ [])) os (onto_is a (onto b (o_op o ∷ os))) (onto_is a (onto b (o_op o ∷ []))) (one b (o_op o) os (onto_is b (o_op o ∷ os)) (onto_is b (o_op o ∷ [])))
  onto_is (e_if n a b c) os =
      let z = one c (o_if n) os (onto_is c (o_if n ∷ os)) (onto_is c (o_if n ∷ [])) in
      let y = two b (onto c (o_if n ∷ os)) (onto c (o_if n ∷ [])) os (onto_is b (onto c (o_if n ∷ os))) (onto_is b (onto c (o_if n ∷ []))) z in
      two a (o_cond ∷ onto b (onto c (o_if n ∷ os))) (o_cond ∷ onto b (onto c (o_if n ∷ []))) os (onto_is a (o_cond ∷ onto b (onto c (o_if n ∷ os)))) (onto_is a (o_cond ∷ onto b (onto c (o_if n ∷ [])))) (ap (λ l. o_cond ∷ l) y)
  onto_is (e_let n x a b) os =
      let y = one b (o_let n) os (onto_is b (o_let n ∷ os)) (onto_is b (o_let n ∷ [])) in
      two a (o_bind x ∷ onto b (o_let n ∷ os)) (o_bind x ∷ onto b (o_let n ∷ [])) os (onto_is a (o_bind x ∷ onto b (o_let n ∷ os))) (onto_is a (o_bind x ∷ onto b (o_let n ∷ []))) (ap (λ l. o_bind x ∷ l) y)
  onto_is (e_par n e m) os = one e (o_par n m) os (onto_is e (o_par n m ∷ os)) (onto_is e (o_par n m ∷ []))

  pub ontos_is : (es : Es) (os : List Op) → ontos es os ≡ ontos es [] ++ os
  ontos_is no os = refl
  ontos_is (and_then e es) os = two e (o_arg ∷ ontos es os) (o_arg ∷ ontos es []) os (onto_is e (o_arg ∷ ontos es os)) (onto_is e (o_arg ∷ ontos es [])) (ap (λ l. o_arg ∷ l) (ontos_is es os))

-- the code of each form, by its parts
pub code_call : (f : Tok) (es : Es) (n : ℕ) → code (e_call f es n) ≡ o_call f (count es) ∷ (ontos es [] ++ (o_end n ∷ []))
code_call f es n = ap (λ l. o_call f (count es) ∷ l) (ontos_is es (o_end n ∷ []))

pub code_field : (e : E) (x : Tok) → code (e_field e x) ≡ code e ++ (o_field x ∷ [])
code_field e x = onto_is e (o_field x ∷ [])

pub code_op : (o : ℕ) (a b : E) → code (e_op o a b) ≡ code a ++ (code b ++ (o_op o ∷ []))
code_op o a b = onto_is a (onto b (o_op o ∷ [])) ∙ ap (λ l. code a ++ l) (onto_is b (o_op o ∷ []))

pub code_if : (n : ℕ) (a b c : E) → code (e_if n a b c) ≡ code a ++ (o_cond ∷ (code b ++ (code c ++ (o_if n ∷ []))))
code_if n a b c = onto_is a (o_cond ∷ onto b (onto c (o_if n ∷ []))) ∙ ap (λ l. code a ++ (o_cond ∷ l)) (onto_is b (onto c (o_if n ∷ [])) ∙ ap (λ l. code b ++ l) (onto_is c (o_if n ∷ [])))

pub code_let : (n : ℕ) (x : Tok) (a b : E) → code (e_let n x a b) ≡ code a ++ (o_bind x ∷ (code b ++ (o_let n ∷ [])))
code_let n x a b = onto_is a (o_bind x ∷ onto b (o_let n ∷ [])) ∙ ap (λ l. code a ++ (o_bind x ∷ l)) (onto_is b (o_let n ∷ []))

pub code_par : (n : ℕ) (e : E) (m : ℕ) → code (e_par n e m) ≡ code e ++ (o_par n m ∷ [])
code_par n e m = onto_is e (o_par n m ∷ [])

-- what the machine with trees has put out
abbrev args_out : List E → List Op
args_out [] = []
args_out (a ∷ es) = args_out es ++ (code a ++ (o_arg ∷ []))

abbrev outs : List TreeFrame → List Op
outs [] = []
outs (in_par n ∷ fs) = outs fs
outs (in_call f es ∷ fs) = outs fs ++ (o_call f 0 ∷ args_out es)
outs (in_bound n x ∷ fs) = outs fs
outs (in_body n x a ∷ fs) = outs fs ++ (code a ++ (o_bind x ∷ []))
outs (in_cond n ∷ fs) = outs fs
outs (in_then n a ∷ fs) = outs fs ++ (code a ++ (o_cond ∷ []))
outs (in_else n a b ∷ fs) = outs fs ++ (code a ++ (o_cond ∷ code b))
outs (right_of o a ∷ fs) = outs fs ++ code a

abbrev flats : List TreeFrame → List Frame
flats [] = []
flats (in_par n ∷ fs) = f_par n ∷ flats fs
flats (in_call f es ∷ fs) = f_call (length (outs fs)) (length es) ∷ flats fs
flats (in_bound n x ∷ fs) = f_bound n x ∷ flats fs
flats (in_body n x a ∷ fs) = f_body n ∷ flats fs
flats (in_cond n ∷ fs) = f_cond n ∷ flats fs
flats (in_then n a ∷ fs) = f_then n ∷ flats fs
flats (in_else n a b ∷ fs) = f_else n ∷ flats fs
flats (right_of o a ∷ fs) = f_right o ∷ flats fs

abbrev pub flat : TreeState → State
flat (tree_going at_begin ts fs) = going p_begin ts (flats fs) (outs fs)
flat (tree_going at_atom ts fs) = going p_atom ts (flats fs) (outs fs)
flat (tree_going (at_value l a) ts fs) = going (p_value l) ts (flats fs) (outs fs ++ code a)
flat (tree_won a ts) = won (code a) ts
flat (tree_lost ts) = lost ts

flat_base : (fs : List TreeFrame) → base (flats fs) ≡ tree_base fs
flat_base [] = refl
flat_base (in_par n ∷ fs) = refl
flat_base (in_call f es ∷ fs) = refl
flat_base (in_bound n x ∷ fs) = refl
flat_base (in_body n x a ∷ fs) = refl
flat_base (in_cond n ∷ fs) = refl
flat_base (in_then n a ∷ fs) = refl
flat_base (in_else n a b ∷ fs) = refl
flat_base (right_of o a ∷ fs) = refl

patch_at : (xs : List Op) (f : Tok) (n k : ℕ) (ys : List Op) → patch (xs ++ (o_call f n ∷ ys)) (length xs) k ≡ xs ++ (o_call f k ∷ ys)
patch_at [] f n k ys = refl
patch_at (x ∷ xs) f n k ys = ap (λ l. x ∷ l) (patch_at xs f n k ys)

codes_put : (es : List E) (xs : Es) → ontos (put_all es xs) [] ≡ args_out es ++ ontos xs []
codes_put [] xs = refl
codes_put (a ∷ es) xs = codes_put es (and_then a xs) ∙ ap (λ l. args_out es ++ l) (onto_is a (o_arg ∷ ontos xs [])) ∙ simp append_assoc

count_put : (es : List E) (xs : Es) → count (put_all es xs) ≡ length es + count xs
count_put [] xs = omega arith
count_put (a ∷ es) xs = let e = count_put es (and_then a xs) in omega arith

flat_eats : (w : Word) (ts : List Tok) (F : Tok → List Tok → TreeState) (G : Tok → List Tok → State) → ((t : Tok) (us : List Tok) → flat (F t us) ≡ G t us) → flat (tree_eats w ts F) ≡ eats w ts G
flat_eats w [] F G e = refl
flat_eats w (t ∷ ts) F G e = go (same t.w w) (e t ts)
  where
    go : (b : Bool) → flat (F t ts) ≡ G t ts → flat (pick b (F t ts) (tree_lost (t ∷ ts))) ≡ pick b (G t ts) (lost (t ∷ ts))
    go true e = e
    go false e = refl

flat_names : (ts : List Tok) (F : Tok → List Tok → TreeState) (G : Tok → List Tok → State) → ((t : Tok) (us : List Tok) → flat (F t us) ≡ G t us) → flat (tree_word is_name ts F) ≡ names_it ts G
flat_names [] F G e = refl
flat_names (t ∷ ts) F G e = go (is_name t.w) (e t ts)
  where
    go : (b : Bool) → flat (F t ts) ≡ G t ts → flat (pick b (F t ts) (tree_lost (t ∷ ts))) ≡ pick b (G t ts) (lost (t ∷ ts))
    go true e = e
    go false e = refl

flat_pick : (b : Bool) (X Y : TreeState) (U V : State) → flat X ≡ U → flat Y ≡ V → flat (pick b X Y) ≡ pick b U V
flat_pick true X Y U V p q = p
flat_pick false X Y U V p q = q

flat_opt : (o : Option ℕ) (X : TreeState) (F : ℕ → TreeState) (U : State) (G : ℕ → State) → flat X ≡ U → ((x : ℕ) → flat (F x) ≡ G x) → flat (opt o X F) ≡ opt o U G
flat_opt none X F U G p q = p
flat_opt (some x) X F U G p q = q x

call_code : (fs : List TreeFrame) (f : Tok) (es : List E) (a : E) (n : ℕ) → outs fs ++ code (e_call f (put_all es (and_then a no)) n) ≡ patch (((outs fs ++ (o_call f 0 ∷ args_out es)) ++ code a) ++ (o_arg ∷ [])) (length (outs fs)) (suc (length es)) ++ (o_end n ∷ [])
call_code fs f es a n =
    let xs = outs fs in
    let k : count (put_all es (and_then a no)) ≡ suc (length es) = count_put es (and_then a no) ∙ omega arith in
    let ys = args_out es ++ (code a ++ (o_arg ∷ [])) in
    let c : ontos (put_all es (and_then a no)) [] ≡ ys = codes_put es (and_then a no) ∙ ap (λ l. args_out es ++ l) (onto_is a (o_arg ∷ [])) in
    let r : ((xs ++ (o_call f 0 ∷ args_out es)) ++ code a) ++ (o_arg ∷ []) ≡ xs ++ (o_call f 0 ∷ ys) = simp append_assoc in
    ap (λ l. xs ++ l) (code_call f (put_all es (and_then a no)) n) ∙ (λ i. xs ++ (o_call f (k i) ∷ (c i ++ (o_end n ∷ [])))) ∙ sym (append_assoc xs (o_call f (suc (length es)) ∷ ys) (o_end n ∷ [])) ∙
    ap (λ l. l ++ (o_end n ∷ [])) (sym (patch_at xs f 0 (suc (length es)) ys) ∙ ap (λ l. patch l (length xs) (suc (length es))) (sym r))

pop_flat : (a : E) (ts : List Tok) (fs : List TreeFrame) → flat (tree_pop a ts fs) ≡ pop ts (flats fs) (outs fs ++ code a)
pop_flat a ts [] = refl
pop_flat a ts (in_par n ∷ fs) = flat_eats t_rp ts _ _ (λ r us. ap (going (p_value 7) us (flats fs)) (ap (λ l. outs fs ++ l) (code_par n a r.to) ∙ simp append_assoc))
pop_flat a ts (in_call f es ∷ fs) = flat_pick (same (next ts) t_comma) _ _ _ _ (ap (going p_begin (tail1 ts) (f_call (length (outs fs)) (suc (length es)) ∷ flats fs)) (simp append_assoc)) (flat_eats t_rp ts _ _ (λ r us. ap (going (p_value 7) us (flats fs)) (call_code fs f es a r.to)))
pop_flat a ts (in_bound n x ∷ fs) = flat_eats k_in ts _ _ (λ i us. ap (going p_begin us (f_body n ∷ flats fs)) (simp append_assoc))
pop_flat b ts (in_body n x a ∷ fs) = ap (going (p_value 0) ts (flats fs)) (ap (λ l. outs fs ++ l) (code_let n x a b) ∙ simp append_assoc)
pop_flat a ts (in_cond n ∷ fs) = flat_eats k_then ts _ _ (λ i us. ap (going p_begin us (f_then n ∷ flats fs)) (simp append_assoc))
pop_flat b ts (in_then n a ∷ fs) = flat_eats k_else ts _ _ (λ i us. ap (going p_begin us (f_else n ∷ flats fs)) (simp append_assoc))
pop_flat c ts (in_else n a b ∷ fs) = ap (going (p_value 0) ts (flats fs)) (ap (λ l. outs fs ++ l) (code_if n a b c) ∙ simp append_assoc)
pop_flat b ts (right_of o a ∷ fs) = ap (going (p_value (made (lev o))) ts (flats fs)) (ap (λ l. outs fs ++ l) (code_op o a b) ∙ simp append_assoc)

begin_flat : (ts : List Tok) (fs : List TreeFrame) → flat (tree_begin ts fs) ≡ do_begin ts (flats fs) (outs fs)
begin_flat ts fs = flat_pick (same (next ts) k_let) _ _ _ _ (flat_eats k_let ts _ _ (λ l us. flat_names us _ _ (λ x vs. flat_eats t_gets vs _ _ (λ g xs. refl)))) (flat_pick (same (next ts) k_if) _ _ _ _ (flat_eats k_if ts _ _ (λ l us. refl)) refl)

call_flat : (f : Tok) (ts : List Tok) (fs : List TreeFrame) → flat (tree_call f ts fs) ≡ do_call f ts (flats fs) (outs fs)
call_flat f ts fs = flat_pick (same (next ts) t_rp) _ _ _ _ (flat_eats t_rp ts _ _ (λ r us. refl)) refl

atom_flat : (ts : List Tok) (fs : List TreeFrame) → flat (tree_atom ts fs) ≡ do_atom ts (flats fs) (outs fs)
atom_flat [] fs = refl
atom_flat (t ∷ ts) fs = flat_pick (same t.w t_lp) _ _ _ _ refl (flat_pick (is_number t.w) _ _ _ _ (flat_pick (digits t.w) _ _ _ _ refl refl) (flat_pick (is_name t.w) _ _ _ _ (flat_pick (same (next ts) t_lp) _ _ _ _ (call_flat t (tail1 ts) fs) refl) refl))

value_flat : (l : ℕ) (a : E) (ts : List Tok) (fs : List TreeFrame) → flat (tree_value l a ts fs) ≡ do_value l ts (flats fs) (outs fs ++ code a)
value_flat zero a ts fs = pop_flat a ts fs
value_flat (suc j) a ts fs = flat_pick (leb (suc j) (tree_base fs)) _ _ _ _ (pop_flat a ts fs) (flat_pick (eqb j 6) _ _ _ _
    (flat_pick (same (next ts) t_dot) _ _ _ _ (flat_names (tail1 ts) _ _ (λ x us. ap (going (p_value 7) us (flats fs)) (ap (λ l. outs fs ++ l) (code_field a x) ∙ sym (append_assoc (outs fs) (code a) (o_field x ∷ []))))) refl)
    (flat_opt (op_any j (next ts)) _ _ _ _ refl (λ o. refl)))
    ∙ ap (λ b. pick (leb (suc j) b) (pop ts (flats fs) (outs fs ++ code a)) (pick (eqb j 6) (do_dot ts (flats fs) (outs fs ++ code a)) (do_op j ts (flats fs) (outs fs ++ code a)))) (sym (flat_base fs))

pub step_flat : (s : TreeState) → flat (tree_step s) ≡ step (flat s)
step_flat (tree_going at_begin ts fs) = begin_flat ts fs
step_flat (tree_going at_atom ts fs) = atom_flat ts fs
step_flat (tree_going (at_value l a) ts fs) = value_flat l a ts fs
step_flat (tree_won a ts) = refl
step_flat (tree_lost ts) = refl

run_flat : (n : ℕ) (s : TreeState) → run n (flat s) ≡ flat (tree_run n s)
run_flat zero s = refl
run_flat (suc n) s = ap (run n) (sym (step_flat s)) ∙ run_flat n (tree_step s)

same_got : (g : Got E) → flat (as_tree g) ≡ as_code g
same_got (it e us) = refl
same_got (bad us) = refl

pub flat_is : (n m : ℕ) (ts : List Tok) → 10 * length ts + 10 ≤ n → 9 * length ts + 2 ≤ m → run m (start ts) ≡ as_code (expr n ts)
flat_is n m ts h k = run_flat m (tree_start ts) ∙ ap flat (machine_is n m ts h k) ∙ same_got (expr n ts)

-- the measure, and what a state comes to
l_pick : (m : ℕ) (b : Bool) (X Y : State) → (b ≡ true → effort X ≤ m) → (b ≡ false → effort Y ≤ m) → effort (pick b X Y) ≤ m
l_pick m true X Y p q = p refl
l_pick m false X Y p q = q refl

l_eat : (m : ℕ) (w : Word) (ts : List Tok) (F : Tok → List Tok → State) → ((t : Tok) (us : List Tok) → suc (length us) ≤ length ts → effort (F t us) ≤ m) → effort (eats w ts F) ≤ m
l_eat m w [] F h = omega arith
l_eat m w (t ∷ ts) F h = l_pick m (same t.w w) (F t ts) (lost (t ∷ ts)) (λ p. h t ts (omega arith)) (λ p. omega arith)

l_word : (m : ℕ) (ts : List Tok) (F : Tok → List Tok → State) → ((t : Tok) (us : List Tok) → suc (length us) ≤ length ts → effort (F t us) ≤ m) → effort (names_it ts F) ≤ m
l_word m [] F h = omega arith
l_word m (t ∷ ts) F h = l_pick m (is_name t.w) (F t ts) (lost (t ∷ ts)) (λ p. h t ts (omega arith)) (λ p. omega arith)

pop_less : (m : ℕ) (ts : List Tok) (fs : List Frame) (c : List Op) → 9 * length ts + 7 * length fs ≤ m → effort (pop ts fs c) ≤ m
pop_less m ts [] c h = omega arith
pop_less m ts (f_par n ∷ fs) c h = l_eat m t_rp ts _ (λ r us l. omega arith)
pop_less m ts (f_call p k ∷ fs) c h = l_pick m (same (next ts) t_comma) _ _ (λ e. omega (arith, tail_less ts 44 [] e)) (λ e. l_eat m t_rp ts _ (λ r us l. omega arith))
pop_less m ts (f_bound n x ∷ fs) c h = l_eat m k_in ts _ (λ r us l. omega arith)
pop_less m ts (f_body n ∷ fs) c h = omega arith
pop_less m ts (f_cond n ∷ fs) c h = l_eat m k_then ts _ (λ r us l. omega arith)
pop_less m ts (f_then n ∷ fs) c h = l_eat m k_else ts _ (λ r us l. omega arith)
pop_less m ts (f_else n ∷ fs) c h = omega arith
pop_less m ts (f_right o ∷ fs) c h = omega (arith, made_most (lev o) (lev_in o).1)

op_less : (m j : ℕ) (ts : List Tok) (fs : List Frame) (c : List Op) → 9 * length ts + (7 * length fs + suc j) ≤ m → effort (do_op j ts fs c) ≤ m
op_less m j [] fs c h = subst (λ q. effort (opt q (going (p_value j) [] fs c) (λ o. going p_atom [] (f_right o ∷ fs) c)) ≤ m) (sym (any_none j)) (omega arith)
op_less m j (t ∷ ts) fs c h = go (op_any j t.w)
  where
    go : (q : Option ℕ) → effort (opt q (going (p_value j) (t ∷ ts) fs c) (λ o. going p_atom ts (f_right o ∷ fs) c)) ≤ m
    go none = omega arith
    go (some o) = omega arith

pub step_less : (m : ℕ) (s : State) → effort s ≤ suc m → effort (step s) ≤ m
step_less m (going p_begin ts fs c) h = l_pick m (same (next ts) k_let) _ _
    (λ p. l_eat m k_let ts _ (λ l us h1. l_word m us _ (λ x vs h2. l_eat m t_gets vs _ (λ g xs h3. omega arith))))
    (λ p. l_pick m (same (next ts) k_if) _ _ (λ q. l_eat m k_if ts _ (λ l us h1. omega arith)) (λ q. omega arith))
step_less m (going p_atom [] fs c) h = omega arith
step_less m (going p_atom (t ∷ ts) fs c) h =
    l_pick m (same t.w t_lp) _ _ (λ p. omega arith) (λ p. l_pick m (is_number t.w) _ _ (λ q. l_pick m (digits t.w) _ _ (λ r. omega arith) (λ r. omega arith)) (λ q.
    l_pick m (is_name t.w) _ _ (λ r. l_pick m (same (next ts) t_lp) _ _ (λ s. let q = tail_most ts in l_pick m (same (next (tail1 ts)) t_rp) _ _ (λ u. l_eat m t_rp (tail1 ts) _ (λ v us l. omega arith)) (λ u. omega arith)) (λ s. omega arith)) (λ r. omega arith)))
step_less m (going (p_value zero) ts fs c) h = pop_less m ts fs c (omega arith)
step_less m (going (p_value (suc j)) ts fs c) h = l_pick m (leb (suc j) (base fs)) _ _ (λ p. pop_less m ts fs c (omega arith)) (λ p.
    l_pick m (eqb j 6) _ _ (λ q. let e = eqb-true j 6 q in l_pick m (same (next ts) t_dot) _ _ (λ r. l_word m (tail1 ts) _ (λ x us l. omega (arith, tail_most ts))) (λ r. omega arith)) (λ q. op_less m j ts fs c (omega arith)))
step_less m (won c ts) h = omega arith
step_less m (lost ts) h = omega arith

-- what a state comes to; a step keeps it
stays_won : (n : ℕ) (c : List Op) (ts : List Tok) → run n (won c ts) ≡ won c ts
stays_won zero c ts = refl
stays_won (suc n) c ts = stays_won n c ts

stays_lost : (n : ℕ) (ts : List Tok) → run n (lost ts) ≡ lost ts
stays_lost zero ts = refl
stays_lost (suc n) ts = stays_lost n ts

still : (n m : ℕ) (s : State) → effort s ≤ 0 → run n s ≡ run m s
still n m (going q ts fs c) h = absurd (omega arith)
still n m (won c ts) h = stays_won n c ts ∙ sym (stays_won m c ts)
still n m (lost ts) h = stays_lost n ts ∙ sym (stays_lost m ts)

pub run_more : (n m : ℕ) (s : State) → effort s ≤ n → effort s ≤ m → run n s ≡ run m s
run_more zero m s h k = still zero m s h
run_more (suc n) zero s h k = still (suc n) zero s k
run_more (suc n) (suc m) s h k = run_more n m (step s) (step_less n s h) (step_less m s k)

pub outcome_step : (s : State) → outcome (step s) ≡ outcome s
unfolding outcome
outcome_step s = let n = effort s in run_more (effort (step s)) n (step s) (omega arith) (step_less n s (omega arith)) ∙ run_more (suc n) n s (omega arith) (omega arith)

pub outcome_won : (c : List Op) (ts : List Tok) → outcome (won c ts) ≡ won c ts
unfolding outcome
outcome_won c ts = refl

pub outcome_lost : (ts : List Tok) → outcome (lost ts) ≡ lost ts
unfolding outcome
outcome_lost ts = refl

pub outcome_start : (n : ℕ) (ts : List Tok) → 10 * length ts + 10 ≤ n → outcome (start ts) ≡ as_code (expr n ts)
unfolding outcome
outcome_start n ts h = flat_is n (effort (start ts)) ts h (omega arith)

-- what was read, from what the machine came to
pub is_won : (n : ℕ) (ts us : List Tok) (c : List Op) → 10 * length ts + 10 ≤ n → outcome (start ts) ≡ won c us → (e : E) × (expr n ts ≡ it e us) × (c ≡ code e)
is_won n ts us c h p = go (expr n ts) (sym (outcome_start n ts h) ∙ p)
  where
    go : (g : Got E) → as_code g ≡ won c us → (e : E) × (g ≡ it e us) × (c ≡ code e)
    go (it e vs) q = (e, cc, cc)
    go (bad vs) q = let x : zero ≡ suc zero = cc in absurd (omega arith)

pub is_lost : (n : ℕ) (ts us : List Tok) → 10 * length ts + 10 ≤ n → outcome (start ts) ≡ lost us → expr n ts ≡ bad us
is_lost n ts us h p = go (expr n ts) (sym (outcome_start n ts h) ∙ p)
  where
    go : (g : Got E) → as_code g ≡ lost us → g ≡ bad us
    go (it e vs) q = cc
    go (bad vs) q = cc
