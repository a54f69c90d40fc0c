-- The parser as a machine with a stack of its own. Only contracts of private functions cite it: what it comes to is what Grammar says.
use Rattle.std.specs.Prelude.{List, [], ◌∷◌, ◌++◌, ℕ, zero, suc, ◌+◌, ◌*◌, length, eqb, leb}
use Rattle.base.specs.Base.{pick, opt, Word, same}
use Rattle.lexer.specs.Tokens.{Tok, next, tail1}
use Rattle.lexer.specs.Words.{op_any, is_name, is_number, digits, k_let, k_in, k_if, k_then, k_else, t_lp, t_rp, t_comma, t_gets, t_dot}
use Rattle.grammar.specs.Grammar.{E, Got, it, bad}
use Rattle.grammar.specs.Code.{Op, o_num, o_name, o_call, o_arg, o_end, o_field, o_op, o_cond, o_if, o_bind, o_let, o_par, o_use, o_new, o_const, o_slot, o_result, o_body, o_bad, code}

-- an operator's level; the level of what it makes
abbrev pub lev : ℕ → ℕ
lev o = pick (eqb o 6) 1 (pick (eqb o 5) 2 (pick (eqb o 2) 5 (pick (leb o 1) 4 3)))

abbrev pub made : ℕ → ℕ
made j = pick (eqb j 3) 3 (suc j)

-- what waits for a value
pub data Frame : Type 0 where
  -- brackets that began here
  f_par : ℕ → Frame
  -- a call: where in the code it begins, and how many arguments it has so far
  f_call : ℕ → ℕ → Frame
  -- a let that began here: the value of its name; its body
  f_bound : ℕ → Tok → Frame
  f_body : ℕ → Frame
  -- an if that began here: its condition; its branches
  f_cond : ℕ → Frame
  f_then : ℕ → Frame
  f_else : ℕ → Frame
  -- an operator: its right side
  f_right : ℕ → Frame

-- an expression is to begin; an atom is to begin; a value of this level is there
pub data Phase : Type 0 where
  p_begin : Phase
  p_atom : Phase
  p_value : ℕ → Phase

pub data State : Type 0 where
  going : Phase → List Tok → List Frame → List Op → State
  won : List Op → List Tok → State
  lost : List Tok → State

-- the level at which what is being read began
abbrev pub base : List Frame → ℕ
base [] = 1
base (f_par n ∷ fs) = 1
base (f_call p k ∷ fs) = 1
base (f_bound n x ∷ fs) = 1
base (f_body n ∷ fs) = 1
base (f_cond n ∷ fs) = 1
base (f_then n ∷ fs) = 1
base (f_else n ∷ fs) = 1
base (f_right o ∷ fs) = suc (lev o)

-- the call that begins at operation p has k arguments
abbrev pub counted : Op → ℕ → Op
counted (o_num t) k = o_num t
counted (o_name t) k = o_name t
counted (o_call f n) k = o_call f k
counted o_arg k = o_arg
counted (o_end n) k = o_end n
counted (o_field x) k = o_field x
counted (o_op o) k = o_op o
counted o_cond k = o_cond
counted (o_if n) k = o_if n
counted (o_bind x) k = o_bind x
counted (o_let n) k = o_let n
counted (o_par n m) k = o_par n m
counted (o_use t) k = o_use t
counted (o_new t) k = o_new t
counted (o_const t) k = o_const t
counted (o_slot x) k = o_slot x
counted (o_result t) k = o_result t
counted o_body k = o_body
counted (o_bad a b) k = o_bad a b

abbrev pub patch : List Op → ℕ → ℕ → List Op
patch [] p k = []
patch (x ∷ xs) zero k = counted x k ∷ xs
patch (x ∷ xs) (suc p) k = x ∷ patch xs p k

abbrev pub eats : Word → List Tok → (Tok → List Tok → State) → State
eats w [] f = lost []
eats w (t ∷ ts) f = pick (same t.w w) (f t ts) (lost (t ∷ ts))

abbrev pub names_it : List Tok → (Tok → List Tok → State) → State
names_it [] f = lost []
names_it (t ∷ ts) f = pick (is_name t.w) (f t ts) (lost (t ∷ ts))

abbrev pub do_let : List Tok → List Frame → List Op → State
do_let ts fs c = eats k_let ts (λ l us. names_it us (λ x vs. eats t_gets vs (λ g xs. going p_begin xs (f_bound l.from x ∷ fs) c)))

abbrev pub do_if : List Tok → List Frame → List Op → State
do_if ts fs c = eats k_if ts (λ l us. going p_begin us (f_cond l.from ∷ fs) c)

abbrev pub do_begin : List Tok → List Frame → List Op → State
do_begin ts fs c = pick (same (next ts) k_let) (do_let ts fs c) (pick (same (next ts) k_if) (do_if ts fs c) (going p_atom ts fs c))

abbrev pub do_call : Tok → List Tok → List Frame → List Op → State
do_call f ts fs c = pick (same (next ts) t_rp) (eats t_rp ts (λ r us. going (p_value 7) us fs (c ++ (o_call f 0 ∷ (o_end r.to ∷ []))))) (going p_begin ts (f_call (length c) 0 ∷ fs) (c ++ (o_call f 0 ∷ [])))

abbrev pub do_atom : List Tok → List Frame → List Op → State
do_atom [] fs c = lost []
do_atom (t ∷ ts) fs c =
    pick (same t.w t_lp) (going p_begin ts (f_par t.from ∷ fs) c)
    (pick (is_number t.w) (pick (digits t.w) (going (p_value 7) ts fs (c ++ (o_num t ∷ []))) (lost (t ∷ ts)))
    (pick (is_name t.w) (pick (same (next ts) t_lp) (do_call t (tail1 ts) fs c) (going (p_value 7) ts fs (c ++ (o_name t ∷ [])))) (lost (t ∷ ts))))

-- a value goes to what waits for it
abbrev pub pop : List Tok → List Frame → List Op → State
pop ts [] c = won c ts
pop ts (f_par n ∷ fs) c = eats t_rp ts (λ r us. going (p_value 7) us fs (c ++ (o_par n r.to ∷ [])))
pop ts (f_call p k ∷ fs) c = pick (same (next ts) t_comma) (going p_begin (tail1 ts) (f_call p (suc k) ∷ fs) (c ++ (o_arg ∷ []))) (eats t_rp ts (λ r us. going (p_value 7) us fs (patch (c ++ (o_arg ∷ [])) p (suc k) ++ (o_end r.to ∷ []))))
pop ts (f_bound n x ∷ fs) c = eats k_in ts (λ i us. going p_begin us (f_body n ∷ fs) (c ++ (o_bind x ∷ [])))
pop ts (f_body n ∷ fs) c = going (p_value 0) ts fs (c ++ (o_let n ∷ []))
pop ts (f_cond n ∷ fs) c = eats k_then ts (λ i us. going p_begin us (f_then n ∷ fs) (c ++ (o_cond ∷ [])))
pop ts (f_then n ∷ fs) c = eats k_else ts (λ i us. going p_begin us (f_else n ∷ fs) c)
pop ts (f_else n ∷ fs) c = going (p_value 0) ts fs (c ++ (o_if n ∷ []))
pop ts (f_right o ∷ fs) c = going (p_value (made (lev o))) ts fs (c ++ (o_op o ∷ []))

abbrev pub do_dot : List Tok → List Frame → List Op → State
do_dot ts fs c = pick (same (next ts) t_dot) (names_it (tail1 ts) (λ x us. going (p_value 7) us fs (c ++ (o_field x ∷ [])))) (going (p_value 6) ts fs c)

abbrev pub do_op : ℕ → List Tok → List Frame → List Op → State
do_op j ts fs c = opt (op_any j (next ts)) (going (p_value j) ts fs c) (λ o. going p_atom (tail1 ts) (f_right o ∷ fs) c)

abbrev pub do_value : ℕ → List Tok → List Frame → List Op → State
do_value zero ts fs c = pop ts fs c
do_value (suc j) ts fs c = pick (leb (suc j) (base fs)) (pop ts fs c) (pick (eqb j 6) (do_dot ts fs c) (do_op j ts fs c))

abbrev pub step : State → State
step (going p_begin ts fs c) = do_begin ts fs c
step (going p_atom ts fs c) = do_atom ts fs c
step (going (p_value l) ts fs c) = do_value l ts fs c
step (won c ts) = won c ts
step (lost ts) = lost ts

-- a number that falls with every step: pieces left, frames, and the phase
abbrev pub weight : Phase → ℕ
weight p_begin = 1
weight p_atom = 0
weight (p_value l) = l

abbrev pub effort : State → ℕ
effort (going m ts fs c) = suc (9 * length ts + (7 * length fs + weight m))
effort (won c ts) = 0
effort (lost ts) = 0

abbrev pub run : ℕ → State → State
run zero s = s
run (suc n) s = run n (step s)

unfoldable pub outcome : State → State
outcome s = run (effort s) s

abbrev pub start : List Tok → State
start ts = going p_begin ts [] []

abbrev pub as_code : Got E → State
as_code (it e us) = won (code e) us
as_code (bad us) = lost us
