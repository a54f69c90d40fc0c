-- How long an expression's code is: no longer than the pieces that it is written with.
use mathlib.Core.List.{List, ◌∷◌}
use Prim.Native.Nat.{ℕ, ◌+◌, ◌≤◌}
use native.Mathlib.Omega.{arith}
use lib.ListN.{length}
use Rattle.grammar.specs.Grammar.{E, e_num, e_name, e_call, e_field, e_op, e_if, e_let, e_par, Es, no, and_then}
use Rattle.grammar.specs.Code.{Op, o_arg, o_end, o_field, o_op, o_cond, o_if, o_bind, o_let, o_par, onto, ontos}

-- how many operations: at most one for each piece of the expression. pieces_of counts the pieces that it is written with
abbrev pub none_left : Es → ℕ
none_left no = 1
none_left (and_then e es) = 0

abbrev mutual
  pub pieces_of : E → ℕ
  pieces_of (e_num t) = 1
  pieces_of (e_name t) = 1
  pieces_of (e_call f es n) = 2 + (none_left es + args_of es)
  pieces_of (e_field e x) = pieces_of e + 2
  pieces_of (e_op o a b) = pieces_of a + (1 + pieces_of b)
  pieces_of (e_if n a b c) = 3 + (pieces_of a + (pieces_of b + pieces_of c))
  pieces_of (e_let n x a b) = 4 + (pieces_of a + pieces_of b)
  pieces_of (e_par n e m) = 2 + pieces_of e

  -- each argument with the comma or the bracket behind it
  pub args_of : Es → ℕ
  args_of no = 0
  args_of (and_then e es) = pieces_of e + (1 + args_of es)

mutual
  pub few : (e : E) (os : List Op) → length (onto e os) ≤ pieces_of e + length os
  few (e_num t) os = omega arith
  few (e_name t) os = omega arith
  few (e_call f es n) os = omega (arith, fews es (o_end n ∷ os))
  few (e_field e x) os = omega (arith, few e (o_field x ∷ os))
  few (e_op o a b) os = omega (arith, few a (onto b (o_op o ∷ os)), few b (o_op o ∷ os))
  few (e_if n a b c) os = omega (arith, few a (o_cond ∷ onto b (onto c (o_if n ∷ os))), few b (onto c (o_if n ∷ os)), few c (o_if n ∷ os))
  few (e_let n x a b) os = omega (arith, few a (o_bind x ∷ onto b (o_let n ∷ os)), few b (o_let n ∷ os))
  few (e_par n e m) os = omega (arith, few e (o_par n m ∷ os))

  pub fews : (es : Es) (os : List Op) → length (ontos es os) ≤ args_of es + length os
  fews no os = omega arith
  fews (and_then e es) os = omega (arith, few e (o_arg ∷ ontos es os), fews es os)
