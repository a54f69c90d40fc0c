-- A line as flat code: one operation for each thing that a checker does, in the order in which it does it.
-- A call's beginning carries how many arguments it has. Brackets, let and if have no operation where they begin.
use Rattle.std.specs.Prelude.{List, [], ◌∷◌, ℕ, suc}
use Rattle.lexer.specs.Tokens.{Tok}
use Rattle.grammar.specs.Grammar.{E, Es, no, and_then, e_num, e_name, e_call, e_field, e_op, e_if, e_let, e_par, Field, Item, nothing, i_use, i_kind, i_rec, i_def, i_bad}

pub data Op : Type 0 where
  -- of an expression: a number; a name; a call begins, with so many arguments; an argument is there; the call ends here; a field;
  -- an operator; a condition is there; an if that began here ends; a name is bound; a let that began here ends; brackets around it
  o_num : Tok → Op
  o_name : Tok → Op
  o_call : Tok → ℕ → Op
  o_arg : Op
  o_end : ℕ → Op
  o_field : Tok → Op
  o_op : ℕ → Op
  o_cond : Op
  o_if : ℕ → Op
  o_bind : Tok → Op
  o_let : ℕ → Op
  o_par : ℕ → ℕ → Op
  -- of a line: a file used; a record or def named; a kind or a constant of it; a field or parameter; a def's result; its end; not understood
  o_use : Tok → Op
  o_new : Tok → Op
  o_const : Tok → Op
  o_slot : Field → Op
  o_result : Tok → Op
  o_body : Op
  o_bad : ℕ → ℕ → Op

abbrev pub count : Es → ℕ
count no = 0
count (and_then e es) = suc (count es)

-- an expression's code in front of what follows
abbrev mutual
  pub onto : E → List Op → List Op
  onto (e_num t) os = o_num t ∷ os
  onto (e_name t) os = o_name t ∷ os
  onto (e_call f es n) os = o_call f (count es) ∷ ontos es (o_end n ∷ os)
  onto (e_field e x) os = onto e (o_field x ∷ os)
  onto (e_op o a b) os = onto a (onto b (o_op o ∷ os))
  onto (e_if n a b c) os = onto a (o_cond ∷ onto b (onto c (o_if n ∷ os)))
  onto (e_let n x a b) os = onto a (o_bind x ∷ onto b (o_let n ∷ os))
  onto (e_par n e m) os = onto e (o_par n m ∷ os)

  pub ontos : Es → List Op → List Op
  ontos no os = os
  ontos (and_then e es) os = onto e (o_arg ∷ ontos es os)

abbrev pub code : E → List Op
code e = onto e []

abbrev pub consts_code : List Tok → List Op
consts_code [] = []
consts_code (t ∷ ts) = o_const t ∷ consts_code ts

abbrev pub slots_onto : List Field → List Op → List Op
slots_onto [] os = os
slots_onto (x ∷ xs) os = o_slot x ∷ slots_onto xs os

abbrev pub item_code : Item → List Op
item_code nothing = []
item_code (i_use t) = o_use t ∷ []
item_code (i_kind t cs) = consts_code (t ∷ cs)
item_code (i_rec t fs) = o_new t ∷ slots_onto fs []
item_code (i_def t ps r e) = o_new t ∷ slots_onto ps (o_result r ∷ onto e (o_body ∷ []))
item_code (i_bad a b) = o_bad a b ∷ []
