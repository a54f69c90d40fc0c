-- What is wrong in a line, what type its expressions have, and what its names mean.
use Rattle.std.specs.Prelude.{Bool, ◌&&◌, not, List, [], ◌∷◌, ◌++◌, ℕ, length, eqb, leb}
use Rattle.std.proofs.Math.Option.{Option, some, none}
use Rattle.base.specs.Base.{pick, opt, or_else, Word, same, among}
use Rattle.lexer.specs.Tokens.{Tok}
use Rattle.lexer.specs.Words.{k_num, k_bool}
use Rattle.grammar.specs.Grammar.{E, e_num, e_name, e_call, e_field, e_op, e_if, e_let, e_par, Es, no, and_then, from_of, to_of, Field, Item, nothing, i_use, i_kind, i_rec, i_def, i_bad}
use Rattle.grammar.specs.Code.{count}
use Rattle.semantics.specs.Names.{Ty, t_num, t_bool, t_of, same_ty, Slot, Sig, s_unknown, s_several, s_type, s_const, s_rec, s_def}

-- 1 not understood; 2 no such name; 3 several such names; 4 declared before; 5 another type is wanted; 6 another number of arguments; 7 no such field; 8 this can't stand here; 9 no such file
pub record Fault : Type 0 where
  pub from : ℕ
  pub to : ℕ
  pub sort : ℕ

pub record Typed : Type 0 where
  pub from : ℕ
  pub to : ℕ
  pub ty : Ty

-- a name at a place means: 0 what is declared in that file under that name; 1 the name bound at this place of the line; 2 a file
pub record Link : Type 0 where
  pub from : ℕ
  pub to : ℕ
  pub sort : ℕ
  pub file : Word
  pub name : Word
  pub at : ℕ

-- what is said of an expression or a line: its type, what is wrong, the types of its parts, what its names mean
pub data Said : Type 0 where
  said : Option Ty → List Fault → List Typed → List Link → Said

abbrev pub fault : ℕ → ℕ → ℕ → Fault
fault a b k = record { from = a; to = b; sort = k }

abbrev pub faults_in : Said → List Fault
faults_in (said t fs ts ls) = fs

abbrev pub types_in : Said → List Typed
types_in (said t fs ts ls) = ts

abbrev pub links_in : Said → List Link
links_in (said t fs ts ls) = ls

abbrev pub ty_in : Said → Option Ty
ty_in (said t fs ts ls) = t

abbrev pub quiet : Said
quiet = said none [] [] []

-- both, with the type t
abbrev pub join : Said → Said → Option Ty → Said
join (said t fs ts ls) (said u gs us ms) o = said o (fs ++ gs) (ts ++ us) (ls ++ ms)

abbrev pub wrong : Tok → ℕ → Said
wrong t k = said none (fault t.from t.to k ∷ []) [] []

-- an expression's own type noted behind those of its parts
abbrev pub typed : ℕ → ℕ → Said → Said
typed a b (said o fs ts ls) = said o fs (ts ++ opt o [] (λ t. record { from = a; to = b; ty = t } ∷ [])) ls

-- names bound in the line: parameters and let, the innermost first
pub record Local : Type 0 where
  pub name : Tok
  pub ty : Option Ty

abbrev pub find : List Local → Word → Option Local
find [] w = none
find (x ∷ xs) w = pick (same x.name.w w) (some x) (find xs w)

abbrev pub link_local : Tok → Local → Link
link_local t x = record { from = t.from; to = t.to; sort = 1; file = []; name = t.w; at = x.name.from }

abbrev pub link_to : Tok → Word → Word → Link
link_to t f n = record { from = t.from; to = t.to; sort = 0; file = f; name = n; at = 0 }

abbrev pub Look : Type 0
Look = Word → Sig

-- wanted: nothing is said of what has no type
abbrev pub wants : Ty → ℕ → ℕ → Option Ty → List Fault
wants t a b none = []
wants t a b (some u) = pick (same_ty t u) [] (fault a b 5 ∷ [])

abbrev pub with_faults : Said → List Fault → Said
with_faults (said t gs ts ls) fs = said t (gs ++ fs) ts ls

abbrev pub of_slot : Option Ty → ℕ → ℕ → Option Ty → List Fault
of_slot none a b o = []
of_slot (some t) a b o = wants t a b o

abbrev pub name_alone : Tok → Sig → Said
name_alone t s_unknown = wrong t 2
name_alone t s_several = wrong t 3
name_alone t (s_type f n) = said none (fault t.from t.to 8 ∷ []) [] (link_to t f n ∷ [])
name_alone t (s_const f n o) = said o [] [] (link_to t f n ∷ [])
name_alone t (s_rec f n ss) = said none (fault t.from t.to 8 ∷ []) [] (link_to t f n ∷ [])
name_alone t (s_def f n ss o) = said none (fault t.from t.to 8 ∷ []) [] (link_to t f n ∷ [])

pub data Callee : Type 0 where
  calls_it : Option (List Slot) → Said → Callee

abbrev pub callee : Tok → Sig → Callee
callee t s_unknown = calls_it (none) (wrong t 2)
callee t s_several = calls_it (none) (wrong t 3)
callee t (s_type f n) = calls_it (none) (said none (fault t.from t.to 8 ∷ []) [] (link_to t f n ∷ []))
callee t (s_const f n o) = calls_it (none) (said none (fault t.from t.to 8 ∷ []) [] (link_to t f n ∷ []))
callee t (s_rec f n ss) = calls_it (some ss) (said (some (t_of f n)) [] [] (link_to t f n ∷ []))
callee t (s_def f n ss o) = calls_it (some ss) (said o [] [] (link_to t f n ∷ []))

abbrev pub field_of : List Slot → Word → Option Slot
field_of [] w = none
field_of (s ∷ ss) w = pick (same s.name w) (some s) (field_of ss w)

abbrev pub of_record : (Word → Word → Sig) → Tok → Option Ty → Said
of_record at t none = quiet
of_record at t (some t_num) = wrong t 7
of_record at t (some t_bool) = wrong t 7
of_record at t (some (t_of f n)) = on (at f n)
  where
    on : Sig → Said
    on s_unknown = wrong t 7
    on s_several = wrong t 7
    on (s_type g m) = wrong t 7
    on (s_const g m o) = wrong t 7
    on (s_rec g m ss) = opt (field_of ss t.w) (wrong t 7) (λ s. said s.ty [] [] [])
    on (s_def g m ss o) = wrong t 7

abbrev pub both : Ty → ℕ → ℕ → ℕ → ℕ → Option Ty → Option Ty → List Fault
both t a b c d o p = wants t a b o ++ wants t c d p

abbrev pub op_faults : ℕ → E → E → Option Ty → Option Ty → List Fault
op_faults o a b s t = pick (eqb o 3) (opt s [] (λ u. wants u (from_of b) (to_of b) t)) (pick (leb 5 o) (both t_bool (from_of a) (to_of a) (from_of b) (to_of b) s t) (both t_num (from_of a) (to_of a) (from_of b) (to_of b) s t))

abbrev pub op_type : ℕ → Ty
op_type o = pick (leb 3 o) t_bool t_num

abbrev pub wanted : Option Ty → E → Said → Said
wanted o e (said t fs ts ls) = said t (fs ++ of_slot o (from_of e) (to_of e) t) ts ls

abbrev pub count_fault : Tok → ℕ → Option (List Slot) → List Fault
count_fault f n o = opt o [] (λ ss. pick (eqb (length ss) n) [] (fault f.from f.to 6 ∷ []))

abbrev pub in_front : List Fault → Said → Said
in_front gs (said t fs ts ls) = said t (gs ++ fs) ts ls

abbrev pub with_call : Tok → Es → Callee → (List Slot → Said) → Said
with_call f es (calls_it o s) go = in_front (count_fault f (count es) o) (join s (go (opt o [] (λ ss. ss))) (ty_in s))

-- both, with the second's type
abbrev pub second : Said → Said → Said
second (said t fs ts ls) (said u gs us ms) = said u (fs ++ gs) (ts ++ us) (ls ++ ms)

abbrev pub with_field : Tok → (Word → Word → Sig) → Said → Said
with_field x there (said t fs ts ls) = second (said t fs ts ls) (of_record there x t)

abbrev pub with_op : ℕ → E → E → Said → Said → Said
with_op o a b (said t fs ts ls) (said u gs us ms) = said (some (op_type o)) ((fs ++ gs) ++ op_faults o a b t u) (ts ++ us) (ls ++ ms)

abbrev pub with_if : E → E → E → Said → Said → Said → Said
with_if a b c (said o fs ts ls) (said p gs us ms) (said q hs vs ns) = said (or_else p q) (((fs ++ wants t_bool (from_of a) (to_of a) o) ++ (gs ++ hs)) ++ opt p [] (λ v. wants v (from_of c) (to_of c) q)) (ts ++ (us ++ vs)) (ls ++ (ms ++ ns))

abbrev pub with_let : Said → (Option Ty → Said) → Said
with_let (said t fs ts ls) f = second (said t fs ts ls) (f t)

-- here: what a name means in this file. there: what a name declared in a file is
abbrev mutual
  pub check : Look → (Word → Word → Sig) → List Local → E → Said
  check here there g (e_num t) = typed t.from t.to (said (some t_num) [] [] [])
  check here there g (e_name t) = typed t.from t.to (opt (find g t.w) (name_alone t (here t.w)) (λ x. said x.ty [] [] (link_local t x ∷ [])))
  check here there g (e_call f es n) = typed f.from n (opt (find g f.w) (with_call f es (callee f (here f.w)) (λ ss. checks here there g ss es)) (λ x. join (said none (fault f.from f.to 8 ∷ []) [] (link_local f x ∷ [])) (checks here there g [] es) none))
  check here there g (e_field e x) = typed (from_of e) x.to (with_field x there (check here there g e))
  check here there g (e_op o a b) = typed (from_of a) (to_of b) (with_op o a b (check here there g a) (check here there g b))
  check here there g (e_if n a b c) = typed n (to_of c) (with_if a b c (check here there g a) (check here there g b) (check here there g c))
  check here there g (e_let n x a b) = typed n (to_of b) (with_let (check here there g a) (λ o. check here there (record { name = x; ty = o } ∷ g) b))
  check here there g (e_par n e m) = check here there g e

  -- arguments, wanted as the slots say as far as there are any
  pub checks : Look → (Word → Word → Sig) → List Local → List Slot → Es → Said
  checks here there g ss no = quiet
  checks here there g [] (and_then e es) = join (check here there g e) (checks here there g [] es) none
  checks here there g (s ∷ ss) (and_then e es) = join (wanted s.ty e (check here there g e)) (checks here there g ss es) none

-- a whole line. before: the names that the file declares before it; there1: is there a file of that name; me: the file's own
abbrev pub TypeOf : Type 0
TypeOf = Word → Sig

abbrev pub of_type : Look → Tok → Said
of_type here t = pick (same t.w k_num) (said (some t_num) [] [] []) (pick (same t.w k_bool) (said (some t_bool) [] [] []) (named (here t.w)))
  where
    named : Sig → Said
    named s_unknown = wrong t 2
    named s_several = wrong t 3
    named (s_type f n) = said (some (t_of f n)) [] [] (link_to t f n ∷ [])
    named (s_const f n o) = said none (fault t.from t.to 8 ∷ []) [] (link_to t f n ∷ [])
    named (s_rec f n ss) = said (some (t_of f n)) [] [] (link_to t f n ∷ [])
    named (s_def f n ss o) = said none (fault t.from t.to 8 ∷ []) [] (link_to t f n ∷ [])

abbrev pub again : List Word → Tok → Said
again before t = pick (among t.w before) (wrong t 4) quiet

abbrev pub new_names : List Word → List Tok → Said
new_names before [] = quiet
new_names before (t ∷ ts) = join (again before t) (new_names (before ++ (t.w ∷ [])) ts) none

abbrev pub of_fields : Look → List Word → List Field → Said
of_fields here seen [] = quiet
of_fields here seen (x ∷ xs) = join (again seen x.name) (join (of_type here x.ty) (of_fields here (seen ++ (x.name.w ∷ [])) xs) none) none

abbrev pub locals : Look → List Field → List Local → List Local
locals here [] g = g
locals here (x ∷ xs) g = locals here xs (record { name = x.name; ty = ty_in (of_type here x.ty) } ∷ g)

abbrev pub of_def : Look → (Word → Word → Sig) → List Field → E → Said → Said
of_def here there ps e (said o fs ts ls) = join (said o fs ts ls) (wanted o e (check here there (locals here ps []) e)) none

abbrev pub of_item : Word → Look → (Word → Word → Sig) → (Word → Bool) → List Word → Item → Said
of_item me here there file_there before nothing = quiet
of_item me here there file_there before (i_use t) = pick (file_there t.w && not (same t.w me)) (said none [] [] (record { from = t.from; to = t.to; sort = 2; file = t.w; name = []; at = 0 } ∷ [])) (wrong t 9)
of_item me here there file_there before (i_kind t cs) = new_names before (t ∷ cs)
of_item me here there file_there before (i_rec t fs) = join (again before t) (of_fields here [] fs) none
of_item me here there file_there before (i_def t ps r e) = join (again before t) (join (of_fields here [] ps) (of_def here there ps e (of_type here r)) none) none
of_item me here there file_there before (i_bad a b) = said none (fault a b 1 ∷ []) [] []
