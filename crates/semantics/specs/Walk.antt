-- The checker as one walk over a line's flat code: a stack of frames, the names bound, and an output that only grows.
-- An operation may have to know one thing, its query; the same step serves a walk to which all is known, one that stops at the first
-- thing that isn't, and one that is told answers in the order in which it asks.
use Rattle.std.specs.Prelude.{◌≡◌, Bool, false, ◌&&◌, ◌||◌, not, List, [], ◌∷◌, ◌++◌, ℕ, zero, suc, eqb, leb}
use Rattle.std.proofs.Math.Option.{Option, some, none}
use Rattle.base.specs.Base.{pick, opt, or_else, is_some, Word, same, among}
use Rattle.lexer.specs.Tokens.{Tok}
use Rattle.lexer.specs.Words.{k_num, k_bool}
use Rattle.grammar.specs.Code.{Op, o_num, o_name, o_call, o_arg, o_end, o_field, o_op, o_cond, o_if, o_bind, o_let, o_par, o_use, o_new, o_const, o_slot, o_result, o_body, o_bad}
use Rattle.semantics.specs.Names.{Ty, t_num, t_bool, t_of, Slot, Sig, s_unknown}
use Rattle.semantics.specs.Check.{Fault, Typed, Link, Said, said, fault, faults_in, types_in, links_in, ty_in, typed, Local, find, link_local, wants, of_slot, name_alone, Callee, calls_it, callee, of_record, both, op_type, count_fault, in_front, wrong, quiet, of_type}

-- a frame: a value, its type and place; or a call begun, its result's type, where it begins, the slots that are left
pub record Frame : Type 0 where
  pub ty : Option Ty
  pub from : ℕ
  pub to : ℕ
  pub slots : List Slot

-- what was said so far: faults, the types of parts, what names mean
pub record Output : Type 0 where
  pub faults : List Fault
  pub types : List Typed
  pub links : List Link

-- where a walk stands: the frames, the newest first; the names bound, the innermost first; what was said
pub record State : Type 0 where
  pub stack : List Frame
  pub bound : List Local
  pub out : Output

-- a state from its three parts
abbrev pub state : List Frame → List Local → Output → State
state st g o = record { stack = st; bound = g; out = o }

-- a frame that is a value
abbrev pub value : Option Ty → ℕ → ℕ → Frame
value o a b = record { ty = o; from = a; to = b; slots = [] }

-- the newest frame, and the others
abbrev pub top : List Frame → Frame
top [] = value none 0 0
top (v ∷ vs) = v

abbrev pub pop : {A : Type 0} → List A → List A
pop [] = []
pop (v ∷ vs) = vs

-- what is said of something goes behind what was said
abbrev pub add : Output → Said → Output
add o s = record { faults = o.faults ++ faults_in s; types = o.types ++ types_in s; links = o.links ++ links_in s }

-- s is said of what stands from a to b: its type onto the stack, the rest behind what was said
abbrev pub pushed : ℕ → ℕ → Said → State → State
pushed a b s σ = state (value (ty_in s) a b ∷ σ.stack) σ.bound (add σ.out s)

-- the same from a state's parts
abbrev pub says : ℕ → ℕ → Said → List Frame → List Local → Output → State
says a b s st g o = state (value (ty_in s) a b ∷ st) g (add o s)

-- faults alone
abbrev pub tells : List Fault → Said
tells fs = said none fs [] []

-- the type that the next argument is held against
abbrev pub first_slot : List Slot → Option Ty
first_slot [] = none
first_slot (s ∷ ss) = s.ty

-- an operator's faults, its operands being these two frames
abbrev pub op_faults_at : ℕ → Frame → Frame → List Fault
op_faults_at o a b = pick (eqb o 3) (opt a.ty [] (λ u. wants u b.from b.to b.ty)) (pick (leb 5 o) (both t_bool a.from a.to b.from b.to a.ty b.ty) (both t_num a.from a.to b.from b.to a.ty b.ty))

-- what is called: a name bound in the line can't be
abbrev pub called : List Local → Tok → Sig → Callee
called g f s = opt (find g f.w) (callee f s) (λ x. calls_it none (said none (fault f.from f.to 8 ∷ []) [] (link_local f x ∷ [])))

-- a call of n arguments begins: a frame with the slots to come; fault 6 stands before what is wrong with the name
abbrev pub begins : Tok → ℕ → Callee → List Frame → List Local → Output → State
begins f n (calls_it o c) st g out = state (record { ty = ty_in c; from = f.from; to = f.to; slots = opt o [] (λ ss. ss) } ∷ st) g (add out (in_front (count_fault f n o) c))

-- a name by itself: one bound in the line, else what s says that it means
abbrev pub named : List Local → Tok → Sig → Said
named g t s = opt (find g t.w) (name_alone t s) (λ x. said x.ty [] [] (link_local t x ∷ []))

-- what has to be known: what a name means here; what a name declared in a file is; whether another file has that name; whether the
-- file declares the name before this line
pub data Query : Type 0 where
  q_here : Word → Query
  q_there : Word → Word → Query
  q_file : Word → Query
  q_before : Word → Query

-- what a query is answered by: what a name is, or yes or no
pub data Known : Type 0 where
  k_sig : Sig → Known
  k_yes : Bool → Known

abbrev pub the_sig : Known → Sig
the_sig (k_sig s) = s
the_sig (k_yes b) = s_unknown

abbrev pub is_so : Known → Bool
is_so (k_sig s) = false
is_so (k_yes b) = b

-- a name asks what it means here, unless it is bound in the line
abbrev pub asks_name : List Local → Word → Option Query
asks_name g w = opt (find g w) (some (q_here w)) (λ x. none)

-- a field asks what its record is, if there is one to ask for
abbrev pub asks_type : Option Ty → Option Query
asks_type none = none
asks_type (some t_num) = none
asks_type (some t_bool) = none
asks_type (some (t_of f n)) = some (q_there f n)

-- a word where a type has to be asks what it means here, unless it is num or bool
abbrev pub asks_word : Word → Option Query
asks_word w = pick (same w k_num) none (pick (same w k_bool) none (some (q_here w)))

-- at most one thing for each operation
abbrev pub asks : Op → State → Option Query
asks (o_num t) σ = none
asks (o_name t) σ = asks_name σ.bound t.w
asks (o_call f n) σ = asks_name σ.bound f.w
asks o_arg σ = none
asks (o_end n) σ = none
asks (o_field x) σ = asks_type (top σ.stack).ty
asks (o_op o) σ = none
asks o_cond σ = none
asks (o_if n) σ = none
asks (o_bind x) σ = none
asks (o_let n) σ = none
asks (o_par n m) σ = none
asks (o_use t) σ = some (q_file t.w)
asks (o_new t) σ = some (q_before t.w)
asks (o_const t) σ = some (q_before t.w)
asks (o_slot x) σ = asks_word x.ty.w
asks (o_result r) σ = asks_word r.w
asks o_body σ = none
asks (o_bad a b) σ = none

-- fault 4 at a name that was there before, or that is bound in the line already
abbrev pub twice : Bool → Tok → List Local → Said
twice b t g = pick (b || is_some (find g t.w)) (wrong t 4) quiet

-- a name bound in the line, with its type
abbrev pub local_of : Tok → Option Ty → Local
local_of t o = record { name = t; ty = o }

-- one operation, told what it asked; z means nothing where it asked nothing
abbrev pub step : Known → Op → State → State
step z (o_num t) σ = says t.from t.to (typed t.from t.to (said (some t_num) [] [] [])) σ.stack σ.bound σ.out
step z (o_name t) σ = says t.from t.to (typed t.from t.to (named σ.bound t (the_sig z))) σ.stack σ.bound σ.out
step z (o_call f n) σ = begins f n (called σ.bound f (the_sig z)) σ.stack σ.bound σ.out
step z o_arg σ = let v = top σ.stack in let k = top (pop σ.stack) in state (record { ty = k.ty; from = k.from; to = k.to; slots = pop k.slots } ∷ pop (pop σ.stack)) σ.bound (add σ.out (tells (of_slot (first_slot k.slots) v.from v.to v.ty)))
step z (o_end n) σ = let k = top σ.stack in says k.from n (typed k.from n (said k.ty [] [] [])) (pop σ.stack) σ.bound σ.out
step z (o_field x) σ = let v = top σ.stack in says v.from x.to (typed v.from x.to (of_record (λ f n. the_sig z) x v.ty)) (pop σ.stack) σ.bound σ.out
step z (o_op o) σ = let b = top σ.stack in let a = top (pop σ.stack) in says a.from b.to (typed a.from b.to (said (some (op_type o)) (op_faults_at o a b) [] [])) (pop (pop σ.stack)) σ.bound σ.out
step z o_cond σ = let v = top σ.stack in state (pop σ.stack) σ.bound (add σ.out (tells (wants t_bool v.from v.to v.ty)))
step z (o_if n) σ = let c = top σ.stack in let b = top (pop σ.stack) in says n c.to (typed n c.to (said (or_else b.ty c.ty) (opt b.ty [] (λ v. wants v c.from c.to c.ty)) [] [])) (pop (pop σ.stack)) σ.bound σ.out
step z (o_bind x) σ = let v = top σ.stack in state (pop σ.stack) (record { name = x; ty = v.ty } ∷ σ.bound) σ.out
step z (o_let n) σ = let v = top σ.stack in says n v.to (typed n v.to (said v.ty [] [] [])) (pop σ.stack) (pop σ.bound) σ.out
step z (o_par n m) σ = let v = top σ.stack in state (value v.ty n m ∷ pop σ.stack) σ.bound σ.out
step z (o_use t) σ = state σ.stack σ.bound (add σ.out (pick (is_so z) (said none [] [] (record { from = t.from; to = t.to; sort = 2; file = t.w; name = []; at = 0 } ∷ [])) (wrong t 9)))
step z (o_new t) σ = state σ.stack σ.bound (add σ.out (twice (is_so z) t []))
step z (o_const t) σ = state σ.stack (local_of t none ∷ σ.bound) (add σ.out (twice (is_so z) t σ.bound))
step z (o_slot x) σ = let s = of_type (λ w. the_sig z) x.ty in state σ.stack (local_of x.name (ty_in s) ∷ σ.bound) (add (add σ.out (twice false x.name σ.bound)) s)
step z (o_result r) σ = let s = of_type (λ w. the_sig z) r in says r.from r.to s σ.stack σ.bound σ.out
step z o_body σ = let v = top σ.stack in let k = top (pop σ.stack) in state (pop (pop σ.stack)) σ.bound (add σ.out (tells (of_slot k.ty v.from v.to v.ty)))
step z (o_bad a b) σ = state σ.stack σ.bound (add σ.out (said none (fault a b 1 ∷ []) [] []))

-- the walk, all being known
-- what an operation is told: where it asks nothing, something that it doesn't look at
abbrev pub told : (Query → Known) → Option Query → Known
told f q = opt q (k_yes false) f

abbrev pub run : (Query → Known) → List Op → State → State
run f [] σ = σ
run f (o ∷ os) σ = run f os (step (told f (asks o σ)) o σ)

-- all that it asks, in order
abbrev pub asked : (Query → Known) → List Op → State → List Query
asked f [] σ = []
asked f (o ∷ os) σ = opt (asks o σ) [] (λ q. q ∷ []) ++ asked f os (step (told f (asks o σ)) o σ)

-- the walk that stops at the first thing that isn't known, with what is to be asked then: a key of some sort
pub data Fetch (K : Type 0) : Type 0 where
  lacks : K → Fetch K
  has : Known → Fetch K

pub data Outcome (K : Type 0) : Type 0 where
  need : K → Outcome K
  ends : State → Outcome K

-- what the operation is told, or what is lacking for it
abbrev pub fetch : {K : Type 0} → (Query → Fetch K) → Option Query → Fetch K
fetch l none = has (k_yes false)
fetch l (some q) = l q

abbrev pub go_on : {K : Type 0} → Fetch K → (Known → Outcome K) → Outcome K
go_on (lacks q) f = need q
go_on (has s) f = f s

-- the walk where not all is known
abbrev pub tries : {K : Type 0} → (Query → Fetch K) → List Op → State → Outcome K
tries l [] σ = ends σ
tries l (o ∷ os) σ = go_on (fetch l (asks o σ)) (λ s. tries l os (step s o σ))

-- what there is to know, from the definition's functions
abbrev pub answer : Word → (Word → Sig) → (Word → Word → Sig) → (Word → Bool) → List Word → Query → Known
answer me here there file_there before (q_here w) = k_sig (here w)
answer me here there file_there before (q_there f n) = k_sig (there f n)
answer me here there file_there before (q_file w) = k_yes (file_there w && not (same w me))
answer me here there file_there before (q_before w) = k_yes (among w before)

-- nothing said; and the state in which a line's walk begins
abbrev pub silent : Output
silent = record { faults = []; types = []; links = [] }

abbrev pub start : State
start = state [] [] silent

-- the key that the first of these lacks
abbrev pub or_lacks : {K : Type 0} → Fetch K → Option K → Option K
or_lacks (lacks k) r = some k
or_lacks (has s) r = r

abbrev pub first_lacking : {K : Type 0} → (Query → Fetch K) → List Query → Option K
first_lacking l [] = none
first_lacking l (q ∷ qs) = or_lacks (l q) (first_lacking l qs)

-- what is known is so
abbrev pub Agrees : {K : Type 0} → (Query → Fetch K) → (Query → Known) → Type 0
Agrees l f = (q : Query) (s : Known) → l q ≡ has s → s ≡ f q

-- the walk told the answers in the order in which it asks
abbrev pub next_told : List Known → Option Query → (Known → List Known → Outcome Query) → Outcome Query
next_told as₁ none h = h (k_yes false) as₁
next_told [] (some q) h = need q
next_told (a ∷ as₁) (some q) h = h a as₁

abbrev pub walk : List Op → List Known → State → Outcome Query
walk [] as₁ σ = ends σ
walk (o ∷ os) as₁ σ = next_told as₁ (asks o σ) (λ z bs. walk os bs (step z o σ))

-- the answers to queries, in order; and what stands at a place of a list
abbrev pub all_told : (Query → Known) → List Query → List Known
all_told f [] = []
all_told f (q ∷ qs) = f q ∷ all_told f qs

abbrev pub at_place : {A : Type 0} → ℕ → List A → Option A
at_place n [] = none
at_place zero (x ∷ xs) = some x
at_place (suc n) (x ∷ xs) = at_place n xs
