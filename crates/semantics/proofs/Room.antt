-- How much room a walk takes: for each operation one frame, two faults, one type, one link.
use mathlib.Core.Path.{◌≡◌, refl, ap}
use mathlib.Core.Bool.{Bool, true, false, ◌||◌}
use mathlib.Core.List.{List, [], ◌∷◌, ◌++◌}
use mathlib.Core.Option.{Option, some, none}
use Prim.Native.Nat.{ℕ, suc, ◌+◌, ◌*◌, ◌≤◌}
use native.Mathlib.Omega.{arith}
use lib.ListN.{length, length-append}
use lib.Dec.{eqb, leb}
use Rattle.base.specs.Base.{pick, opt, or_else, is_some, same}
use Rattle.lexer.specs.Tokens.{Tok}
use Rattle.lexer.specs.Words.{k_num, k_bool}
use Rattle.grammar.specs.Code.{Op, o_num, o_name, o_call, o_arg, o_end, o_field, o_op, o_cond, o_if, o_bind, o_let, o_par, o_use, o_new, o_const, o_slot, o_result, o_body, o_bad}
use Rattle.semantics.specs.Names.{Ty, t_num, t_bool, t_of, same_ty, Slot, Sig, s_unknown, s_several, s_type, s_const, s_rec, s_def}
use Rattle.semantics.specs.Check.{Fault, Link, Said, said, fault, faults_in, types_in, links_in, typed, Local, find, wants, of_slot, name_alone, Callee, calls_it, callee, of_record, both, op_type, count_fault, in_front, wrong, quiet, of_type, field_of, link_local}
use Rattle.semantics.specs.Walk.{Frame, State, top, pop, add, step, Known, the_sig, is_so, named, called, begins, op_faults_at, first_slot, tells, twice, state, Query, run, asks, told}

abbrev Small : ℕ → ℕ → Said → Type 0
Small f t s = (length (faults_in s) ≤ f) × (length (types_in s) ≤ t) × (length (links_in s) ≤ 1)

wants_1 : (t : Ty) (a b : ℕ) (o : Option Ty) → length (wants t a b o) ≤ 1
wants_1 t a b none = omega arith
wants_1 t a b (some u) = go (same_ty t u)
  where
    go : (x : Bool) → length (pick x [] (fault a b 5 ∷ [])) ≤ 1
    go true = omega arith
    go false = omega arith

slot_1 : (o : Option Ty) (a b : ℕ) (u : Option Ty) → length (of_slot o a b u) ≤ 1
slot_1 none a b u = omega arith
slot_1 (some t) a b u = wants_1 t a b u

opt_1 : (o : Option Ty) (a b : ℕ) (u : Option Ty) → length (opt o [] (λ v. wants v a b u)) ≤ 1
opt_1 none a b u = omega arith
opt_1 (some t) a b u = wants_1 t a b u

both_2 : (t : Ty) (a b c d : ℕ) (o u : Option Ty) → length (both t a b c d o u) ≤ 2
both_2 t a b c d o u = omega (arith, length-append (wants t a b o) (wants t c d u), wants_1 t a b o, wants_1 t c d u)

op_2 : (o : ℕ) (a b : Frame) → length (op_faults_at o a b) ≤ 2
op_2 o a b = go (eqb o 3) (leb 5 o)
  where
    go : (x y : Bool) → length (pick x (opt a.ty [] (λ u. wants u b.from b.to b.ty)) (pick y (both t_bool a.from a.to b.from b.to a.ty b.ty) (both t_num a.from a.to b.from b.to a.ty b.ty))) ≤ 2
    go true y = omega (arith, opt_1 a.ty b.from b.to b.ty)
    go false true = both_2 t_bool a.from a.to b.from b.to a.ty b.ty
    go false false = both_2 t_num a.from a.to b.from b.to a.ty b.ty

alone_small : (t : Tok) (s : Sig) → Small 1 0 (name_alone t s)
alone_small t s_unknown = omega arith
alone_small t s_several = omega arith
alone_small t (s_type f n) = omega arith
alone_small t (s_const f n o) = omega arith
alone_small t (s_rec f n ss) = omega arith
alone_small t (s_def f n ss o) = omega arith

named_small : (g : List Local) (t : Tok) (s : Sig) → Small 1 0 (named g t s)
named_small g t s = go (find g t.w)
  where
    go : (m : Option Local) → Small 1 0 (opt m (name_alone t s) (λ x. said x.ty [] [] (link_local t x ∷ [])))
    go none = alone_small t s
    go (some x) = omega arith

record_small : (s : Sig) (t : Tok) (o : Option Ty) → Small 1 0 (of_record (λ f n. s) t o)
record_small s t none = omega arith
record_small s t (some t_num) = omega arith
record_small s t (some t_bool) = omega arith
record_small s_unknown t (some (t_of f n)) = omega arith
record_small s_several t (some (t_of f n)) = omega arith
record_small (s_type g m) t (some (t_of f n)) = omega arith
record_small (s_const g m o) t (some (t_of f n)) = omega arith
record_small (s_rec g m ss) t (some (t_of f n)) = go (field_of ss t.w)
  where
    go : (x : Option Slot) → Small 1 0 (opt x (wrong t 7) (λ s. said s.ty [] [] []))
    go none = omega arith
    go (some s) = omega arith
record_small (s_def g m ss o) t (some (t_of f n)) = omega arith

typed_small : (a b f : ℕ) (s : Said) → Small f 0 s → Small f 1 (typed a b s)
typed_small a b f (said none fs ts ls) h = omega (arith, length-append ts [])
typed_small a b f (said (some t) fs ts ls) h = omega (arith, length-append ts (record { from = a; to = b; ty = t } ∷ []))

pick_small : (f t : ℕ) (b : Bool) (x y : Said) → Small f t x → Small f t y → Small f t (pick b x y)
pick_small f t true x y p q = p
pick_small f t false x y p q = q

type_small : (s : Sig) (t : Tok) → Small 1 0 (of_type (λ w. s) t)
type_small s_unknown t = pick_small 1 0 (same t.w k_num) _ _ (omega arith) (pick_small 1 0 (same t.w k_bool) _ _ (omega arith) (omega arith))
type_small s_several t = pick_small 1 0 (same t.w k_num) _ _ (omega arith) (pick_small 1 0 (same t.w k_bool) _ _ (omega arith) (omega arith))
type_small (s_type f n) t = pick_small 1 0 (same t.w k_num) _ _ (omega arith) (pick_small 1 0 (same t.w k_bool) _ _ (omega arith) (omega arith))
type_small (s_const f n o) t = pick_small 1 0 (same t.w k_num) _ _ (omega arith) (pick_small 1 0 (same t.w k_bool) _ _ (omega arith) (omega arith))
type_small (s_rec f n ss) t = pick_small 1 0 (same t.w k_num) _ _ (omega arith) (pick_small 1 0 (same t.w k_bool) _ _ (omega arith) (omega arith))
type_small (s_def f n ss o) t = pick_small 1 0 (same t.w k_num) _ _ (omega arith) (pick_small 1 0 (same t.w k_bool) _ _ (omega arith) (omega arith))

-- from one state to the next
pub record Room (σ τ : State) : Type 0 where
  pub frames : length τ.stack ≤ suc (length σ.stack)
  pub faults : length τ.out.faults ≤ length σ.out.faults + 2
  pub types : length τ.out.types ≤ length σ.out.types + 1
  pub links : length τ.out.links ≤ length σ.out.links + 1

pop_1 : (xs : List Frame) → length (pop xs) ≤ length xs
pop_1 [] = omega arith
pop_1 (x ∷ xs) = omega arith

pop_under : (xs : List Frame) → suc (length (pop xs)) ≤ suc (length xs)
pop_under xs = omega (arith, pop_1 xs)

pop_under_2 : (xs : List Frame) → suc (length (pop (pop xs))) ≤ suc (length xs)
pop_under_2 xs = omega (arith, pop_1 xs, pop_1 (pop xs))

said_room : (σ : State) (st : List Frame) (g : List Local) (s : Said) → length st ≤ suc (length σ.stack) → Small 2 1 s → Room σ (state st g (add σ.out s))
said_room σ st g s h k = record { frames = h; faults = omega (arith, length-append σ.out.faults (faults_in s)); types = omega (arith, length-append σ.out.types (types_in s)); links = omega (arith, length-append σ.out.links (links_in s)) }

same_room : (σ : State) (st : List Frame) (g : List Local) → length st ≤ suc (length σ.stack) → Room σ (state st g σ.out)
same_room σ st g h = record { frames = h; faults = omega arith; types = omega arith; links = omega arith }

more_small : (f t : ℕ) (s : Said) → f ≤ 2 → t ≤ 1 → Small f t s → Small 2 1 s
more_small f t s p q h = omega arith

abbrev Right : Callee → Type 0
Right (calls_it none c) = Small 1 0 c
Right (calls_it (some ss) c) = Small 0 0 c

callee_right : (f : Tok) (s : Sig) → Right (callee f s)
callee_right f s_unknown = omega arith
callee_right f s_several = omega arith
callee_right f (s_type g n) = omega arith
callee_right f (s_const g n o) = omega arith
callee_right f (s_rec g n ss) = omega arith
callee_right f (s_def g n ss o) = omega arith

called_right : (g : List Local) (f : Tok) (s : Sig) → Right (called g f s)
called_right g f s = go (find g f.w)
  where
    go : (m : Option Local) → Right (opt m (callee f s) (λ x. calls_it none (said none (fault f.from f.to 8 ∷ []) [] (link_local f x ∷ []))))
    go none = callee_right f s
    go (some x) = omega arith

front_small : (f : Tok) (n : ℕ) (ss : List Slot) (c : Said) → Small 0 0 c → Small 1 0 (in_front (count_fault f n (some ss)) c)
front_small f n ss (said t fs ts ls) h = go (eqb (length ss) n)
  where
    go : (b : Bool) → Small 1 0 (said t (pick b [] (fault f.from f.to 6 ∷ []) ++ fs) ts ls)
    go true = omega arith
    go false = omega arith

front_none : (f : Tok) (n : ℕ) (c : Said) → Small 1 0 c → Small 1 0 (in_front (count_fault f n none) c)
front_none f n (said t fs ts ls) h = h

begins_room : (f : Tok) (n : ℕ) (k : Callee) (σ : State) → Right k → Room σ (begins f n k σ.stack σ.bound σ.out)
begins_room f n (calls_it none c) σ h = said_room σ _ _ (in_front (count_fault f n none) c) (omega arith) (more_small 1 0 (in_front (count_fault f n none) c) (omega arith) (omega arith) (front_none f n c h))
begins_room f n (calls_it (some ss) c) σ h = said_room σ _ _ (in_front (count_fault f n (some ss)) c) (omega arith) (more_small 1 0 (in_front (count_fault f n (some ss)) c) (omega arith) (omega arith) (front_small f n ss c h))

twice_small : (b : Bool) (t : Tok) (g : List Local) → (length (faults_in (twice b t g)) ≤ 1) × (types_in (twice b t g) ≡ []) × (links_in (twice b t g) ≡ [])
twice_small b t g = go (b || is_some (find g t.w))
  where
    go : (x : Bool) → (length (faults_in (pick x (wrong t 4) quiet)) ≤ 1) × (types_in (pick x (wrong t 4) quiet) ≡ []) × (links_in (pick x (wrong t 4) quiet) ≡ [])
    go true = (omega arith, refl, refl)
    go false = (omega arith, refl, refl)

tells_small : (fs : List Fault) → length fs ≤ 2 → Small 2 1 (tells fs)
tells_small fs h = (h, omega arith, omega arith)

typed_faults : (a b : ℕ) (o : Option Ty) (fs : List Fault) → length fs ≤ 2 → Small 2 1 (typed a b (said o fs [] []))
typed_faults a b o fs h = typed_small a b 2 (said o fs [] []) (h, omega arith, omega arith)

once_small : (b : Bool) (t : Tok) (g : List Local) → Small 2 1 (twice b t g)
once_small b t g = let h = twice_small b t g in (omega (arith, h), omega (arith, ap length h.1), omega (arith, ap length h.2))

slot_room : (σ : State) (g : List Local) (x y : Said) → (length (faults_in x) ≤ 1) × (types_in x ≡ []) × (links_in x ≡ []) → Small 1 0 y → Room σ (state σ.stack g (add (add σ.out x) y))
slot_room σ g x y h k = record { frames = omega arith; faults = omega (arith, length-append (σ.out.faults ++ faults_in x) (faults_in y), length-append σ.out.faults (faults_in x)); types = omega (arith, length-append (σ.out.types ++ types_in x) (types_in y), length-append σ.out.types (types_in x), ap length h.1); links = omega (arith, length-append (σ.out.links ++ links_in x) (links_in y), length-append σ.out.links (links_in x), ap length h.2) }

use_small : (b : Bool) (t : Tok) (l : Link) → Small 2 1 (pick b (said none [] [] (l ∷ [])) (wrong t 9))
use_small true t l = omega arith
use_small false t l = omega arith

pub step_room : (z : Known) (o : Op) (σ : State) → Room σ (step z o σ)
step_room z (o_num t) σ = said_room σ _ _ (typed t.from t.to (said (some t_num) [] [] [])) (omega arith) (typed_faults t.from t.to (some t_num) [] (omega arith))
step_room z (o_name t) σ = said_room σ _ _ (typed t.from t.to (named σ.bound t (the_sig z))) (omega arith) (more_small 1 1 (typed t.from t.to (named σ.bound t (the_sig z))) (omega arith) (omega arith) (typed_small t.from t.to 1 (named σ.bound t (the_sig z)) (named_small σ.bound t (the_sig z))))
step_room z (o_call f n) σ = begins_room f n (called σ.bound f (the_sig z)) σ (called_right σ.bound f (the_sig z))
step_room z o_arg σ = let v = top σ.stack in let k = top (pop σ.stack) in said_room σ _ _ (tells (of_slot (first_slot k.slots) v.from v.to v.ty)) (pop_under_2 σ.stack) (tells_small (of_slot (first_slot k.slots) v.from v.to v.ty) (omega (arith, slot_1 (first_slot k.slots) v.from v.to v.ty)))
step_room z (o_end n) σ = let k = top σ.stack in said_room σ _ _ (typed k.from n (said k.ty [] [] [])) (pop_under σ.stack) (typed_faults k.from n k.ty [] (omega arith))
step_room z (o_field x) σ = let v = top σ.stack in said_room σ _ _ (typed v.from x.to (of_record (λ f n. the_sig z) x v.ty)) (pop_under σ.stack) (more_small 1 1 (typed v.from x.to (of_record (λ f n. the_sig z) x v.ty)) (omega arith) (omega arith) (typed_small v.from x.to 1 (of_record (λ f n. the_sig z) x v.ty) (record_small (the_sig z) x v.ty)))
step_room z (o_op o) σ = let b = top σ.stack in let a = top (pop σ.stack) in said_room σ _ _ (typed a.from b.to (said (some (op_type o)) (op_faults_at o a b) [] [])) (pop_under_2 σ.stack) (typed_faults a.from b.to (some (op_type o)) (op_faults_at o a b) (op_2 o a b))
step_room z o_cond σ = let v = top σ.stack in said_room σ _ _ (tells (wants t_bool v.from v.to v.ty)) (omega (arith, pop_1 σ.stack)) (tells_small (wants t_bool v.from v.to v.ty) (omega (arith, wants_1 t_bool v.from v.to v.ty)))
step_room z (o_if n) σ = let c = top σ.stack in let b = top (pop σ.stack) in said_room σ _ _ (typed n c.to (said (or_else b.ty c.ty) (opt b.ty [] (λ v. wants v c.from c.to c.ty)) [] [])) (pop_under_2 σ.stack) (typed_faults n c.to (or_else b.ty c.ty) (opt b.ty [] (λ v. wants v c.from c.to c.ty)) (omega (arith, opt_1 b.ty c.from c.to c.ty)))
step_room z (o_bind x) σ = same_room σ (pop σ.stack) _ (omega (arith, pop_1 σ.stack))
step_room z (o_let n) σ = let v = top σ.stack in said_room σ _ _ (typed n v.to (said v.ty [] [] [])) (pop_under σ.stack) (typed_faults n v.to v.ty [] (omega arith))
step_room z (o_par n m) σ = same_room σ _ _ (pop_under σ.stack)
step_room z (o_use t) σ = said_room σ _ _ (pick (is_so z) (said none [] [] (record { from = t.from; to = t.to; sort = 2; file = t.w; name = []; at = 0 } ∷ [])) (wrong t 9)) (omega arith) (use_small (is_so z) t _)
step_room z (o_new t) σ = said_room σ _ _ (twice (is_so z) t []) (omega arith) (once_small (is_so z) t [])
step_room z (o_const t) σ = said_room σ _ _ (twice (is_so z) t σ.bound) (omega arith) (once_small (is_so z) t σ.bound)
step_room z (o_slot x) σ = slot_room σ _ (twice false x.name σ.bound) (of_type (λ w. the_sig z) x.ty) (twice_small false x.name σ.bound) (type_small (the_sig z) x.ty)
step_room z (o_result r) σ = said_room σ _ _ (of_type (λ w. the_sig z) r) (omega arith) (more_small 1 0 (of_type (λ w. the_sig z) r) (omega arith) (omega arith) (type_small (the_sig z) r))
step_room z o_body σ = let v = top σ.stack in let k = top (pop σ.stack) in said_room σ _ _ (tells (of_slot k.ty v.from v.to v.ty)) (omega (arith, pop_1 σ.stack, pop_1 (pop σ.stack))) (tells_small (of_slot k.ty v.from v.to v.ty) (omega (arith, slot_1 k.ty v.from v.to v.ty)))
step_room z (o_bad a b) σ = said_room σ _ _ (said none (fault a b 1 ∷ []) [] []) (omega arith) (omega arith)

-- a whole walk
pub record Grown (n : ℕ) (σ τ : State) : Type 0 where
  pub frames : length τ.stack ≤ length σ.stack + n
  pub faults : length τ.out.faults ≤ length σ.out.faults + 2 * n
  pub types : length τ.out.types ≤ length σ.out.types + n
  pub links : length τ.out.links ≤ length σ.out.links + n

pub run_room : (f : Query → Known) (os : List Op) (σ : State) → Grown (length os) σ (run f os σ)
run_room f [] σ = record { frames = omega arith; faults = omega arith; types = omega arith; links = omega arith }
run_room f (o ∷ os) σ =
    let τ = step (told f (asks o σ)) o σ in
    let a = step_room (told f (asks o σ)) o σ in
    let b = run_room f os τ in
    let a1 : length τ.stack ≤ suc (length σ.stack) = a.frames in
    let a2 : length τ.out.faults ≤ length σ.out.faults + 2 = a.faults in
    let a3 : length τ.out.types ≤ length σ.out.types + 1 = a.types in
    let a4 : length τ.out.links ≤ length σ.out.links + 1 = a.links in
    let b1 : length (run f os τ).stack ≤ length τ.stack + length os = b.frames in
    let b2 : length (run f os τ).out.faults ≤ length τ.out.faults + 2 * length os = b.faults in
    let b3 : length (run f os τ).out.types ≤ length τ.out.types + length os = b.types in
    let b4 : length (run f os τ).out.links ≤ length τ.out.links + length os = b.links in
    record { frames = omega arith; faults = omega arith; types = omega arith; links = omega arith }
