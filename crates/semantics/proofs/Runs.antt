-- The walk over an expression's code says what the definition says of the expression.
use mathlib.Core.Path.{◌≡◌, refl, ap, sym, ◌∙◌}
use mathlib.Core.Bool.{Bool, false}
use mathlib.Core.List.{List, [], ◌∷◌, ◌++◌, append_assoc, append-nil}
use mathlib.Core.Option.{Option, some, none}
use Prim.Native.Nat.{ℕ}
use Rattle.base.specs.Base.{opt, Word}
use Rattle.lexer.specs.Tokens.{Tok}
use Rattle.grammar.specs.Grammar.{E, e_num, e_name, e_call, e_field, e_op, e_if, e_let, e_par, Es, no, and_then, from_of, to_of}
use Rattle.grammar.specs.Code.{count, Op, o_arg, o_end, o_field, o_op, o_cond, o_if, o_bind, o_let, o_par, onto, ontos}
use Rattle.semantics.specs.Names.{Ty, t_num, t_bool, t_of, Slot, Sig}
use Rattle.semantics.specs.Check.{Fault, Typed, Link, Said, said, fault, ty_in, typed, Local, find, link_local, wants, of_slot, name_alone, Callee, calls_it, callee, of_record, count_fault, in_front, check, checks, quiet, join, wanted, with_call, with_field, with_op, with_if, with_let, second}
use Rattle.semantics.specs.Walk.{Frame, Output, state, value, pop, add, pushed, says, tells, begins, Query, q_here, asks_type, step, told, run, answer, Known, k_yes, the_sig}

-- lists
pub cat_3 : {A : Type 0} (a b c d : List A) → ((a ++ b) ++ c) ++ d ≡ a ++ ((b ++ c) ++ d)
cat_3 a b c d = simp append_assoc

pub cat_2 : {A : Type 0} (a b c : List A) → (a ++ b) ++ c ≡ a ++ (b ++ c)
cat_2 a b c = append_assoc a b c

pub cat_3_nil : {A : Type 0} (a b c : List A) → ((a ++ b) ++ c) ++ [] ≡ a ++ (b ++ c)
cat_3_nil a b c = simp (append_assoc, append-nil)

pub cat_2_nil : {A : Type 0} (a b : List A) → (a ++ b) ++ [] ≡ a ++ b
cat_2_nil a b = append-nil (a ++ b)

pub cat_if : {A : Type 0} (a b c d e f : List A) → ((((a ++ b) ++ c) ++ d) ++ e) ++ f ≡ a ++ (((b ++ c) ++ (d ++ e)) ++ f)
cat_if a b c d e f = simp append_assoc

pub cat_if_types : {A : Type 0} (a b d e f : List A) → ((((a ++ b) ++ []) ++ d) ++ e) ++ f ≡ a ++ ((b ++ (d ++ e)) ++ f)
cat_if_types a b d e f = simp (append_assoc, append-nil)

pub cat_if_links : {A : Type 0} (a b d e : List A) → ((((a ++ b) ++ []) ++ d) ++ e) ++ [] ≡ a ++ (b ++ (d ++ e))
cat_if_links a b d e = simp (append_assoc, append-nil)

pub cat_2_2 : {A : Type 0} (a b c d : List A) → (a ++ b) ++ (c ++ d) ≡ a ++ ((b ++ c) ++ d)
cat_2_2 a b c d = simp append_assoc

pub cat_call : {A : Type 0} (a c f b : List A) → ((a ++ (c ++ f)) ++ b) ++ [] ≡ a ++ (c ++ (f ++ b))
cat_call a c f b = simp (append_assoc, append-nil)

-- the same state if the outputs are the same
pub outs : (st : List Frame) (g : List Local) (a a' : List Fault) (b b' : List Typed) (c c' : List Link) → a ≡ a' → b ≡ b' → c ≡ c' → state st g (record { faults = a; types = b; links = c }) ≡ state st g (record { faults = a'; types = b'; links = c' })
outs st g a a' b b' c c' p q r = λ i. state st g (record { faults = p i; types = q i; links = r i })

-- ways through the walk, each over any Said
op_step : (z : Known) (o : ℕ) (ea eb : E) (x y : Said) (st : List Frame) (g : List Local) (out : Output) → step z (o_op o) (pushed (from_of eb) (to_of eb) y (pushed (from_of ea) (to_of ea) x (state st g out))) ≡ pushed (from_of ea) (to_of eb) (typed (from_of ea) (to_of eb) (with_op o ea eb x y)) (state st g out)
op_step z o ea eb (said t fs ts ls) (said u gs us ms) st g out = outs _ _ _ _ _ _ _ _ (cat_3 out.faults fs gs _) (cat_3 out.types ts us _) (cat_3_nil out.links ls ms)

if_step : (z : Known) (n : ℕ) (ea eb ec : E) (x y w : Said) (st : List Frame) (g : List Local) (out : Output) → step z (o_if n) (pushed (from_of ec) (to_of ec) w (pushed (from_of eb) (to_of eb) y (step z o_cond (pushed (from_of ea) (to_of ea) x (state st g out))))) ≡ pushed n (to_of ec) (typed n (to_of ec) (with_if ea eb ec x y w)) (state st g out)
if_step z n ea eb ec (said t fs ts ls) (said u gs us ms) (said v hs vs ns) st g out = outs _ _ _ _ _ _ _ _ (cat_if out.faults fs _ gs hs _) (cat_if_types out.types ts us vs _) (cat_if_links out.links ls ms ns)

second_step : (a b : ℕ) (x y : Said) (st : List Frame) (g : List Local) (out : Output) → says a b (typed a b y) st g (add out x) ≡ pushed a b (typed a b (second x y)) (state st g out)
second_step a b (said t fs ts ls) (said u gs us ms) st g out = outs _ _ _ _ _ _ _ _ (cat_2 out.faults fs gs) (cat_2_2 out.types ts us _) (cat_2 out.links ls ms)

let_step : (z : Known) (n : ℕ) (eb : E) (l : Local) (x y : Said) (st : List Frame) (g : List Local) (out : Output) → step z (o_let n) (pushed (from_of eb) (to_of eb) y (state st (l ∷ g) (add out x))) ≡ pushed n (to_of eb) (typed n (to_of eb) (second x y)) (state st g out)
let_step z n eb l (said t fs ts ls) (said u gs us ms) st g out = outs _ _ _ _ _ _ _ _ (cat_3_nil out.faults fs gs) (cat_3 out.types ts us _) (cat_3_nil out.links ls ms)

-- a call
abbrev pub opened : Option Ty → ℕ → ℕ → List Slot → Frame
opened o a b ss = record { ty = o; from = a; to = b; slots = ss }

abbrev pub left : List Slot → Es → List Slot
left ss no = ss
left ss (and_then e es) = left (pop ss) es

in_front_nil : (s : Said) → in_front [] s ≡ s
in_front_nil (said t fs ts ls) = refl

end_step : (z : Known) (a b n : ℕ) (cf : List Fault) (c s : Said) (ss : List Slot) (st : List Frame) (g : List Local) (out : Output) → step z (o_end n) (state (opened (ty_in c) a b ss ∷ st) g (add (add out (in_front cf c)) s)) ≡ pushed a n (typed a n (in_front cf (join c s (ty_in c)))) (state st g out)
end_step z a b n cf (said t fs ts ls) (said u gs us ms) ss st g out = outs _ _ _ _ _ _ _ _ (cat_call out.faults cf fs gs) (cat_3 out.types ts us _) (cat_3_nil out.links ls ms)

arg_step_nil : (z : Known) (e : E) (x s : Said) (o : Option Ty) (a b : ℕ) (ws : List Slot) (st : List Frame) (g : List Local) (out : Output) → state (opened o a b ws ∷ st) g (add (step z o_arg (pushed (from_of e) (to_of e) x (state (opened o a b [] ∷ st) g out))).out s) ≡ state (opened o a b ws ∷ st) g (add out (join x s none))
arg_step_nil z e (said t fs ts ls) (said u gs us ms) o a b ws st g out = outs _ _ _ _ _ _ _ _ (ap (λ k. k ++ gs) (append-nil (out.faults ++ fs)) ∙ cat_2 out.faults fs gs) (ap (λ k. k ++ us) (append-nil (out.types ++ ts)) ∙ cat_2 out.types ts us) (ap (λ k. k ++ ms) (append-nil (out.links ++ ls)) ∙ cat_2 out.links ls ms)

arg_step : (z : Known) (e : E) (x s : Said) (o : Option Ty) (a b : ℕ) (v : Slot) (vs ws : List Slot) (st : List Frame) (g : List Local) (out : Output) → state (opened o a b ws ∷ st) g (add (step z o_arg (pushed (from_of e) (to_of e) x (state (opened o a b (v ∷ vs) ∷ st) g out))).out s) ≡ state (opened o a b ws ∷ st) g (add out (join (wanted v.ty e x) s none))
arg_step z e (said t fs ts ls) (said u gs us ms) o a b v vs ws st g out = outs _ _ _ _ _ _ _ _ (cat_3 out.faults fs _ gs) (ap (λ k. k ++ us) (append-nil (out.types ++ ts)) ∙ cat_2 out.types ts us) (ap (λ k. k ++ ms) (append-nil (out.links ++ ls)) ∙ cat_2 out.links ls ms)

quiet_step : (st : List Frame) (g : List Local) (out : Output) → state st g out ≡ state st g (add out quiet)
quiet_step st g out = sym (outs st g _ _ _ _ _ _ (append-nil out.faults) (append-nil out.types) (append-nil out.links))

with_let_is : (s : Said) (f : Option Ty → Said) → second s (f (ty_in s)) ≡ with_let s f
with_let_is (said t fs ts ls) f = refl

module _ (me : Word) (here : Word → Sig) (there : Word → Word → Sig) (file_there : Word → Bool) (before : List Word) where
  abbrev pub F : Query → Known
  F = answer me here there file_there before

  told_record : (x : Tok) (t : Option Ty) → of_record (λ f n. the_sig (told F (asks_type t))) x t ≡ of_record there x t
  told_record x none = refl
  told_record x (some t_num) = refl
  told_record x (some t_bool) = refl
  told_record x (some (t_of f n)) = refl

  field_step : (ee : E) (x : Tok) (s : Said) (st : List Frame) (g : List Local) (out : Output) → step (told F (asks_type (ty_in s))) (o_field x) (pushed (from_of ee) (to_of ee) s (state st g out)) ≡ pushed (from_of ee) x.to (typed (from_of ee) x.to (with_field x there s)) (state st g out)
  field_step ee x (said t fs ts ls) st g out = ap (λ r. says (from_of ee) x.to (typed (from_of ee) x.to r) st g (add out (said t fs ts ls))) (told_record x t) ∙ second_step (from_of ee) x.to (said t fs ts ls) (of_record there x t) st g out

  abbrev pub is_called : Tok → Option Local → Callee
  is_called f m = opt m (callee f (here f.w)) (λ x. calls_it none (said none (fault f.from f.to 8 ∷ []) [] (link_local f x ∷ [])))

  told_called : (f : Tok) (m : Option Local) → opt m (callee f (the_sig (told F (opt m (some (q_here f.w)) (λ x. none))))) (λ x. calls_it none (said none (fault f.from f.to 8 ∷ []) [] (link_local f x ∷ []))) ≡ is_called f m
  told_called f none = refl
  told_called f (some x) = refl

  told_name : (t : Tok) (m : Option Local) → opt m (name_alone t (the_sig (told F (opt m (some (q_here t.w)) (λ x. none))))) (λ x. said x.ty [] [] (link_local t x ∷ [])) ≡ opt m (name_alone t (here t.w)) (λ x. said x.ty [] [] (link_local t x ∷ []))
  told_name t none = refl
  told_name t (some x) = refl

  with_called : (f : Tok) (es : Es) (go : List Slot → Said) (m : Option Local) → with_call f es (is_called f m) go ≡ opt m (with_call f es (callee f (here f.w)) go) (λ x. join (said none (fault f.from f.to 8 ∷ []) [] (link_local f x ∷ [])) (go []) none)
  with_called f es go none = refl
  with_called f es go (some x) = in_front_nil (join (said none (fault f.from f.to 8 ∷ []) [] (link_local f x ∷ [])) (go []) none)

  abbrev pub Args : List Local → Es → Type 0
  Args g es = (ss : List Slot) (o : Option Ty) (a b : ℕ) (st : List Frame) (out : Output) (os : List Op) → run F (ontos es os) (state (opened o a b ss ∷ st) g out) ≡ run F os (state (opened o a b (left ss es) ∷ st) g (add out (checks here there g ss es)))

  call_runs : (f : Tok) (es : Es) (n : ℕ) (g : List Local) (k : Callee) → Args g es → (st : List Frame) (out : Output) (os : List Op) → run F (ontos es (o_end n ∷ os)) (begins f (count es) k st g out) ≡ run F os (pushed f.from n (typed f.from n (with_call f es k (λ ss. checks here there g ss es))) (state st g out))
  call_runs f es n g (calls_it o c) args st out os = args (opt o [] (λ ss. ss)) (ty_in c) f.from f.to st (add out (in_front (count_fault f (count es) o) c)) (o_end n ∷ os) ∙ ap (run F os) (end_step (k_yes false) f.from f.to n (count_fault f (count es) o) c (checks here there g (opt o [] (λ ss. ss)) es) (left (opt o [] (λ ss. ss)) es) st g out)

  abbrev pub Runs : List Local → E → Type 0
  Runs g e = (st : List Frame) (out : Output) (os : List Op) → run F (onto e os) (state st g out) ≡ run F os (pushed (from_of e) (to_of e) (check here there g e) (state st g out))

  mutual
    pub check_runs : (e : E) (g : List Local) → Runs g e
    check_runs (e_num t) g st out os = refl
    check_runs (e_name t) g st out os = ap (λ s. run F os (pushed t.from t.to (typed t.from t.to s) (state st g out))) (told_name t (find g t.w))
    check_runs (e_call f es n) g st out os = ap (λ k. run F (ontos es (o_end n ∷ os)) (begins f (count es) k st g out)) (told_called f (find g f.w)) ∙ call_runs f es n g (is_called f (find g f.w)) (checks_run es g) st out os ∙ ap (λ s. run F os (pushed f.from n (typed f.from n s) (state st g out))) (with_called f es (λ ss. checks here there g ss es) (find g f.w))
    check_runs (e_field e x) g st out os = check_runs e g st out (o_field x ∷ os) ∙ ap (run F os) (field_step e x (check here there g e) st g out)
    check_runs (e_op o a b) g st out os = check_runs a g st out (onto b (o_op o ∷ os)) ∙ check_runs b g (value (ty_in (check here there g a)) (from_of a) (to_of a) ∷ st) (add out (check here there g a)) (o_op o ∷ os) ∙ ap (run F os) (op_step (k_yes false) o a b (check here there g a) (check here there g b) st g out)
    check_runs (e_if n a b c) g st out os = check_runs a g st out (o_cond ∷ onto b (onto c (o_if n ∷ os))) ∙ check_runs b g st (add (add out (check here there g a)) (tells (wants t_bool (from_of a) (to_of a) (ty_in (check here there g a))))) (onto c (o_if n ∷ os)) ∙ check_runs c g (value (ty_in (check here there g b)) (from_of b) (to_of b) ∷ st) (add (add (add out (check here there g a)) (tells (wants t_bool (from_of a) (to_of a) (ty_in (check here there g a))))) (check here there g b)) (o_if n ∷ os) ∙ ap (run F os) (if_step (k_yes false) n a b c (check here there g a) (check here there g b) (check here there g c) st g out)
    check_runs (e_let n x a b) g st out os = let l : Local = record { name = x; ty = ty_in (check here there g a) } in check_runs a g st out (o_bind x ∷ onto b (o_let n ∷ os)) ∙ check_runs b (l ∷ g) st (add out (check here there g a)) (o_let n ∷ os) ∙ ap (run F os) (let_step (k_yes false) n b l (check here there g a) (check here there (l ∷ g) b) st g out) ∙ ap (λ s. run F os (pushed n (to_of b) (typed n (to_of b) s) (state st g out))) (with_let_is (check here there g a) (λ o. check here there (record { name = x; ty = o } ∷ g) b))
    check_runs (e_par n e m) g st out os = check_runs e g st out (o_par n m ∷ os)

    pub checks_run : (es : Es) (g : List Local) → Args g es
    checks_run no g ss o a b st out os = ap (run F os) (quiet_step (opened o a b ss ∷ st) g out)
    checks_run (and_then e es) g [] o a b st out os = check_runs e g (opened o a b [] ∷ st) out (o_arg ∷ ontos es os) ∙ checks_run es g [] o a b st (add (add out (check here there g e)) (tells [])) os ∙ ap (run F os) (arg_step_nil (k_yes false) e (check here there g e) (checks here there g [] es) o a b (left [] es) st g out)
    checks_run (and_then e es) g (v ∷ vs) o a b st out os = check_runs e g (opened o a b (v ∷ vs) ∷ st) out (o_arg ∷ ontos es os) ∙ checks_run es g vs o a b st (add (add out (check here there g e)) (tells (of_slot v.ty (from_of e) (to_of e) (ty_in (check here there g e))))) os ∙ ap (run F os) (arg_step (k_yes false) e (check here there g e) (checks here there g vs es) o a b v vs (left vs es) st g out)
