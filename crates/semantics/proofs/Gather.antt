-- What is said of an expression or a line is said at its parts: what holds of each part's faults, types and links holds of all of them.
use mathlib.Core.Path.{◌≡◌, refl}
use mathlib.Core.Bool.{Bool, true, false, ◌&&◌, not}
use mathlib.Core.List.{List, [], ◌∷◌, ◌++◌}
use mathlib.Core.Option.{Option, some, none}
use Prim.Native.Nat.{ℕ, ◌≤◌}
use native.Mathlib.Omega.{arith}
use lib.ListN.{length}
use lib.Dec.{eqb, leb}
use Rattle.base.specs.Base.{pick, opt, Word, same, among}
use Rattle.lexer.specs.Tokens.{Tok}
use Rattle.lexer.specs.Words.{k_num, k_bool}
use Rattle.grammar.specs.Grammar.{E, e_num, e_name, e_call, e_field, e_op, e_if, e_let, e_par, Es, no, and_then, from_of, to_of, Field, Item, nothing, i_use, i_kind, i_rec, i_def, i_bad}
use Rattle.grammar.specs.Code.{count}
use Rattle.semantics.specs.Names.{Ty, t_num, t_bool, t_of, same_ty, Slot, Sig, s_unknown, s_several, s_type, s_const, s_rec, s_def}
use Rattle.semantics.specs.Check.{Fault, Typed, Link, Said, said, fault, faults_in, types_in, links_in, ty_in, typed, Local, find, Look, link_local, link_to, wants, of_slot, name_alone, Callee, calls_it, callee, of_record, field_of, both, count_fault, in_front, check, checks, quiet, wrong, join, wanted, with_call, with_field, with_op, with_if, with_let, second, of_type, again, new_names, of_fields, locals, of_def, of_item}
use Rattle.semantics.specs.Theorems.{Each, Part, part, parts, all_parts, item_parts, part_type, Leads, name_in, field_types, type_words}
use Rattle.semantics.proofs.Lists.{each_cat, each_left, each_right}

-- the piece at which an expression's own faults stand
abbrev pub token_in : E → Option Tok
token_in (e_num t) = none
token_in (e_name t) = some t
token_in (e_call f es n) = some f
token_in (e_field e x) = some x
token_in (e_op o a b) = none
token_in (e_if n a b c) = none
token_in (e_let n x a b) = none
token_in (e_par n e m) = none

-- the number of a fault other than 1 and 5
abbrev pub Other : ℕ → Type 0
Other k = (k ≡ 5 → ⊥) × (2 ≤ k) × (k ≤ 9)

two : Other 2
two = (λ e. omega arith, omega arith, omega arith)

three : Other 3
three = (λ e. omega arith, omega arith, omega arith)

four : Other 4
four = (λ e. omega arith, omega arith, omega arith)

six : Other 6
six = (λ e. omega arith, omega arith, omega arith)

seven : Other 7
seven = (λ e. omega arith, omega arith, omega arith)

eight : Other 8
eight = (λ e. omega arith, omega arith, omega arith)

nine : Other 9
nine = (λ e. omega arith, omega arith, omega arith)

-- a link at a piece
abbrev pub On : Tok → Link → Type 0
On t k = (k.from ≡ t.from) × (k.to ≡ t.to)

abbrev pub field_names : List Field → List Tok
field_names [] = []
field_names (x ∷ xs) = x.name ∷ field_names xs

-- the pieces of a line at which a fault can stand, but for its expression
abbrev pub item_tokens : Item → List Tok
item_tokens nothing = []
item_tokens (i_use t) = t ∷ []
item_tokens (i_kind t cs) = t ∷ cs
item_tokens (i_rec t fs) = t ∷ (field_names fs ++ field_types fs)
item_tokens (i_def t ps r e) = t ∷ (r ∷ (field_names ps ++ field_types ps))
item_tokens (i_bad a b) = []

module _ (PF : Fault → Type 0) (PT : Typed → Type 0) (PL : Link → Type 0) where
  -- it holds of all that is said
  pub record Says (s : Said) : Type 0 where
    pub faults : Each PF (faults_in s)
    pub types : Each PT (types_in s)
    pub links : Each PL (links_in s)

  -- all faults from 2 to 9 but 5 at a piece
  abbrev pub Faulty : Tok → Type 0
  Faulty t = (k : ℕ) → Other k → PF (fault t.from t.to k)

  quiet_says : Says quiet
  quiet_says = record { faults = tt; types = tt; links = tt }

  wrong_says : (t : Tok) (k : ℕ) → PF (fault t.from t.to k) → Says (wrong t k)
  wrong_says t k h = record { faults = (h, tt); types = tt; links = tt }

  pick_says : (b : Bool) (x y : Said) → Says x → Says y → Says (pick b x y)
  pick_says true x y p q = p
  pick_says false x y p q = q

  join_says : (x y : Said) (o : Option Ty) → Says x → Says y → Says (join x y o)
  join_says (said t fs ts ls) (said u gs us ms) o p q = record { faults = each_cat PF fs gs p.faults q.faults; types = each_cat PT ts us p.types q.types; links = each_cat PL ls ms p.links q.links }

  second_says : (x y : Said) → Says x → Says y → Says (second x y)
  second_says (said t fs ts ls) (said u gs us ms) p q = record { faults = each_cat PF fs gs p.faults q.faults; types = each_cat PT ts us p.types q.types; links = each_cat PL ls ms p.links q.links }

  front_says : (gs : List Fault) (s : Said) → Each PF gs → Says s → Says (in_front gs s)
  front_says gs (said t fs ts ls) h p = record { faults = each_cat PF gs fs h p.faults; types = p.types; links = p.links }

  typed_says : (a b : ℕ) (s : Said) → ((u : Ty) → ty_in (typed a b s) ≡ some u → PT (record { from = a; to = b; ty = u })) → Says s → Says (typed a b s)
  typed_says a b (said none fs ts ls) h p = record { faults = p.faults; types = each_cat PT ts [] p.types tt; links = p.links }
  typed_says a b (said (some t) fs ts ls) h p = record { faults = p.faults; types = each_cat PT ts _ p.types (h t refl, tt); links = p.links }

  -- what is wanted
  wants_says : (t : Ty) (a b : ℕ) (o : Option Ty) → ((u : Ty) → o ≡ some u → PF (fault a b 5)) → Each PF (wants t a b o)
  wants_says t a b none h = tt
  wants_says t a b (some u) h = go (same_ty t u)
    where
      go : (x : Bool) → Each PF (pick x [] (fault a b 5 ∷ []))
      go true = tt
      go false = (h u refl, tt)

  slot_says : (o : Option Ty) (a b : ℕ) (p : Option Ty) → ((u : Ty) → p ≡ some u → PF (fault a b 5)) → Each PF (of_slot o a b p)
  slot_says none a b p h = tt
  slot_says (some t) a b p h = wants_says t a b p h

  first_says : (o : Option Ty) (a b : ℕ) (p : Option Ty) → ((u : Ty) → p ≡ some u → PF (fault a b 5)) → Each PF (opt o [] (λ u. wants u a b p))
  first_says none a b p h = tt
  first_says (some t) a b p h = wants_says t a b p h

  wanted_says : (o : Option Ty) (e : E) (s : Said) → ((u : Ty) → ty_in s ≡ some u → PF (fault (from_of e) (to_of e) 5)) → Says s → Says (wanted o e s)
  wanted_says o e (said t fs ts ls) h p = record { faults = each_cat PF fs _ p.faults (slot_says o (from_of e) (to_of e) t h); types = p.types; links = p.links }

  op_says : (o : ℕ) (a b : E) (x y : Said) → ((u : Ty) → ty_in x ≡ some u → PF (fault (from_of a) (to_of a) 5)) → ((u : Ty) → ty_in y ≡ some u → PF (fault (from_of b) (to_of b) 5)) → Says x → Says y → Says (with_op o a b x y)
  op_says o a b (said t fs ts ls) (said u gs us ms) ha hb p q = record { faults = each_cat PF (fs ++ gs) _ (each_cat PF fs gs p.faults q.faults) (go (eqb o 3) (leb 5 o)); types = each_cat PT ts us p.types q.types; links = each_cat PL ls ms p.links q.links }
    where
      sides : (w : Ty) → Each PF (both w (from_of a) (to_of a) (from_of b) (to_of b) t u)
      sides w = each_cat PF (wants w (from_of a) (to_of a) t) (wants w (from_of b) (to_of b) u) (wants_says w (from_of a) (to_of a) t ha) (wants_says w (from_of b) (to_of b) u hb)

      go : (i j : Bool) → Each PF (pick i (opt t [] (λ v. wants v (from_of b) (to_of b) u)) (pick j (both t_bool (from_of a) (to_of a) (from_of b) (to_of b) t u) (both t_num (from_of a) (to_of a) (from_of b) (to_of b) t u)))
      go true j = first_says t (from_of b) (to_of b) u hb
      go false true = sides t_bool
      go false false = sides t_num

  if_says : (a b c : E) (x y z : Said) → ((u : Ty) → ty_in x ≡ some u → PF (fault (from_of a) (to_of a) 5)) → ((u : Ty) → ty_in z ≡ some u → PF (fault (from_of c) (to_of c) 5)) → Says x → Says y → Says z → Says (with_if a b c x y z)
  if_says a b c (said o fs ts ls) (said p gs us ms) (said q hs vs ns) ha hc x y z = record {
    faults = each_cat PF ((fs ++ wants t_bool (from_of a) (to_of a) o) ++ (gs ++ hs)) _ (each_cat PF (fs ++ wants t_bool (from_of a) (to_of a) o) (gs ++ hs) (each_cat PF fs _ x.faults (wants_says t_bool (from_of a) (to_of a) o ha)) (each_cat PF gs hs y.faults z.faults)) (first_says p (from_of c) (to_of c) q hc);
    types = each_cat PT ts (us ++ vs) x.types (each_cat PT us vs y.types z.types);
    links = each_cat PL ls (ms ++ ns) x.links (each_cat PL ms ns y.links z.links);
  }

  record_says : (there : Word → Word → Sig) (t : Tok) (o : Option Ty) → PF (fault t.from t.to 7) → Says (of_record there t o)
  record_says there t none h = quiet_says
  record_says there t (some t_num) h = wrong_says t 7 h
  record_says there t (some t_bool) h = wrong_says t 7 h
  record_says there t (some (t_of f n)) h = go (there f n)
    where
      here_is : (m : Option Slot) → Says (opt m (wrong t 7) (λ s. said s.ty [] [] []))
      here_is none = wrong_says t 7 h
      here_is (some s) = record { faults = tt; types = tt; links = tt }

      go : (s : Sig) → Says (of_record (λ g m. s) t (some (t_of f n)))
      go s_unknown = wrong_says t 7 h
      go s_several = wrong_says t 7 h
      go (s_type g m) = wrong_says t 7 h
      go (s_const g m o) = wrong_says t 7 h
      go (s_rec g m ss) = here_is (field_of ss t.w)
      go (s_def g m ss o) = wrong_says t 7 h

  field_says : (there : Word → Word → Sig) (x : Tok) (s : Said) → PF (fault x.from x.to 7) → Says s → Says (with_field x there s)
  field_says there x (said t fs ts ls) h p = second_says (said t fs ts ls) (of_record there x t) p (record_says there x t h)

  let_says : (s : Said) (f : Option Ty → Said) → Says s → Says (f (ty_in s)) → Says (with_let s f)
  let_says (said t fs ts ls) f p q = second_says (said t fs ts ls) (f t) p q

  -- a name, alone or called
  abbrev pub Linked : Tok → Sig → Option Local → Type 0
  Linked t s m = (k : Link) → On t k → Leads s m k → PL k

  alone_says : (t : Tok) (s : Sig) → Faulty t → Linked t s none → Says (name_alone t s)
  alone_says t s_unknown h l = wrong_says t 2 (h 2 two)
  alone_says t s_several h l = wrong_says t 3 (h 3 three)
  alone_says t (s_type f n) h l = record { faults = (h 8 eight, tt); types = tt; links = (l (link_to t f n) (refl, refl) (refl, (refl, refl)), tt) }
  alone_says t (s_const f n o) h l = record { faults = tt; types = tt; links = (l (link_to t f n) (refl, refl) (refl, (refl, refl)), tt) }
  alone_says t (s_rec f n ss) h l = record { faults = (h 8 eight, tt); types = tt; links = (l (link_to t f n) (refl, refl) (refl, (refl, refl)), tt) }
  alone_says t (s_def f n ss o) h l = record { faults = (h 8 eight, tt); types = tt; links = (l (link_to t f n) (refl, refl) (refl, (refl, refl)), tt) }

  name_says : (t : Tok) (s : Sig) (m : Option Local) → Faulty t → Linked t s m → Says (opt m (name_alone t s) (λ x. said x.ty [] [] (link_local t x ∷ [])))
  name_says t s none h l = alone_says t s h l
  name_says t s (some x) h l = record { faults = tt; types = tt; links = (l (link_local t x) (refl, refl) (refl, refl), tt) }

  abbrev CalleeSays : Callee → Type 0
  CalleeSays (calls_it o s) = Says s

  callee_says : (t : Tok) (s : Sig) → Faulty t → Linked t s none → CalleeSays (callee t s)
  callee_says t s_unknown h l = wrong_says t 2 (h 2 two)
  callee_says t s_several h l = wrong_says t 3 (h 3 three)
  callee_says t (s_type f n) h l = record { faults = (h 8 eight, tt); types = tt; links = (l (link_to t f n) (refl, refl) (refl, (refl, refl)), tt) }
  callee_says t (s_const f n o) h l = record { faults = (h 8 eight, tt); types = tt; links = (l (link_to t f n) (refl, refl) (refl, (refl, refl)), tt) }
  callee_says t (s_rec f n ss) h l = record { faults = tt; types = tt; links = (l (link_to t f n) (refl, refl) (refl, (refl, refl)), tt) }
  callee_says t (s_def f n ss o) h l = record { faults = tt; types = tt; links = (l (link_to t f n) (refl, refl) (refl, (refl, refl)), tt) }

  count_says : (f : Tok) (n : ℕ) (o : Option (List Slot)) → Faulty f → Each PF (count_fault f n o)
  count_says f n none h = tt
  count_says f n (some ss) h = go (eqb (length ss) n)
    where
      go : (b : Bool) → Each PF (pick b [] (fault f.from f.to 6 ∷ []))
      go true = tt
      go false = (h 6 six, tt)

  with_says : (f : Tok) (es : Es) (c : Callee) (go : List Slot → Said) → Faulty f → CalleeSays c → ((ss : List Slot) → Says (go ss)) → Says (with_call f es c go)
  with_says f es (calls_it o s) go h c a = front_says (count_fault f (count es) o) _ (count_says f (count es) o h) (join_says s _ (ty_in s) c (a (opt o [] (λ ss. ss))))

  call_says : (f : Tok) (es : Es) (s : Sig) (m : Option Local) (go : List Slot → Said) → Faulty f → Linked f s m → ((ss : List Slot) → Says (go ss)) → Says (opt m (with_call f es (callee f s) go) (λ x. join (said none (fault f.from f.to 8 ∷ []) [] (link_local f x ∷ [])) (go []) none))
  call_says f es s none go h l a = with_says f es (callee f s) go h (callee_says f s h l) a
  call_says f es s (some x) go h l a = join_says (said none (fault f.from f.to 8 ∷ []) [] (link_local f x ∷ [])) (go []) none (record { faults = (h 8 eight, tt); types = tt; links = (l (link_local f x) (refl, refl) (refl, refl), tt) }) (a [])

  module _ (here : Look) (there : Word → Word → Sig) where
    -- what has to hold at a part: of fault 5 at it, if it has a type; of other faults at its own piece; of its type; of its name's link
    pub record Node (p : Part) : Type 0 where
      pub blamed : (u : Ty) → part_type here there p ≡ some u → PF (fault (from_of p.expr) (to_of p.expr) 5)
      pub token : (t : Tok) → token_in p.expr ≡ some t → Faulty t
      pub noted : (u : Ty) → part_type here there p ≡ some u → PT (record { from = from_of p.expr; to = to_of p.expr; ty = u })
      pub linked : (t : Tok) → name_in p.expr ≡ some t → Linked t (here t.w) (find p.locals t.w)

    root : (g : List Local) (e : E) → Each Node (parts here there g e) → Node (part g e)
    root g (e_num t) h = h.0
    root g (e_name t) h = h.0
    root g (e_call f es n) h = h.0
    root g (e_field e x) h = h.0
    root g (e_op o a b) h = h.0
    root g (e_if n a b c) h = h.0
    root g (e_let n x a b) h = h.0
    root g (e_par n e m) h = h.0

    mutual
      pub check_says : (g : List Local) (e : E) → Each Node (parts here there g e) → Says (check here there g e)
      check_says g (e_num t) h = typed_says t.from t.to (said (some t_num) [] [] []) h.0.noted (record { faults = tt; types = tt; links = tt })
      check_says g (e_name t) h = typed_says t.from t.to _ h.0.noted (name_says t (here t.w) (find g t.w) (h.0.token t refl) (h.0.linked t refl))
      check_says g (e_call f es n) h = typed_says f.from n _ h.0.noted (call_says f es (here f.w) (find g f.w) (λ ss. checks here there g ss es) (h.0.token f refl) (h.0.linked f refl) (λ ss. checks_say g ss es h.1))
      check_says g (e_field e x) h = typed_says (from_of e) x.to _ h.0.noted (field_says there x (check here there g e) (h.0.token x refl 7 seven) (check_says g e h.1))
      check_says g (e_op o a b) h =
          let ha = each_left Node (parts here there g a) (parts here there g b) h.1 in
          let hb = each_right Node (parts here there g a) (parts here there g b) h.1 in
          typed_says (from_of a) (to_of b) _ h.0.noted (op_says o a b (check here there g a) (check here there g b) (root g a ha).blamed (root g b hb).blamed (check_says g a ha) (check_says g b hb))
      check_says g (e_if n a b c) h =
          let ha = each_left Node (parts here there g a) (parts here there g b ++ parts here there g c) h.1 in
          let hr = each_right Node (parts here there g a) (parts here there g b ++ parts here there g c) h.1 in
          let hb = each_left Node (parts here there g b) (parts here there g c) hr in
          let hc = each_right Node (parts here there g b) (parts here there g c) hr in
          typed_says n (to_of c) _ h.0.noted (if_says a b c (check here there g a) (check here there g b) (check here there g c) (root g a ha).blamed (root g c hc).blamed (check_says g a ha) (check_says g b hb) (check_says g c hc))
      check_says g (e_let n x a b) h =
          let l : Local = record { name = x; ty = ty_in (check here there g a) } in
          let ha = each_left Node (parts here there g a) (parts here there (l ∷ g) b) h.1 in
          let hb = each_right Node (parts here there g a) (parts here there (l ∷ g) b) h.1 in
          typed_says n (to_of b) _ h.0.noted (let_says (check here there g a) (λ o. check here there (record { name = x; ty = o } ∷ g) b) (check_says g a ha) (check_says (l ∷ g) b hb))
      check_says g (e_par n e m) h = check_says g e h.1

      checks_say : (g : List Local) (ss : List Slot) (es : Es) → Each Node (all_parts here there g es) → Says (checks here there g ss es)
      checks_say g ss no h = quiet_says
      checks_say g [] (and_then e es) h =
          let he = each_left Node (parts here there g e) (all_parts here there g es) h in
          join_says (check here there g e) (checks here there g [] es) none (check_says g e he) (checks_say g [] es (each_right Node (parts here there g e) (all_parts here there g es) h))
      checks_say g (s ∷ ss) (and_then e es) h =
          let he = each_left Node (parts here there g e) (all_parts here there g es) h in
          join_says (wanted s.ty e (check here there g e)) (checks here there g ss es) none (wanted_says s.ty e (check here there g e) (root g e he).blamed (check_says g e he)) (checks_say g ss es (each_right Node (parts here there g e) (all_parts here there g es) h))

    -- a whole line
    -- a word that stands for a type and isn't num or bool
    abbrev pub TypeLinked : Tok → Type 0
    TypeLinked t = same t.w k_num ≡ false → same t.w k_bool ≡ false → Linked t (here t.w) none

    abbrev type_said : Tok → Sig → Said
    type_said t s_unknown = wrong t 2
    type_said t s_several = wrong t 3
    type_said t (s_type f n) = said (some (t_of f n)) [] [] (link_to t f n ∷ [])
    type_said t (s_const f n o) = said none (fault t.from t.to 8 ∷ []) [] (link_to t f n ∷ [])
    type_said t (s_rec f n ss) = said (some (t_of f n)) [] [] (link_to t f n ∷ [])
    type_said t (s_def f n ss o) = said none (fault t.from t.to 8 ∷ []) [] (link_to t f n ∷ [])

    sig_says : (t : Tok) (s : Sig) → Faulty t → Linked t s none → Says (type_said t s)
    sig_says t s_unknown h l = wrong_says t 2 (h 2 two)
    sig_says t s_several h l = wrong_says t 3 (h 3 three)
    sig_says t (s_type f n) h l = record { faults = tt; types = tt; links = (l (link_to t f n) (refl, refl) (refl, (refl, refl)), tt) }
    sig_says t (s_const f n o) h l = record { faults = (h 8 eight, tt); types = tt; links = (l (link_to t f n) (refl, refl) (refl, (refl, refl)), tt) }
    sig_says t (s_rec f n ss) h l = record { faults = tt; types = tt; links = (l (link_to t f n) (refl, refl) (refl, (refl, refl)), tt) }
    sig_says t (s_def f n ss o) h l = record { faults = (h 8 eight, tt); types = tt; links = (l (link_to t f n) (refl, refl) (refl, (refl, refl)), tt) }

    type_says : (t : Tok) → Faulty t → TypeLinked t → Says (of_type here t)
    type_says t h l = go (same t.w k_num) (same t.w k_bool) (here t.w) l
      where
        plain : (o : Option Ty) → Says (said o [] [] [])
        plain o = record { faults = tt; types = tt; links = tt }

        go : (b c : Bool) (s : Sig) → (b ≡ false → c ≡ false → Linked t s none) → Says (pick b (said (some t_num) [] [] []) (pick c (said (some t_bool) [] [] []) (type_said t s)))
        go true c s l = plain (some t_num)
        go false true s l = plain (some t_bool)
        go false false s l = sig_says t s h (l refl refl)

    again_says : (seen : List Word) (t : Tok) → Faulty t → Says (again seen t)
    again_says seen t h = pick_says (among t.w seen) (wrong t 4) quiet (wrong_says t 4 (h 4 four)) quiet_says

    new_says : (seen : List Word) (ts : List Tok) → Each Faulty ts → Says (new_names seen ts)
    new_says seen [] h = quiet_says
    new_says seen (t ∷ ts) h = join_says (again seen t) (new_names (seen ++ (t.w ∷ [])) ts) none (again_says seen t h.0) (new_says (seen ++ (t.w ∷ [])) ts h.1)

    fields_say : (seen : List Word) (xs : List Field) → Each Faulty (field_names xs) → Each Faulty (field_types xs) → Each TypeLinked (field_types xs) → Says (of_fields here seen xs)
    fields_say seen [] h k l = quiet_says
    fields_say seen (x ∷ xs) h k l = join_says (again seen x.name) (join (of_type here x.ty) (of_fields here (seen ++ (x.name.w ∷ [])) xs) none) none (again_says seen x.name h.0) (join_says (of_type here x.ty) (of_fields here (seen ++ (x.name.w ∷ [])) xs) none (type_says x.ty k.0 l.0) (fields_say (seen ++ (x.name.w ∷ [])) xs h.1 k.1 l.1))

    def_says : (ps : List Field) (e : E) (s : Said) → Says s → Each Node (parts here there (locals here ps []) e) → Says (of_def here there ps e s)
    def_says ps e (said o fs ts ls) p h = join_says (said o fs ts ls) (wanted o e (check here there (locals here ps []) e)) none p (wanted_says o e (check here there (locals here ps []) e) (root (locals here ps []) e h).blamed (check_says (locals here ps []) e h))

    module _ (me : Word) (file_there : Word → Bool) (before : List Word) where
      -- a used file's link
      abbrev pub use_link : Tok → Link
      use_link t = record { from = t.from; to = t.to; sort = 2; file = t.w; name = []; at = 0 }

      abbrev pub Uses : Tok → Type 0
      Uses t = file_there t.w ≡ true → same t.w me ≡ false → PL (use_link t)

      -- what has to hold of a line
      pub record Whole (it : Item) : Type 0 where
        pub tokens : Each Faulty (item_tokens it)
        pub bad : (a b : ℕ) → it ≡ i_bad a b → PF (fault a b 1)
        pub uses : (t : Tok) → it ≡ i_use t → Uses t
        pub types : Each TypeLinked (type_words it)
        pub nodes : Each Node (item_parts here there it)

      use_says : (t : Tok) → Faulty t → Uses t → Says (pick (file_there t.w && not (same t.w me)) (said none [] [] (use_link t ∷ [])) (wrong t 9))
      use_says t h l = go (file_there t.w) (same t.w me) l
        where
          go : (b c : Bool) → (b ≡ true → c ≡ false → PL (use_link t)) → Says (pick (b && not c) (said none [] [] (use_link t ∷ [])) (wrong t 9))
          go true true l = wrong_says t 9 (h 9 nine)
          go true false l = record { faults = tt; types = tt; links = (l refl refl, tt) }
          go false c l = wrong_says t 9 (h 9 nine)

      pub item_says : (it : Item) → Whole it → Says (of_item me here there file_there before it)
      item_says nothing w = quiet_says
      item_says (i_use t) w = use_says t w.tokens.0 (w.uses t refl)
      item_says (i_kind t cs) w = new_says before (t ∷ cs) w.tokens
      item_says (i_rec t fs) w =
          let hn = each_left Faulty (field_names fs) (field_types fs) w.tokens.1 in
          let ht = each_right Faulty (field_names fs) (field_types fs) w.tokens.1 in
          join_says (again before t) (of_fields here [] fs) none (again_says before t w.tokens.0) (fields_say [] fs hn ht w.types)
      item_says (i_def t ps r e) w =
          let hr = w.tokens.1 in
          let hn = each_left Faulty (field_names ps) (field_types ps) hr.1 in
          let ht = each_right Faulty (field_names ps) (field_types ps) hr.1 in
          join_says (again before t) (join (of_fields here [] ps) (of_def here there ps e (of_type here r)) none) none (again_says before t w.tokens.0)
          (join_says (of_fields here [] ps) (of_def here there ps e (of_type here r)) none (fields_say [] ps hn ht w.types.1) (def_says ps e (of_type here r) (type_says r hr.0 w.types.0) w.nodes))
      item_says (i_bad a b) w = record { faults = (w.bad a b refl, tt); types = tt; links = tt }
