-- What is left where reading goes on or goes wrong is a tail of what was there; so the place of what isn't understood is a piece's own, or the end.
use mathlib.Core.Path.{◌≡◌, refl, sym, subst, ◌∙◌}
use mathlib.Core.Bool.{Bool, true, false}
use mathlib.Core.List.{List, [], ◌∷◌, ◌++◌, append_assoc}
use mathlib.Core.Logic.{◌⊎◌, inl, inr}
use mathlib.Core.Option.{Option, some, none}
use Prim.Native.Nat.{ℕ, zero, suc, ◌+◌, ◌*◌}
use native.Mathlib.Omega.{arith}
use lib.ListN.{length}
use lib.Dec.{eqb}
use Rattle.base.specs.Base.{pick, opt, Word, same}
use Rattle.lexer.specs.Tokens.{Tok, next, tail1, end_of}
use Rattle.lexer.specs.Words.{op_at, compares, is_name, is_number, is_type, digits, k_let, k_in, k_if, k_then, k_else, k_use, k_kind, k_rec, k_def, t_lp, t_rp, t_comma, t_gets, t_dot}
use Rattle.grammar.specs.Grammar.{E, Es, and_then, e_field, e_op, Got, it, bad, with1, eat, a_word, expr, begins, lets, ifs, level, more, fields, atom, calls, args, Item, nothing, i_use, i_kind, i_rec, i_def, i_bad, names, field_list, params, ended, reads1, settled}
use Rattle.grammar.specs.Theorems.{PieceAt, WrongPlace}

-- us is a tail of ts
pub record Tail (ts us : List Tok) : Type 0 where
  pub before : List Tok
  pub is : ts ≡ before ++ us

pub whole : (ts : List Tok) → Tail ts ts
whole ts = record { before = []; is = refl }

pub further : (ts : List Tok) (u : Tok) (us : List Tok) → Tail ts (u ∷ us) → Tail ts us
further ts u us h = record { before = h.before ++ (u ∷ []); is = h.is ∙ sym (append_assoc h.before (u ∷ []) us) }

pub tail_on : (ts us : List Tok) → Tail ts us → Tail ts (tail1 us)
tail_on ts [] h = h
tail_on ts (u ∷ us) h = further ts u us h

-- what is left of ts
abbrev pub Left : {A : Type 0} → List Tok → Got A → Type 0
Left ts (it a us) = Tail ts us
Left ts (bad us) = Tail ts us

pub record From {A : Type 0} (ts : List Tok) (g : Got A) : Type 0 where
  pub left : Left ts g

f_it : {A : Type 0} (ts us : List Tok) (a : A) → Tail ts us → From ts (it a us)
f_it ts us a h = record { left = h }

f_bad : {A : Type 0} (ts us : List Tok) → Tail ts us → From {A = A} ts (bad us)
f_bad ts us h = record { left = h }

f_with : {A C : Type 0} (ts : List Tok) (g : Got A) (f : A → List Tok → Got C) → From ts g → ((a : A) (us : List Tok) → Tail ts us → From ts (f a us)) → From ts (with1 g f)
f_with ts (it a us) f w h = h a us w.left
f_with ts (bad us) f w h = record { left = w.left }

f_pick : {A : Type 0} (ts : List Tok) (b : Bool) (x y : Got A) → From ts x → From ts y → From ts (pick b x y)
f_pick ts true x y p q = p
f_pick ts false x y p q = q

f_opt : {A C : Type 0} (ts : List Tok) (o : Option A) (c : Got C) (f : A → Got C) → From ts c → ((x : A) → From ts (f x)) → From ts (opt o c f)
f_opt ts none c f p q = p
f_opt ts (some x) c f p q = q x

f_eat : {C : Type 0} (ts : List Tok) (w : Word) (us : List Tok) (f : Tok → List Tok → Got C) → Tail ts us → ((t : Tok) (vs : List Tok) → Tail ts vs → From ts (f t vs)) → From ts (eat w us f)
f_eat ts w [] f t h = record { left = t }
f_eat ts w (u ∷ us) f t h = f_pick ts (same u.w w) (f u us) (bad (u ∷ us)) (h u us (further ts u us t)) (record { left = t })

f_word : (ts : List Tok) (ok : Word → Bool) (us : List Tok) → Tail ts us → From ts (a_word ok us)
f_word ts ok [] t = record { left = t }
f_word ts ok (u ∷ us) t = f_pick ts (ok u.w) (it u us) (bad (u ∷ us)) (record { left = further ts u us t }) (record { left = t })

mutual
  pub from_expr : (n : ℕ) (ts us : List Tok) → Tail ts us → From ts (expr n us)
  from_expr zero ts us h = f_bad ts us h
  from_expr (suc n) ts us h = from_begins n ts us (next us) h

  pub from_begins : (n : ℕ) (ts us : List Tok) (w : Word) → Tail ts us → From ts (begins n us w)
  from_begins zero ts us w h = f_bad ts us h
  from_begins (suc n) ts us w h = f_pick ts (same w k_let) _ _ (from_lets n ts us h) (f_pick ts (same w k_if) _ _ (from_ifs n ts us h) (from_level n 1 ts us h))

  pub from_lets : (n : ℕ) (ts us : List Tok) → Tail ts us → From ts (lets n us)
  from_lets zero ts us h = f_bad ts us h
  from_lets (suc n) ts us h = f_eat ts k_let us _ h (λ l vs h1. f_with ts _ _ (f_word ts is_name vs h1) (λ x xs h2. f_eat ts t_gets xs _ h2 (λ g ys h3. f_with ts _ _ (from_expr n ts ys h3) (λ a zs h4.
      f_eat ts k_in zs _ h4 (λ i rs h5. f_with ts _ _ (from_expr n ts rs h5) (λ b qs h6. f_it ts qs _ h6))))))

  pub from_ifs : (n : ℕ) (ts us : List Tok) → Tail ts us → From ts (ifs n us)
  from_ifs zero ts us h = f_bad ts us h
  from_ifs (suc n) ts us h = f_eat ts k_if us _ h (λ l vs h1. f_with ts _ _ (from_expr n ts vs h1) (λ a xs h2. f_eat ts k_then xs _ h2 (λ g ys h3. f_with ts _ _ (from_expr n ts ys h3) (λ b zs h4.
      f_eat ts k_else zs _ h4 (λ i rs h5. f_with ts _ _ (from_expr n ts rs h5) (λ c qs h6. f_it ts qs _ h6))))))

  pub from_level : (n l : ℕ) (ts us : List Tok) → Tail ts us → From ts (level n l us)
  from_level zero l ts us h = f_bad ts us h
  from_level (suc n) l ts us h = f_pick ts (eqb l 7) _ _ (from_atom n ts us h) (f_pick ts (eqb l 3) _ _
      (f_with ts _ _ (from_level n 4 ts us h) (λ a vs h1. f_opt ts (compares (next vs)) _ _ (f_it ts vs a h1) (λ o. f_with ts _ _ (from_level n 4 ts (tail1 vs) (tail_on ts vs h1)) (λ b xs h2. f_it ts xs _ h2))))
      (f_with ts _ _ (from_level n (l + 1) ts us h) (λ a vs h1. f_pick ts (eqb l 6) _ _ (from_fields n a ts vs h1) (from_more n l a ts vs h1))))

  pub from_more : (n l : ℕ) (a : E) (ts us : List Tok) → Tail ts us → From ts (more n l a us)
  from_more zero l a ts us h = f_bad ts us h
  from_more (suc n) l a ts us h = f_opt ts (op_at l (next us)) _ _ (f_it ts us a h) (λ o. f_with ts _ _ (from_level n (l + 1) ts (tail1 us) (tail_on ts us h)) (λ b vs h1. from_more n l (e_op o a b) ts vs h1))

  pub from_fields : (n : ℕ) (a : E) (ts us : List Tok) → Tail ts us → From ts (fields n a us)
  from_fields zero a ts us h = f_bad ts us h
  from_fields (suc n) a ts us h = f_pick ts (same (next us) t_dot) _ _ (f_with ts _ _ (f_word ts is_name (tail1 us) (tail_on ts us h)) (λ x vs h1. from_fields n (e_field a x) ts vs h1)) (f_it ts us a h)

  pub from_atom : (n : ℕ) (ts us : List Tok) → Tail ts us → From ts (atom n us)
  from_atom zero ts us h = f_bad ts us h
  from_atom (suc n) ts [] h = f_bad ts [] h
  from_atom (suc n) ts (u ∷ us) h =
      let k = further ts u us h in
      f_pick ts (same u.w t_lp) _ _ (f_with ts _ _ (from_expr n ts us k) (λ a vs h1. f_eat ts t_rp vs _ h1 (λ r xs h2. f_it ts xs _ h2)))
      (f_pick ts (is_number u.w) _ _ (f_pick ts (digits u.w) _ _ (f_it ts us _ k) (f_bad ts (u ∷ us) h))
      (f_pick ts (is_name u.w) _ _ (f_pick ts (same (next us) t_lp) _ _ (from_calls n u ts (tail1 us) (tail_on ts us k)) (f_it ts us _ k)) (f_bad ts (u ∷ us) h)))

  pub from_calls : (n : ℕ) (f : Tok) (ts us : List Tok) → Tail ts us → From ts (calls n f us)
  from_calls zero f ts us h = f_bad ts us h
  from_calls (suc n) f ts us h = f_pick ts (same (next us) t_rp) _ _ (f_eat ts t_rp us _ h (λ r vs h1. f_it ts vs _ h1)) (from_args n f ts us (λ es. es) h)

  pub from_args : (n : ℕ) (f : Tok) (ts us : List Tok) (k : Es → Es) → Tail ts us → From ts (args n f us k)
  from_args zero f ts us k h = f_bad ts us h
  from_args (suc n) f ts us k h = f_with ts _ _ (from_expr n ts us h) (λ a vs h1. f_pick ts (same (next vs) t_comma) _ _ (from_args n f ts (tail1 vs) (λ es. k (and_then a es)) (tail_on ts vs h1)) (f_eat ts t_rp vs _ h1 (λ r xs h2. f_it ts xs _ h2)))

from_names : (n : ℕ) (ts us : List Tok) → Tail ts us → From ts (names n us)
from_names zero ts us h = f_bad ts us h
from_names (suc n) ts us h = f_with ts _ _ (f_word ts is_name us h) (λ x vs h1. f_pick ts (same (next vs) t_comma) _ _ (f_with ts _ _ (from_names n ts (tail1 vs) (tail_on ts vs h1)) (λ xs ys h2. f_it ts ys _ h2)) (f_it ts vs _ h1))

from_list : (n : ℕ) (ts us : List Tok) → Tail ts us → From ts (field_list n us)
from_list zero ts us h = f_bad ts us h
from_list (suc n) ts us h = f_with ts _ _ (f_word ts is_name us h) (λ x vs h1. f_with ts _ _ (f_word ts is_type vs h1) (λ t xs h2. f_pick ts (same (next xs) t_comma) _ _ (f_with ts _ _ (from_list n ts (tail1 xs) (tail_on ts xs h2)) (λ fs ys h3. f_it ts ys _ h3)) (f_it ts xs _ h2)))

from_params : (n : ℕ) (ts us : List Tok) → Tail ts us → From ts (params n us)
from_params n ts us h = f_pick ts (same (next us) t_rp) _ _ (f_it ts us _ h) (from_list n ts us h)

-- what is read to the end is no item that isn't understood
abbrev pub Understood : Item → Type 0
Understood nothing = Unit {0}
Understood (i_use t) = Unit {0}
Understood (i_kind t cs) = Unit {0}
Understood (i_rec t fs) = Unit {0}
Understood (i_def t ps r e) = Unit {0}
Understood (i_bad a b) = ⊥

abbrev Sound : List Tok → Got Item → Type 0
Sound ts (it i us) = Understood i
Sound ts (bad us) = Tail ts us

record ReadsWell (ts : List Tok) (g : Got Item) : Type 0 where
  sound : Sound ts g

r_ended : (ts : List Tok) (i : Item) (us : List Tok) → Understood i → Tail ts us → ReadsWell ts (ended i us)
r_ended ts i [] u h = record { sound = u }
r_ended ts i (v ∷ vs) u h = record { sound = h }

r_with : {A : Type 0} (ts : List Tok) (g : Got A) (f : A → List Tok → Got Item) → From ts g → ((a : A) (us : List Tok) → Tail ts us → ReadsWell ts (f a us)) → ReadsWell ts (with1 g f)
r_with ts (it a us) f w h = h a us w.left
r_with ts (bad us) f w h = record { sound = w.left }

r_pick : (ts : List Tok) (b : Bool) (x y : Got Item) → ReadsWell ts x → ReadsWell ts y → ReadsWell ts (pick b x y)
r_pick ts true x y p q = p
r_pick ts false x y p q = q

r_eat : (ts : List Tok) (w : Word) (us : List Tok) (f : Tok → List Tok → Got Item) → Tail ts us → ((t : Tok) (vs : List Tok) → Tail ts vs → ReadsWell ts (f t vs)) → ReadsWell ts (eat w us f)
r_eat ts w [] f t h = record { sound = t }
r_eat ts w (u ∷ us) f t h = r_pick ts (same u.w w) (f u us) (bad (u ∷ us)) (h u us (further ts u us t)) (record { sound = t })

reads_well : (n : ℕ) (t : Tok) (us : List Tok) → ReadsWell (t ∷ us) (reads1 n t us)
reads_well n t us = let ts = t ∷ us in let h = further ts t us (whole ts) in
    r_pick ts (same t.w k_use) _ _ (r_with ts _ _ (f_word ts is_name us h) (λ x vs h1. r_ended ts _ vs tt h1))
    (r_pick ts (same t.w k_kind) _ _ (r_with ts _ _ (f_word ts is_name us h) (λ x vs h1. r_eat ts t_gets vs _ h1 (λ g xs h2. r_with ts _ _ (from_names n ts xs h2) (λ cs ys h3. r_ended ts _ ys tt h3))))
    (r_pick ts (same t.w k_rec) _ _ (r_with ts _ _ (f_word ts is_name us h) (λ x vs h1. r_eat ts t_gets vs _ h1 (λ g xs h2. r_with ts _ _ (from_list n ts xs h2) (λ fs ys h3. r_ended ts _ ys tt h3))))
    (r_pick ts (same t.w k_def) _ _ (r_with ts _ _ (f_word ts is_name us h) (λ x vs h1. r_eat ts t_lp vs _ h1 (λ l xs h2. r_with ts _ _ (from_params n ts xs h2) (λ ps ys h3. r_eat ts t_rp ys _ h3 (λ r zs h4.
    r_with ts _ _ (f_word ts is_type zs h4) (λ r rs h5. r_eat ts t_gets rs _ h5 (λ g qs h6. r_with ts _ _ (from_expr n ts qs h6) (λ e os h7. r_ended ts _ os tt h7))))))))
    (record { sound = whole ts }))))

never_bad : (i : Item) (a b : ℕ) → Understood i → i ≡ i_bad a b → ⊥
never_bad i a b u e = subst Understood e u

pub wrong_place : WrongPlace
wrong_place [] a b e = let x : zero ≡ suc zero = cc in absurd (omega arith)
wrong_place (t ∷ ts) a b e = go (reads1 (20 * (2 + length ts)) t ts) (reads_well (20 * (2 + length ts)) t ts) e
  where
    go : (g : Got Item) → ReadsWell (t ∷ ts) g → settled (t ∷ ts) g ≡ i_bad a b → PieceAt a b (t ∷ ts) ⊎ ((a ≡ end_of (t ∷ ts)) × (b ≡ end_of (t ∷ ts)))
    go (it i us) s e = absurd (never_bad i a b s.sound e)
    go (bad []) s e = inr (cc, cc)
    go (bad (u ∷ us)) s e = inl (s.sound.before, u, us, s.sound.is, cc, cc)
