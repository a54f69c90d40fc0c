-- An expression has no more operations than the pieces that it was read from, and a line no more than its pieces.
use mathlib.Core.Path.{◌≡◌, refl, ap}
use mathlib.Core.Bool.{Bool, true, false}
use mathlib.Core.List.{List, [], ◌∷◌}
use mathlib.Core.Option.{Option, some, none}
use Prim.Native.Nat.{ℕ, zero, suc, ◌+◌, ◌*◌, ◌≤◌}
use native.Mathlib.Omega.{arith}
use lib.ListN.{length}
use lib.Dec.{eqb}
use Rattle.base.specs.Base.{pick, opt, Word, same}
use Rattle.lexer.specs.Tokens.{Tok, next, tail1}
use Rattle.lexer.specs.Words.{op_at, compares, k_let, k_if, k_in, k_then, k_else, t_gets, t_rp, t_lp, t_comma, t_dot, is_name, is_number, digits, is_type, k_use, k_kind, k_rec, k_def}
use Rattle.grammar.specs.Grammar.{E, e_num, e_name, e_call, e_field, e_op, Es, no, and_then, Got, it, bad, with1, eat, a_word, expr, begins, lets, ifs, level, more, fields, atom, calls, args, Field, Item, i_use, i_kind, i_rec, i_def, names, field_list, params, ended, reads_use, reads_kind, reads_rec, reads_def, reads1, settled, item_of}
use Rattle.grammar.specs.Code.{Op, o_result, o_body, onto, slots_onto, consts_code, item_code}
use Rattle.semantics.proofs.Sizes.{none_left, pieces_of, args_of, few}

abbrev pub Good : {A : Type 0} → (A → List Tok → Type 0) → Got A → Type 0
Good P (it a ts) = P a ts
Good P (bad ts) = Unit {0}

pub good_with : {A C : Type 0} (P : A → List Tok → Type 0) (Q : C → List Tok → Type 0) (r : Got A) (f : A → List Tok → Got C) → Good P r → ((a : A) (us : List Tok) → P a us → Good Q (f a us)) → Good Q (with1 r f)
good_with P Q (it a us) f p h = h a us p
good_with P Q (bad us) f p h = tt

pub good_pick : {A : Type 0} (P : A → List Tok → Type 0) (b : Bool) (x y : Got A) → Good P x → Good P y → Good P (pick b x y)
good_pick P true x y p q = p
good_pick P false x y p q = q

pub good_opt : {A C : Type 0} (P : A → List Tok → Type 0) (o : Option C) (x : Got A) (f : C → Got A) → Good P x → ((c : C) → Good P (f c)) → Good P (opt o x f)
good_opt P none x f p q = p
good_opt P (some c) x f p q = q c

good_eat : {C : Type 0} (Q : C → List Tok → Type 0) (w : Word) (ts : List Tok) (f : Tok → List Tok → Got C) → ((t : Tok) (us : List Tok) → suc (length us) ≤ length ts → Good Q (f t us)) → Good Q (eat w ts f)
good_eat Q w [] f h = tt
good_eat Q w (t ∷ ts) f h = good_pick Q (same t.w w) (f t ts) (bad (t ∷ ts)) (h t ts (omega arith)) tt

abbrev Less : ℕ → Tok → List Tok → Type 0
Less b t us = suc (length us) ≤ b

good_word : (ok : Word → Bool) (ts : List Tok) → Good (Less (length ts)) (a_word ok ts)
good_word ok [] = tt
good_word ok (t ∷ ts) = good_pick (Less (suc (length ts))) (ok t.w) (it t ts) (bad (t ∷ ts)) (omega arith) tt

abbrev P : ℕ → E → List Tok → Type 0
P b e us = pieces_of e + length us ≤ b

abbrev Grows : ℕ → (Es → Es) → Type 0
Grows c k = (es : Es) → (args_of (k es) ≤ c + args_of es) × (none_left (k es) ≤ none_left es)

op_none : (l : ℕ) → op_at l [] ≡ none
op_none l = go (eqb l 1) (eqb l 2) (eqb l 4) (eqb l 5)
  where
    go : (x y z w : Bool) → pick {A = Option ℕ} x none (pick y none (pick z none (pick w none none))) ≡ none
    go true y z w = refl
    go false true z w = refl
    go false false true w = refl
    go false false false true = refl
    go false false false false = refl

compared : (n : ℕ) (a : E) (us : List Tok) (b : ℕ) → ((vs : List Tok) → Good (P (length vs)) (level n 4 vs)) → pieces_of a + length us ≤ b → Good (P b) (opt (compares (next us)) (it a us) (λ o. with1 (level n 4 (tail1 us)) (λ c vs. it (e_op o a c) vs)))
compared n a [] b H h = h
compared n a (u ∷ us) b H h = good_opt (P b) (compares u.w) (it a (u ∷ us)) _ h (λ o. good_with (P (length us)) (P b) (level n 4 us) _ (H us) (λ c vs h1. omega arith))

after_arg : (n : ℕ) (f : Tok) (k : Es → Es) (c : ℕ) (a : E) (us : List Tok) (m b : ℕ) → ((vs : List Tok) → 2 + ((c + (pieces_of a + 1)) + length vs) ≤ b → Good (P b) (args n f vs (λ es. k (and_then a es)))) → Grows c k → pieces_of a + length us ≤ m → 2 + (c + m) ≤ b → Good (P b) (pick (same (next us) t_comma) (args n f (tail1 us) (λ es. k (and_then a es))) (eat t_rp us (λ r vs. it (e_call f (k (and_then a no)) r.to) vs)))
after_arg n f k c a [] m b H G h1 h2 = tt
after_arg n f k c a (u ∷ us) m b H G h1 h2 = good_pick (P b) (same u.w t_comma) (args n f us (λ es. k (and_then a es))) (eat t_rp (u ∷ us) (λ r vs. it (e_call f (k (and_then a no)) r.to) vs)) (H us (omega arith)) (good_eat (P b) t_rp (u ∷ us) (λ r vs. it (e_call f (k (and_then a no)) r.to) vs) (λ r vs h3. omega (arith, G (and_then a no))))

after_name : (n : ℕ) (t : Tok) (ts : List Tok) (b : ℕ) → ((us : List Tok) → 2 + length us ≤ b → Good (P b) (calls n t us)) → suc (length ts) ≤ b → Good (P b) (pick (same (next ts) t_lp) (calls n t (tail1 ts)) (it (e_name t) ts))
after_name n t [] b H h = omega arith
after_name n t (u ∷ us) b H h = good_pick (P b) (same u.w t_lp) (calls n t us) (it (e_name t) (u ∷ us)) (H us (omega arith)) (omega arith)

mutual
  pub expr_few : (n : ℕ) (ts : List Tok) (b : ℕ) → length ts ≤ b → Good (P b) (expr n ts)
  expr_few zero ts b h = tt
  expr_few (suc n) ts b h = begins_few n ts (next ts) b h

  begins_few : (n : ℕ) (ts : List Tok) (w : Word) (b : ℕ) → length ts ≤ b → Good (P b) (begins n ts w)
  begins_few zero ts w b h = tt
  begins_few (suc n) ts w b h = good_pick (P b) (same w k_let) (lets n ts) (pick (same w k_if) (ifs n ts) (level n 1 ts)) (lets_few n ts b h) (good_pick (P b) (same w k_if) (ifs n ts) (level n 1 ts) (ifs_few n ts b h) (level_few n 1 ts b h))

  lets_few : (n : ℕ) (ts : List Tok) (b : ℕ) → length ts ≤ b → Good (P b) (lets n ts)
  lets_few zero ts b h = tt
  lets_few (suc n) ts b h = good_eat (P b) k_let ts _ (λ l us h1. good_with (Less (length us)) (P b) (a_word is_name us) _ (good_word is_name us) (λ x vs h2. good_eat (P b) t_gets vs _ (λ g xs h3. good_with (P (length xs)) (P b) (expr n xs) _ (expr_few n xs (length xs) (omega arith)) (λ a ys h4. good_eat (P b) k_in ys _ (λ i zs h5. good_with (P (length zs)) (P b) (expr n zs) _ (expr_few n zs (length zs) (omega arith)) (λ c rs h6. omega arith))))))

  ifs_few : (n : ℕ) (ts : List Tok) (b : ℕ) → length ts ≤ b → Good (P b) (ifs n ts)
  ifs_few zero ts b h = tt
  ifs_few (suc n) ts b h = good_eat (P b) k_if ts _ (λ l us h1. good_with (P (length us)) (P b) (expr n us) _ (expr_few n us (length us) (omega arith)) (λ a vs h2. good_eat (P b) k_then vs _ (λ g xs h3. good_with (P (length xs)) (P b) (expr n xs) _ (expr_few n xs (length xs) (omega arith)) (λ d ys h4. good_eat (P b) k_else ys _ (λ i zs h5. good_with (P (length zs)) (P b) (expr n zs) _ (expr_few n zs (length zs) (omega arith)) (λ c rs h6. omega arith))))))

  level_few : (n l : ℕ) (ts : List Tok) (b : ℕ) → length ts ≤ b → Good (P b) (level n l ts)
  level_few zero l ts b h = tt
  level_few (suc n) l ts b h = good_pick (P b) (eqb l 7) (atom n ts) _ (atom_few n ts b h) (good_pick (P b) (eqb l 3) _ _ (good_with (P b) (P b) (level n 4 ts) _ (level_few n 4 ts b h) (λ a us h1. compared n a us b (λ vs. level_few n 4 vs (length vs) (omega arith)) h1)) (good_with (P b) (P b) (level n (l + 1) ts) _ (level_few n (l + 1) ts b h) (λ a us h1. good_pick (P b) (eqb l 6) (fields n a us) (more n l a us) (fields_few n a us b h1) (more_few n l a us b h1))))

  more_few : (n l : ℕ) (a : E) (ts : List Tok) (b : ℕ) → pieces_of a + length ts ≤ b → Good (P b) (more n l a ts)
  more_few zero l a ts b h = tt
  more_few (suc n) l a [] b h = rw (op_none l) h
  more_few (suc n) l a (t ∷ ts) b h = good_opt (P b) (op_at l t.w) (it a (t ∷ ts)) _ h (λ o. good_with (P (length ts)) (P b) (level n (l + 1) ts) _ (level_few n (l + 1) ts (length ts) (omega arith)) (λ c us h1. more_few n l (e_op o a c) us b (omega arith)))

  fields_few : (n : ℕ) (a : E) (ts : List Tok) (b : ℕ) → pieces_of a + length ts ≤ b → Good (P b) (fields n a ts)
  fields_few zero a ts b h = tt
  fields_few (suc n) a [] b h = h
  fields_few (suc n) a (t ∷ ts) b h = good_pick (P b) (same t.w t_dot) _ (it a (t ∷ ts)) (good_with (Less (length ts)) (P b) (a_word is_name ts) _ (good_word is_name ts) (λ x us h1. fields_few n (e_field a x) us b (omega arith))) h

  atom_few : (n : ℕ) (ts : List Tok) (b : ℕ) → length ts ≤ b → Good (P b) (atom n ts)
  atom_few zero ts b h = tt
  atom_few (suc n) [] b h = tt
  atom_few (suc n) (t ∷ ts) b h = good_pick (P b) (same t.w t_lp) _ _ (good_with (P (length ts)) (P b) (expr n ts) _ (expr_few n ts (length ts) (omega arith)) (λ a us h1. good_eat (P b) t_rp us _ (λ r vs h2. omega arith))) (good_pick (P b) (is_number t.w) _ _ (good_pick (P b) (digits t.w) (it (e_num t) ts) (bad (t ∷ ts)) (omega arith) tt) (good_pick (P b) (is_name t.w) _ (bad (t ∷ ts)) (after_name n t ts b (λ us h1. calls_few n t us b h1) h) tt))

  calls_few : (n : ℕ) (f : Tok) (ts : List Tok) (b : ℕ) → 2 + length ts ≤ b → Good (P b) (calls n f ts)
  calls_few zero f ts b h = tt
  calls_few (suc n) f ts b h = good_pick (P b) (same (next ts) t_rp) _ (args n f ts (λ es. es)) (good_eat (P b) t_rp ts (λ r us. it (e_call f no r.to) us) (λ r us h1. omega arith)) (args_few n f ts (λ es. es) 0 b (λ es. (omega arith, omega arith)) (omega arith))

  args_few : (n : ℕ) (f : Tok) (ts : List Tok) (k : Es → Es) (c b : ℕ) → Grows c k → 2 + (c + length ts) ≤ b → Good (P b) (args n f ts k)
  args_few zero f ts k c b G h = tt
  args_few (suc n) f ts k c b G h = good_with (P (length ts)) (P b) (expr n ts) _ (expr_few n ts (length ts) (omega arith)) (λ a us h1. after_arg n f k c a us (length ts) b (λ vs h2. args_few n f vs (λ es. k (and_then a es)) (c + (pieces_of a + 1)) b (λ es. (omega (arith, G (and_then a es)), omega (arith, G (and_then a es)))) h2) G h1 h)

-- a whole line
abbrev Few : {A : Type 0} → (A → ℕ) → ℕ → A → List Tok → Type 0
Few f b x us = f x + length us ≤ b

slots_length : (fs : List Field) (os : List Op) → length (slots_onto fs os) ≡ length fs + length os
slots_length [] os = omega arith
slots_length (x ∷ xs) os = omega (arith, slots_length xs os)

consts_length : (ts : List Tok) → length (consts_code ts) ≡ length ts
consts_length [] = refl
consts_length (t ∷ ts) = ap suc (consts_length ts)

names_few : (n : ℕ) (ts : List Tok) → Good (Few length (length ts)) (names n ts)
names_few zero ts = tt
names_few (suc n) ts = good_with (Less (length ts)) (Few length (length ts)) (a_word is_name ts) _ (good_word is_name ts) (λ x us h. after x us h (λ vs. names_few n vs))
  where
    after : (x : Tok) (us : List Tok) → suc (length us) ≤ length ts → ((vs : List Tok) → Good (Few length (length vs)) (names n vs)) → Good (Few length (length ts)) (pick (same (next us) t_comma) (with1 (names n (tail1 us)) (λ xs vs. it (x ∷ xs) vs)) (it (x ∷ []) us))
    after x [] h H = omega arith
    after x (u ∷ us) h H = good_pick (Few length (length ts)) (same u.w t_comma) _ (it (x ∷ []) (u ∷ us)) (good_with (Few length (length us)) (Few length (length ts)) (names n us) _ (H us) (λ xs vs h1. omega arith)) (omega arith)

field_list_few : (n : ℕ) (ts : List Tok) → Good (Few length (length ts)) (field_list n ts)
field_list_few zero ts = tt
field_list_few (suc n) ts = good_with (Less (length ts)) (Few length (length ts)) (a_word is_name ts) _ (good_word is_name ts) (λ x us h. good_with (Less (length us)) (Few length (length ts)) (a_word is_type us) _ (good_word is_type us) (λ t vs h1. after x t vs (omega arith) (λ xs. field_list_few n xs)))
  where
    after : (x t : Tok) (vs : List Tok) → 2 + length vs ≤ length ts → ((xs : List Tok) → Good (Few length (length xs)) (field_list n xs)) → Good (Few length (length ts)) (pick (same (next vs) t_comma) (with1 (field_list n (tail1 vs)) (λ fs xs. it (record { name = x; ty = t } ∷ fs) xs)) (it (record { name = x; ty = t } ∷ []) vs))
    after x t [] h H = omega arith
    after x t (u ∷ us) h H = good_pick (Few length (length ts)) (same u.w t_comma) _ (it (record { name = x; ty = t } ∷ []) (u ∷ us)) (good_with (Few length (length us)) (Few length (length ts)) (field_list n us) _ (H us) (λ fs xs h1. omega arith)) (omega arith)

params_few : (n : ℕ) (ts : List Tok) → Good (Few length (length ts)) (params n ts)
params_few n ts = good_pick (Few length (length ts)) (same (next ts) t_rp) (it [] ts) (field_list n ts) (omega arith) (field_list_few n ts)

abbrev Small : ℕ → Item → List Tok → Type 0
Small b i us = length (item_code i) ≤ b

small_end : (i : Item) (us : List Tok) (b : ℕ) → length (item_code i) ≤ b → Good (Small b) (ended i us)
small_end i [] b h = h
small_end i (u ∷ us) b h = tt

module _ (n : ℕ) (ts : List Tok) (b : ℕ) (h : length ts ≤ b) where
  use_small : Good (Small (suc b)) (reads_use ts)
  use_small = good_with (Less (length ts)) (Small (suc b)) (a_word is_name ts) _ (good_word is_name ts) (λ x us h1. small_end (i_use x) us (suc b) (omega arith))

  kind_small : Good (Small (suc b)) (reads_kind n ts)
  kind_small = good_with (Less (length ts)) (Small (suc b)) (a_word is_name ts) _ (good_word is_name ts) (λ x us h1. good_eat (Small (suc b)) t_gets us _ (λ g vs h2. good_with (Few length (length vs)) (Small (suc b)) (names n vs) _ (names_few n vs) (λ xs ys h3. small_end (i_kind x xs) ys (suc b) (omega (arith, consts_length xs)))))

  rec_small : Good (Small (suc b)) (reads_rec n ts)
  rec_small = good_with (Less (length ts)) (Small (suc b)) (a_word is_name ts) _ (good_word is_name ts) (λ x us h1. good_eat (Small (suc b)) t_gets us _ (λ g vs h2. good_with (Few length (length vs)) (Small (suc b)) (field_list n vs) _ (field_list_few n vs) (λ fs ys h3. small_end (i_rec x fs) ys (suc b) (omega (arith, slots_length fs [])))))

  def_small : Good (Small (suc b)) (reads_def n ts)
  def_small = good_with (Less (length ts)) (Small (suc b)) (a_word is_name ts) _ (good_word is_name ts) (λ x us h1. good_eat (Small (suc b)) t_lp us _ (λ l vs h2. good_with (Few length (length vs)) (Small (suc b)) (params n vs) _ (params_few n vs) (λ ps xs h3. good_eat (Small (suc b)) t_rp xs _ (λ r ys h4. good_with (Less (length ys)) (Small (suc b)) (a_word is_type ys) _ (good_word is_type ys) (λ t zs h5. good_eat (Small (suc b)) t_gets zs _ (λ g rs h6. good_with (P (length rs)) (Small (suc b)) (expr n rs) _ (expr_few n rs (length rs) (omega arith)) (λ e qs h7. small_end (i_def x ps t e) qs (suc b) (omega (arith, slots_length ps (o_result t ∷ onto e (o_body ∷ [])), few e (o_body ∷ []))))))))))

settled_few : (all1 : List Tok) (g : Got Item) (b : ℕ) → 1 ≤ b → Good (Small b) g → length (item_code (settled all1 g)) ≤ b
settled_few all1 (it i ts) b l h = h
settled_few all1 (bad []) b l h = l
settled_few all1 (bad (t ∷ ts)) b l h = l

-- a line has no more operations than pieces
pub line_few : (ts : List Tok) → length (item_code (item_of ts)) ≤ length ts
line_few [] = omega arith
line_few (t ∷ ts) = settled_few (t ∷ ts) (reads1 (20 * (2 + length ts)) t ts) (suc (length ts)) (omega arith) (good_pick (Small (suc (length ts))) (same t.w k_use) _ _ (use_small 0 ts (length ts) (omega arith)) (good_pick (Small (suc (length ts))) (same t.w k_kind) _ _ (kind_small (20 * (2 + length ts)) ts (length ts) (omega arith)) (good_pick (Small (suc (length ts))) (same t.w k_rec) _ _ (rec_small (20 * (2 + length ts)) ts (length ts) (omega arith)) (good_pick (Small (suc (length ts))) (same t.w k_def) _ (bad (t ∷ ts)) (def_small (20 * (2 + length ts)) ts (length ts) (omega arith)) tt))))
