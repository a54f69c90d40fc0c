-- A whole item, without the number that bounds how deep calls go.
use mathlib.Core.Path.{◌≡◌, refl, ap}
use mathlib.Core.List.{List, [], ◌∷◌}
use Prim.Native.Nat.{ℕ, zero, suc, ◌+◌, ◌*◌, ◌≤◌}
use native.Mathlib.Omega.{arith}
use lib.ListN.{length}
use Rattle.base.specs.Base.{pick, same}
use Rattle.lexer.specs.Tokens.{Tok, next, tail1}
use Rattle.lexer.specs.Words.{is_name, is_type, t_lp, t_rp, t_comma, t_gets, k_use, k_kind, k_rec, k_def}
use Rattle.grammar.specs.Grammar.{Field, Item, i_kind, i_rec, i_def, Got, it, bad, with1, eat, a_word, expr, names, field_list, params, ended, reads_use, reads_kind, reads_rec, reads_def, reads1, settled, item_of}
use Rattle.grammar.proofs.Fuel.{Within, w_word, w_with, w_pick, w_it, w_bad, tail_most}
use Rattle.grammar.proofs.Same.{s_with, s_pick, s_eat}
use Rattle.grammar.proofs.Free.{an_expr, expr_free}

abbrev pub b_names : (List Tok → Got (List Tok)) → List Tok → Got (List Tok)
b_names f ts = with1 (a_word is_name ts) (λ x us. pick (same (next us) t_comma) (with1 (f (tail1 us)) (λ xs vs. it (x ∷ xs) vs)) (it (x ∷ []) us))

abbrev pub b_list : (List Tok → Got (List Field)) → List Tok → Got (List Field)
b_list f ts = with1 (a_word is_name ts) (λ x us. with1 (a_word is_type us) (λ t vs. pick (same (next vs) t_comma) (with1 (f (tail1 vs)) (λ fs xs. it (record { name = x; ty = t } ∷ fs) xs)) (it (record { name = x; ty = t } ∷ []) vs)))

names_same : (f g : List Tok → Got (List Tok)) (ts : List Tok) → ((us : List Tok) → suc (length us) ≤ length ts → f us ≡ g us) → b_names f ts ≡ b_names g ts
names_same f g [] e = refl
names_same f g (t ∷ ts) e = s_with (length ts) (a_word is_name (t ∷ ts)) _ _ _ (w_word (length ts) is_name (t ∷ ts) (omega arith)) refl (λ x us h. ap (λ q. pick (same (next us) t_comma) (with1 q (λ xs vs. it (x ∷ xs) vs)) (it (x ∷ []) us)) (e (tail1 us) (omega (arith, tail_most us))))

list_same : (f g : List Tok → Got (List Field)) (ts : List Tok) → ((us : List Tok) → suc (length us) ≤ length ts → f us ≡ g us) → b_list f ts ≡ b_list g ts
list_same f g [] e = refl
list_same f g (t ∷ ts) e = s_with (length ts) (a_word is_name (t ∷ ts)) _ _ _ (w_word (length ts) is_name (t ∷ ts) (omega arith)) refl (λ x us h.
    s_with (length us) (a_word is_type us) _ _ _ (w_word (length us) is_type us (omega arith)) refl (λ y vs k. ap (λ q. pick (same (next vs) t_comma) (with1 q (λ fs xs. it (record { name = x; ty = y } ∷ fs) xs)) (it (record { name = x; ty = y } ∷ []) vs)) (e (tail1 vs) (omega (arith, tail_most vs)))))

pub same_names : (n m : ℕ) (ts : List Tok) → suc (length ts) ≤ n → suc (length ts) ≤ m → names n ts ≡ names m ts
same_names zero m ts p q = absurd (omega arith)
same_names (suc n) zero ts p q = absurd (omega arith)
same_names (suc n) (suc m) ts p q = names_same (names n) (names m) ts (λ us h. same_names n m us (omega arith) (omega arith))

pub same_list : (n m : ℕ) (ts : List Tok) → suc (length ts) ≤ n → suc (length ts) ≤ m → field_list n ts ≡ field_list m ts
same_list zero m ts p q = absurd (omega arith)
same_list (suc n) zero ts p q = absurd (omega arith)
same_list (suc n) (suc m) ts p q = list_same (field_list n) (field_list m) ts (λ us h. same_list n m us (omega arith) (omega arith))

pub within_list : (n : ℕ) (ts : List Tok) → Within (length ts) (field_list n ts)
within_list zero ts = w_bad _ _
within_list (suc n) [] = w_bad _ _
within_list (suc n) (t ∷ ts) = let k = suc (length ts) in w_with (length ts) k (a_word is_name (t ∷ ts)) _ (w_word (length ts) is_name (t ∷ ts) (omega arith)) (λ x us h.
    w_with (length us) k (a_word is_type us) _ (w_word (length us) is_type us (omega arith)) (λ y vs l. w_pick k (same (next vs) t_comma) _ _ (w_with (length (tail1 vs)) k (field_list n (tail1 vs)) _ (within_list n (tail1 vs)) (λ fs xs r. w_it k _ xs (omega (arith, tail_most vs)))) (w_it k _ vs (omega arith))))

unfoldable pub a_names : List Tok → Got (List Tok)
a_names ts = names (suc (length ts)) ts

unfoldable pub a_list : List Tok → Got (List Field)
a_list ts = field_list (suc (length ts)) ts

pub names_eq : (ts : List Tok) → a_names ts ≡ b_names a_names ts
unfolding a_names
names_eq ts = names_same (names (length ts)) a_names ts (λ us h. same_names (length ts) (suc (length us)) us h (omega arith))

pub list_eq : (ts : List Tok) → a_list ts ≡ b_list a_list ts
unfolding a_list
list_eq ts = list_same (field_list (length ts)) a_list ts (λ us h. same_list (length ts) (suc (length us)) us h (omega arith))

abbrev pub a_params : List Tok → Got (List Field)
a_params ts = pick (same (next ts) t_rp) (it [] ts) (a_list ts)

abbrev pub a_kind : List Tok → Got Item
a_kind ts = with1 (a_word is_name ts) (λ x us. eat t_gets us (λ g vs. with1 (a_names vs) (λ xs ys. ended (i_kind x xs) ys)))

abbrev pub a_rec : List Tok → Got Item
a_rec ts = with1 (a_word is_name ts) (λ x us. eat t_gets us (λ g vs. with1 (a_list vs) (λ fs ys. ended (i_rec x fs) ys)))

abbrev pub a_def : List Tok → Got Item
a_def ts = with1 (a_word is_name ts) (λ x us. eat t_lp us (λ l vs. with1 (a_params vs) (λ ps xs. eat t_rp xs (λ r ys. with1 (a_word is_type ys) (λ t zs. eat t_gets zs (λ g rs. with1 (an_expr rs) (λ e qs. ended (i_def x ps t e) qs)))))))

abbrev pub an_item : Tok → List Tok → Got Item
an_item t ts = pick (same t.w k_use) (reads_use ts) (pick (same t.w k_kind) (a_kind ts) (pick (same t.w k_rec) (a_rec ts) (pick (same t.w k_def) (a_def ts) (bad (t ∷ ts)))))

s_with0 : {A C : Type 0} (g h : Got A) (f : A → List Tok → Got C) → g ≡ h → with1 g f ≡ with1 h f
s_with0 g h f e = ap (λ x. with1 x f) e

pub w_params : (n : ℕ) (ts : List Tok) → Within (length ts) (params n ts)
w_params n ts = w_pick (length ts) (same (next ts) t_rp) _ _ (w_it (length ts) _ ts (omega arith)) (within_list n ts)

pub kind_free : (n : ℕ) (ts : List Tok) → length ts ≤ n → reads_kind n ts ≡ a_kind ts
unfolding a_names
kind_free n ts h = s_with (length ts) (a_word is_name ts) _ _ _ (w_word (length ts) is_name ts (omega arith)) refl (λ x us k. s_eat t_gets us _ _ (λ g vs l. s_with0 (names n vs) (a_names vs) _ (same_names n (suc (length vs)) vs (omega arith) (omega arith))))

pub rec_free : (n : ℕ) (ts : List Tok) → length ts ≤ n → reads_rec n ts ≡ a_rec ts
unfolding a_list
rec_free n ts h = s_with (length ts) (a_word is_name ts) _ _ _ (w_word (length ts) is_name ts (omega arith)) refl (λ x us k. s_eat t_gets us _ _ (λ g vs l. s_with0 (field_list n vs) (a_list vs) _ (same_list n (suc (length vs)) vs (omega arith) (omega arith))))

pub def_free : (n : ℕ) (ts : List Tok) → 10 * length ts + 10 ≤ n → reads_def n ts ≡ a_def ts
unfolding a_list
def_free n ts h = s_with (length ts) (a_word is_name ts) _ _ _ (w_word (length ts) is_name ts (omega arith)) refl (λ x us h1. s_eat t_lp us _ _ (λ l vs h2.
    s_with (length vs) (params n vs) (a_params vs) _ _ (w_params n vs) (s_pick (same (next vs) t_rp) _ _ _ _ (λ p. refl) (λ p. same_list n (suc (length vs)) vs (omega arith) (omega arith))) (λ ps xs h3. s_eat t_rp xs _ _ (λ r ys h4.
    s_with (length ys) (a_word is_type ys) _ _ _ (w_word (length ys) is_type ys (omega arith)) refl (λ t zs h5. s_eat t_gets zs _ _ (λ g rs h6. s_with0 (expr n rs) (an_expr rs) _ (expr_free n rs (omega arith))))))))

-- whatever number bounds the depth of the calls, once it is at least 10 for each piece and 10 more
pub reads_free : (n : ℕ) (t : Tok) (ts : List Tok) → 10 * length ts + 10 ≤ n → reads1 n t ts ≡ an_item t ts
reads_free n t ts h = s_pick (same t.w k_use) _ _ _ _ (λ p. refl) (λ p. s_pick (same t.w k_kind) _ _ _ _ (λ q. kind_free n ts (omega arith)) (λ q. s_pick (same t.w k_rec) _ _ _ _ (λ r. rec_free n ts (omega arith)) (λ r.
    s_pick (same t.w k_def) _ _ _ _ (λ s. def_free n ts (omega arith)) (λ s. refl))))

pub item_free : (t : Tok) (ts : List Tok) → item_of (t ∷ ts) ≡ settled (t ∷ ts) (an_item t ts)
item_free t ts = ap (settled (t ∷ ts)) (reads_free (20 * (2 + length ts)) t ts (omega arith))
