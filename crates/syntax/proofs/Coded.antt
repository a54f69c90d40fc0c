-- Reading a line straight into code comes to the code of the item that is read.
use Rattle.std.proofs.Common.{◌≡◌, ◌+◌, ◌*◌, Bool, true, false, List, [], ◌∷◌, ◌++◌, length, sym, refl, ap, ◌∙◌, append_assoc, append-nil, arith}
use Rattle.base.specs.Base.{pick, Word, same}
use Rattle.lexer.specs.Tokens.{Tok, next, tail1}
use Rattle.lexer.specs.Words.{is_name, is_type, t_gets, t_lp, t_rp, t_comma, k_use, k_kind, k_rec, k_def}
use Rattle.grammar.specs.Grammar.{E, Field, Item, i_use, i_kind, i_rec, i_def, Got, it, bad, with1, eat, a_word, expr, ended, reads_use}
use Rattle.grammar.specs.Code.{Op, o_const, o_new, o_slot, o_result, o_body, code, consts_code, slots_onto, item_code}
use Rattle.grammar.proofs.Free.{an_expr, expr_free}
use Rattle.grammar.proofs.Flat.{onto_is}
use Rattle.grammar.proofs.Items.{a_names, a_list, names_eq, list_eq, a_params, a_kind, a_rec, a_def, an_item}
use Rattle.syntax.specs.Reads.{word, entry, listed, after, then, ends, head, use_ops, start_ops, block_ops, params_ops, result_ops, body_ops, def_ops, item_ops, coded}
use Rattle.syntax.specs.declared.wanted.Wanted.{Wanted}
use Rattle.syntax.specs.declared.wanted.Wanted.TheVariants.{Name as AName, TypeWord as AType, Gets as AGets, Open as AOpen, Close as AClose}
use Rattle.syntax.specs.declared.lists.Listed.{Listed}
use Rattle.syntax.specs.declared.lists.Listed.TheVariants.{Names, Fields}

with_assoc : {A B C : Type 0} (g : Got A) (f : A → List Tok → Got B) (h : B → List Tok → Got C) → with1 (with1 g f) h ≡ with1 g (λ a us. with1 (f a us) h)
with_assoc (it a us) f h = refl
with_assoc (bad us) f h = refl

with_ext : {A B : Type 0} (g : Got A) (f h : A → List Tok → Got B) → ((a : A) (us : List Tok) → f a us ≡ h a us) → with1 g f ≡ with1 g h
with_ext (it a us) f h e = e a us
with_ext (bad us) f h e = refl

with_pick : {A B : Type 0} (b : Bool) (x y : Got A) (f : A → List Tok → Got B) → with1 (pick b x y) f ≡ pick b (with1 x f) (with1 y f)
with_pick true x y f = refl
with_pick false x y f = refl

coded_with : {A : Type 0} (g : Got A) (f : A → List Tok → Got Item) → coded (with1 g f) ≡ with1 g (λ a us. coded (f a us))
coded_with (it a us) f = refl
coded_with (bad us) f = refl

coded_pick : (b : Bool) (x y : Got Item) → coded (pick b x y) ≡ pick b (coded x) (coded y)
coded_pick true x y = refl
coded_pick false x y = refl

coded_ended : (i : Item) (us : List Tok) → coded (ended i us) ≡ ends (item_code i) us
coded_ended i [] = refl
coded_ended i (t ∷ ts) = refl

eat_is : {A : Type 0} (w : Word) (ts : List Tok) (f : Tok → List Tok → Got A) → eat w ts f ≡ with1 (a_word (λ v. same v w) ts) f
eat_is w [] f = refl
eat_is w (t ∷ ts) f = sym (with_pick (same t.w w) (it t ts) (bad (t ∷ ts)) f)

-- a list is an entry, and behind a comma the rest
abbrev pub rest : Listed → Op → List Tok → Got (List Op)
rest k o us = pick (same (next us) t_comma) (with1 (listed k (tail1 us)) (λ os vs. it (o ∷ os) vs)) (it (o ∷ []) us)

pub listed_eq : (k : Listed) (ts : List Tok) → listed k ts ≡ with1 (entry k ts) (rest k)
unfolding a_names a_list
listed_eq Names ts =
    ap (λ g. with1 g (λ xs us. it (consts_code xs) us)) (names_eq ts) ∙ with_assoc (a_word is_name ts) _ _ ∙
    with_ext (a_word is_name ts) _ _ (λ x us. with_pick (same (next us) t_comma) _ _ _ ∙ ap (λ g. pick (same (next us) t_comma) g (it (o_const x ∷ []) us)) (with_assoc (a_names (tail1 us)) _ _ ∙ sym (with_assoc (a_names (tail1 us)) (λ xs vs. it (consts_code xs) vs) (λ os vs. it (o_const x ∷ os) vs)))) ∙
    sym (with_assoc (a_word is_name ts) (λ x us. it (o_const x) us) (rest Names))
listed_eq Fields ts =
    ap (λ g. with1 g (λ fs us. it (slots_onto fs []) us)) (list_eq ts) ∙ with_assoc (a_word is_name ts) _ _ ∙
    with_ext (a_word is_name ts) _ _ (λ x us. with_assoc (a_word is_type us) _ _ ∙ with_ext (a_word is_type us) _ _ (λ t vs. with_pick (same (next vs) t_comma) _ _ _ ∙ ap (λ g. pick (same (next vs) t_comma) g (it (o_slot (record { name = x; ty = t }) ∷ []) vs)) (with_assoc (a_list (tail1 vs)) _ _ ∙ sym (with_assoc (a_list (tail1 vs)) (λ fs zs. it (slots_onto fs []) zs) (λ os zs. it (o_slot (record { name = x; ty = t }) ∷ os) zs)))) ∙ sym (with_assoc (a_word is_type us) (λ t vs. it (o_slot (record { name = x; ty = t })) vs) (rest Fields))) ∙
    sym (with_assoc (a_word is_name ts) (λ x us. with1 (a_word is_type us) (λ t vs. it (o_slot (record { name = x; ty = t })) vs)) (rest Fields))

slots_is : (fs : List Field) (os : List Op) → slots_onto fs os ≡ slots_onto fs [] ++ os
slots_is [] os = refl
slots_is (f ∷ fs) os = ap (λ l. o_slot f ∷ l) (slots_is fs os)

use_coded : (ts : List Tok) → coded (reads_use ts) ≡ use_ops ts
use_coded ts = coded_with (a_word is_name ts) _ ∙ with_ext (a_word is_name ts) _ _ (λ x us. coded_ended (i_use x) us)

-- a reading behind another, by the pieces of the first
after_with : {A : Type 0} (os : List Op) (g : Got A) (f : A → List Tok → Got (List Op)) → after os (with1 g f) ≡ with1 g (λ a us. after os (f a us))
after_with os (it a us) f = refl
after_with os (bad us) f = refl

after_after : (os ps : List Op) (g : Got (List Op)) → after os (after ps g) ≡ after (os ++ ps) g
after_after os ps (it qs us) = ap (λ l. it l us) (sym (append_assoc os ps qs))
after_after os ps (bad us) = refl

after_then : (os : List Op) (g : Got (List Op)) (f : List Tok → Got (List Op)) → after os (then g f) ≡ with1 g (λ ps us. after (os ++ ps) (f us))
after_then os (it ps us) f = after_after os ps (f us)
after_then os (bad us) f = refl

after_ends : (os ps : List Op) (us : List Tok) → after os (ends ps us) ≡ ends (os ++ ps) us
after_ends os ps [] = refl
after_ends os ps (t ∷ ts) = refl

start_then : (k : Listed) (w : Wanted) (ts : List Tok) (f : List Tok → Got (List Op)) → then (start_ops k w ts) f ≡ with1 (word AName ts) (λ x us. with1 (word w us) (λ g vs. after (head k x ∷ []) (f vs)))
start_then k w ts f = with_assoc (word AName ts) _ _ ∙ with_ext (word AName ts) _ _ (λ x us. with_assoc (word w us) _ _)

block_is : (k : Listed) (ts : List Tok) → block_ops k ts ≡ with1 (word AName ts) (λ x us. with1 (word AGets us) (λ g vs. with1 (listed k vs) (λ os ys. ends (head k x ∷ os) ys)))
block_is k ts = start_then k AGets ts _ ∙ with_ext (word AName ts) _ _ (λ x us. with_ext (word AGets us) _ _ (λ g vs. after_then (head k x ∷ []) (listed k vs) (ends []) ∙ with_ext (listed k vs) _ _ (λ os ys. after_ends (head k x ∷ os) [] ys ∙ ap (λ l. ends l ys) (append-nil (head k x ∷ os)))))

kind_coded : (ts : List Tok) → coded (a_kind ts) ≡ block_ops Names ts
unfolding a_names
kind_coded ts = coded_with (a_word is_name ts) _ ∙ with_ext (a_word is_name ts) _ _ (λ x us. ap coded (eat_is t_gets us _) ∙ coded_with (word AGets us) _ ∙ with_ext (word AGets us) _ _ (λ g vs. coded_with (a_names vs) _ ∙ with_ext (a_names vs) _ _ (λ xs ys. coded_ended (i_kind x xs) ys) ∙ sym (with_assoc (a_names vs) (λ xs ys. it (consts_code xs) ys) (λ os ys. ends (o_const x ∷ os) ys)))) ∙ sym (block_is Names ts)

rec_coded : (ts : List Tok) → coded (a_rec ts) ≡ block_ops Fields ts
unfolding a_list
rec_coded ts = coded_with (a_word is_name ts) _ ∙ with_ext (a_word is_name ts) _ _ (λ x us. ap coded (eat_is t_gets us _) ∙ coded_with (word AGets us) _ ∙ with_ext (word AGets us) _ _ (λ g vs. coded_with (a_list vs) _ ∙ with_ext (a_list vs) _ _ (λ fs ys. coded_ended (i_rec x fs) ys) ∙ sym (with_assoc (a_list vs) (λ fs ys. it (slots_onto fs []) ys) (λ os ys. ends (o_new x ∷ os) ys)))) ∙ sym (block_is Fields ts)

params_coded : (ts : List Tok) → params_ops ts ≡ with1 (a_params ts) (λ ps us. it (slots_onto ps []) us)
unfolding a_list
params_coded ts = sym (with_pick (same (next ts) t_rp) (it [] ts) (a_list ts) (λ ps us. it (slots_onto ps []) us))

def_code : (x r : Tok) (ps : List Field) (e : E) → item_code (i_def x ps r e) ≡ (o_new x ∷ (slots_onto ps [] ++ (o_result r ∷ []))) ++ (code e ++ (o_body ∷ []))
def_code x r ps e = ap (λ l. o_new x ∷ l) (slots_is ps _ ∙ ap (λ l. slots_onto ps [] ++ (o_result r ∷ l)) (onto_is e (o_body ∷ [])) ∙ sym (append_assoc (slots_onto ps []) (o_result r ∷ []) (code e ++ (o_body ∷ []))))

-- what follows a def's head, as the code so far grows
abbrev from_body : List Op → List Tok → Got (List Op)
from_body os us = after os (then (body_ops us) (ends (o_body ∷ [])))

abbrev from_result : List Op → List Tok → Got (List Op)
from_result os us = after os (then (result_ops us) (λ vs. then (body_ops vs) (ends (o_body ∷ []))))

body_is : (os : List Op) (us : List Tok) → from_body os us ≡ with1 (body_ops us) (λ c vs. ends (os ++ (c ++ (o_body ∷ []))) vs)
body_is os us = after_then os (body_ops us) (ends (o_body ∷ [])) ∙ with_ext (body_ops us) _ _ (λ c vs. after_ends (os ++ c) (o_body ∷ []) vs ∙ ap (λ l. ends l vs) (append_assoc os c (o_body ∷ [])))

body_coded : (x r : Tok) (ps : List Field) (us : List Tok) → coded (with1 (an_expr us) (λ e vs. ended (i_def x ps r e) vs)) ≡ from_body (o_new x ∷ (slots_onto ps [] ++ (o_result r ∷ []))) us
body_coded x r ps us =
    let os = o_new x ∷ (slots_onto ps [] ++ (o_result r ∷ [])) in
    coded_with (an_expr us) _ ∙ with_ext (an_expr us) _ _ (λ e vs. coded_ended (i_def x ps r e) vs ∙ ap (λ c. ends c vs) (def_code x r ps e)) ∙
    ap (λ g. with1 g (λ e vs. ends (os ++ (code e ++ (o_body ∷ []))) vs)) (sym (expr_free (10 * length us + 10) us (omega arith))) ∙
    sym (with_assoc (expr (10 * length us + 10) us) (λ e vs. it (code e) vs) (λ c vs. ends (os ++ (c ++ (o_body ∷ []))) vs)) ∙ sym (body_is os us)

result_is : (os : List Op) (us : List Tok) → from_result os us ≡ with1 (word AClose us) (λ r ys. with1 (word AType ys) (λ t zs. with1 (word AGets zs) (λ g rs. from_body (os ++ (o_result t ∷ [])) rs)))
result_is os us = after_then os (result_ops us) _ ∙ with_assoc (word AClose us) _ _ ∙ with_ext (word AClose us) _ _ (λ r ys. with_assoc (word AType ys) _ _ ∙ with_ext (word AType ys) _ _ (λ t zs. with_assoc (word AGets zs) _ _))

def_is : (ts : List Tok) → def_ops ts ≡ with1 (word AName ts) (λ x us. with1 (word AOpen us) (λ l vs. with1 (params_ops vs) (λ os xs. from_result (o_new x ∷ os) xs)))
def_is ts = start_then Fields AOpen ts _ ∙ with_ext (word AName ts) _ _ (λ x us. with_ext (word AOpen us) _ _ (λ l vs. after_then (o_new x ∷ []) (params_ops vs) _))

def_coded : (ts : List Tok) → coded (a_def ts) ≡ def_ops ts
def_coded ts =
    coded_with (a_word is_name ts) _ ∙ with_ext (a_word is_name ts) _ _ (λ x us. ap coded (eat_is t_lp us _) ∙ coded_with (word AOpen us) _ ∙ with_ext (word AOpen us) _ _ (λ l vs.
    coded_with (a_params vs) _ ∙ with_ext (a_params vs) _ _ (λ ps xs. ap coded (eat_is t_rp xs _) ∙ coded_with (word AClose xs) _ ∙ with_ext (word AClose xs) _ _ (λ r ys. coded_with (a_word is_type ys) _ ∙ with_ext (a_word is_type ys) _ _ (λ t zs.
    ap coded (eat_is t_gets zs _) ∙ coded_with (word AGets zs) _ ∙ with_ext (word AGets zs) _ _ (λ g rs. body_coded x t ps rs))) ∙ sym (result_is (o_new x ∷ slots_onto ps []) xs)) ∙
    sym (with_assoc (a_params vs) (λ ps us. it (slots_onto ps []) us) (λ os xs. from_result (o_new x ∷ os) xs)) ∙
    ap (λ g. with1 g (λ os xs. from_result (o_new x ∷ os) xs)) (sym (params_coded vs)))) ∙ sym (def_is ts)

pub item_coded : (t : Tok) (ts : List Tok) → coded (an_item t ts) ≡ item_ops t ts
item_coded t ts =
    coded_pick (same t.w k_use) _ _ ∙ (λ i. pick (same t.w k_use) (use_coded ts i) ((coded_pick (same t.w k_kind) (a_kind ts) (pick (same t.w k_rec) (a_rec ts) (pick (same t.w k_def) (a_def ts) (bad (t ∷ ts)))) ∙
    (λ i. pick (same t.w k_kind) (kind_coded ts i) ((coded_pick (same t.w k_rec) (a_rec ts) (pick (same t.w k_def) (a_def ts) (bad (t ∷ ts))) ∙
    (λ i. pick (same t.w k_rec) (rec_coded ts i) ((coded_pick (same t.w k_def) (a_def ts) (bad (t ∷ ts)) ∙ (λ i. pick (same t.w k_def) (def_coded ts i) (bad (t ∷ ts)))) i))) i))) i))
