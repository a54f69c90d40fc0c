-- Reading pieces without their places gives what reading them gives, without its places.
use mathlib.Core.Path.{◌≡◌, refl, sym, ap, ◌∙◌}
use mathlib.Core.Bool.{Bool, true, false}
use mathlib.Core.List.{List, [], ◌∷◌}
use mathlib.Core.Option.{Option, some, none}
use Prim.Native.Nat.{ℕ, zero, suc, ◌+◌, ◌*◌}
use lib.ListN.{length}
use lib.Dec.{eqb}
use Rattle.base.specs.Base.{pick, opt, Word, same}
use Rattle.lexer.specs.Tokens.{Tok, tok, next, tail1, end_of}
use Rattle.lexer.specs.Words.{op_at, compares, is_name, is_number, is_type, digits, k_let, k_in, k_if, k_then, k_else, k_use, k_kind, k_rec, k_def, t_lp, t_rp, t_comma, t_gets, t_dot}
use Rattle.grammar.specs.Grammar.{E, Es, no, and_then, e_num, e_name, e_call, e_field, e_op, Got, it, bad, with1, eat, a_word, expr, begins, lets, ifs, level, more, fields, atom, calls, args, Item, i_use, i_kind, i_rec, i_def, i_bad, names, field_list, params, ended, reads1, settled, item_of}
use Rattle.grammar.specs.Theorems.{bare_tok, bares, bare_e, bare_es, bare_fields, bare, words, WordsOnly}

-- what was read, by f, and what is left without its places
abbrev pub over : {A C : Type 0} → (A → C) → Got A → Got C
over f (it a us) = it (f a) (bares us)
over f (bad us) = bad (bares us)

next_bare : (ts : List Tok) → next (bares ts) ≡ next ts
next_bare [] = refl
next_bare (t ∷ ts) = refl

tail_bare : (ts : List Tok) → tail1 (bares ts) ≡ bares (tail1 ts)
tail_bare [] = refl
tail_bare (t ∷ ts) = refl

o_with : {A B C D : Type 0} (h : C → D) (k : A → B) (g : Got A) (g₁ : Got B) (f : A → List Tok → Got C) (f₁ : B → List Tok → Got D) → g₁ ≡ over k g → ((a : A) (us : List Tok) → f₁ (k a) (bares us) ≡ over h (f a us)) → with1 g₁ f₁ ≡ over h (with1 g f)
o_with h k (it a us) g₁ f f₁ e s = ap (λ x. with1 x f₁) e ∙ s a us
o_with h k (bad us) g₁ f f₁ e s = ap (λ x. with1 x f₁) e

o_pick : {C D : Type 0} (h : C → D) (b : Bool) (x y : Got C) (u v : Got D) → u ≡ over h x → v ≡ over h y → pick b u v ≡ over h (pick b x y)
o_pick h true x y u v p q = p
o_pick h false x y u v p q = q

-- a choice by the next word
o_next : {C D : Type 0} (h : C → D) (F : Word → Bool) (ts : List Tok) (x y : Got C) (u v : Got D) → u ≡ over h x → v ≡ over h y → pick (F (next (bares ts))) u v ≡ over h (pick (F (next ts)) x y)
o_next h F ts x y u v p q = ap (λ w. pick (F w) u v) (next_bare ts) ∙ o_pick h (F (next ts)) x y u v p q

o_opt : {C D : Type 0} (h : C → D) (F : Word → Option ℕ) (ts : List Tok) (x : Got C) (f : ℕ → Got C) (u : Got D) (g : ℕ → Got D) → u ≡ over h x → ((o : ℕ) → g o ≡ over h (f o)) → opt (F (next (bares ts))) u g ≡ over h (opt (F (next ts)) x f)
o_opt h F ts x f u g p q = ap (λ w. opt (F w) u g) (next_bare ts) ∙ go (F (next ts))
  where
    go : (o : Option ℕ) → opt o u g ≡ over h (opt o x f)
    go none = p
    go (some o) = q o

o_eat : {C D : Type 0} (h : C → D) (w : Word) (ts : List Tok) (f : Tok → List Tok → Got C) (f₁ : Tok → List Tok → Got D) → ((t : Tok) (us : List Tok) → f₁ (bare_tok t) (bares us) ≡ over h (f t us)) → eat w (bares ts) f₁ ≡ over h (eat w ts f)
o_eat h w [] f f₁ e = refl
o_eat h w (t ∷ ts) f f₁ e = o_pick h (same t.w w) (f t ts) (bad (t ∷ ts)) _ _ (e t ts) refl

o_word : (ok : Word → Bool) (ts : List Tok) → a_word ok (bares ts) ≡ over bare_tok (a_word ok ts)
o_word ok [] = refl
o_word ok (t ∷ ts) = o_pick bare_tok (ok t.w) (it t ts) (bad (t ∷ ts)) _ _ refl refl

mutual
  pub over_expr : (n : ℕ) (ts : List Tok) → expr n (bares ts) ≡ over bare_e (expr n ts)
  over_expr zero ts = refl
  over_expr (suc n) ts = ap (begins n (bares ts)) (next_bare ts) ∙ over_begins n ts (next ts)

  over_begins : (n : ℕ) (ts : List Tok) (w : Word) → begins n (bares ts) w ≡ over bare_e (begins n ts w)
  over_begins zero ts w = refl
  over_begins (suc n) ts w = o_pick bare_e (same w k_let) _ _ _ _ (over_lets n ts) (o_pick bare_e (same w k_if) _ _ _ _ (over_ifs n ts) (over_level n 1 ts))

  over_lets : (n : ℕ) (ts : List Tok) → lets n (bares ts) ≡ over bare_e (lets n ts)
  over_lets zero ts = refl
  over_lets (suc n) ts = o_eat bare_e k_let ts _ _ (λ l us. o_with bare_e bare_tok (a_word is_name us) _ _ _ (o_word is_name us) (λ x vs. o_eat bare_e t_gets vs _ _ (λ g xs. o_with bare_e bare_e (expr n xs) _ _ _ (over_expr n xs) (λ a ys.
      o_eat bare_e k_in ys _ _ (λ i zs. o_with bare_e bare_e (expr n zs) _ _ _ (over_expr n zs) (λ b rs. refl))))))

  over_ifs : (n : ℕ) (ts : List Tok) → ifs n (bares ts) ≡ over bare_e (ifs n ts)
  over_ifs zero ts = refl
  over_ifs (suc n) ts = o_eat bare_e k_if ts _ _ (λ l us. o_with bare_e bare_e (expr n us) _ _ _ (over_expr n us) (λ a vs. o_eat bare_e k_then vs _ _ (λ g xs. o_with bare_e bare_e (expr n xs) _ _ _ (over_expr n xs) (λ b ys.
      o_eat bare_e k_else ys _ _ (λ i zs. o_with bare_e bare_e (expr n zs) _ _ _ (over_expr n zs) (λ c rs. refl))))))

  over_level : (n l : ℕ) (ts : List Tok) → level n l (bares ts) ≡ over bare_e (level n l ts)
  over_level zero l ts = refl
  over_level (suc n) l ts = o_pick bare_e (eqb l 7) _ _ _ _ (over_atom n ts) (o_pick bare_e (eqb l 3) _ _ _ _
      (o_with bare_e bare_e (level n 4 ts) _ _ _ (over_level n 4 ts) (λ a us. o_opt bare_e compares us (it a us) _ _ _ refl (λ o. o_with bare_e bare_e (level n 4 (tail1 us)) _ _ _ (ap (level n 4) (tail_bare us) ∙ over_level n 4 (tail1 us)) (λ b vs. refl))))
      (o_with bare_e bare_e (level n (l + 1) ts) _ _ _ (over_level n (l + 1) ts) (λ a us. o_pick bare_e (eqb l 6) _ _ _ _ (over_fields n a us) (over_more n l a us))))

  over_more : (n l : ℕ) (a : E) (ts : List Tok) → more n l (bare_e a) (bares ts) ≡ over bare_e (more n l a ts)
  over_more zero l a ts = refl
  over_more (suc n) l a ts = o_opt bare_e (op_at l) ts (it a ts) _ _ _ refl (λ o. o_with bare_e bare_e (level n (l + 1) (tail1 ts)) _ _ _ (ap (level n (l + 1)) (tail_bare ts) ∙ over_level n (l + 1) (tail1 ts)) (λ b us. over_more n l (e_op o a b) us))

  over_fields : (n : ℕ) (a : E) (ts : List Tok) → fields n (bare_e a) (bares ts) ≡ over bare_e (fields n a ts)
  over_fields zero a ts = refl
  over_fields (suc n) a ts = o_next bare_e (λ w. same w t_dot) ts _ _ _ _ (o_with bare_e bare_tok (a_word is_name (tail1 ts)) _ _ _ (ap (a_word is_name) (tail_bare ts) ∙ o_word is_name (tail1 ts)) (λ x us. over_fields n (e_field a x) us)) refl

  over_atom : (n : ℕ) (ts : List Tok) → atom n (bares ts) ≡ over bare_e (atom n ts)
  over_atom zero ts = refl
  over_atom (suc n) [] = refl
  over_atom (suc n) (t ∷ ts) =
      o_pick bare_e (same t.w t_lp) _ _ _ _ (o_with bare_e bare_e (expr n ts) _ _ _ (over_expr n ts) (λ a us. o_eat bare_e t_rp us _ _ (λ r vs. refl)))
      (o_pick bare_e (is_number t.w) _ _ _ _ (o_pick bare_e (digits t.w) (it (e_num t) ts) (bad (t ∷ ts)) _ _ refl refl)
      (o_pick bare_e (is_name t.w) _ (bad (t ∷ ts)) _ _ (o_next bare_e (λ w. same w t_lp) ts (calls n t (tail1 ts)) (it (e_name t) ts) _ _ (ap (calls n (bare_tok t)) (tail_bare ts) ∙ over_calls n t (tail1 ts)) refl) refl))

  over_calls : (n : ℕ) (f : Tok) (ts : List Tok) → calls n (bare_tok f) (bares ts) ≡ over bare_e (calls n f ts)
  over_calls zero f ts = refl
  over_calls (suc n) f ts = o_next bare_e (λ w. same w t_rp) ts _ _ _ _ (o_eat bare_e t_rp ts _ _ (λ r us. refl)) (over_args n f ts (λ es. es) (λ es. es) (λ es. refl))

  over_args : (n : ℕ) (f : Tok) (ts : List Tok) (k k₁ : Es → Es) → ((es : Es) → k₁ (bare_es es) ≡ bare_es (k es)) → args n (bare_tok f) (bares ts) k₁ ≡ over bare_e (args n f ts k)
  over_args zero f ts k k₁ e = refl
  over_args (suc n) f ts k k₁ e = o_with bare_e bare_e (expr n ts) _ _ _ (over_expr n ts) (λ a us. o_next bare_e (λ w. same w t_comma) us _ _ _ _
      (ap (λ vs. args n (bare_tok f) vs (λ es. k₁ (and_then (bare_e a) es))) (tail_bare us) ∙ over_args n f (tail1 us) (λ es. k (and_then a es)) (λ es. k₁ (and_then (bare_e a) es)) (λ es. e (and_then a es)))
      (o_eat bare_e t_rp us _ _ (λ r vs. ap (λ es. it (e_call (bare_tok f) es 0) (bares vs)) (e (and_then a no)))))

over_names : (n : ℕ) (ts : List Tok) → names n (bares ts) ≡ over bares (names n ts)
over_names zero ts = refl
over_names (suc n) ts = o_with bares bare_tok (a_word is_name ts) _ _ _ (o_word is_name ts) (λ x us. o_next bares (λ w. same w t_comma) us _ (it (x ∷ []) us) _ _ (o_with bares bares (names n (tail1 us)) _ _ _ (ap (names n) (tail_bare us) ∙ over_names n (tail1 us)) (λ xs vs. refl)) refl)

over_list : (n : ℕ) (ts : List Tok) → field_list n (bares ts) ≡ over bare_fields (field_list n ts)
over_list zero ts = refl
over_list (suc n) ts = o_with bare_fields bare_tok (a_word is_name ts) _ _ _ (o_word is_name ts) (λ x us. o_with bare_fields bare_tok (a_word is_type us) _ _ _ (o_word is_type us) (λ t vs.
    o_next bare_fields (λ w. same w t_comma) vs _ (it (record { name = x; ty = t } ∷ []) vs) _ _ (o_with bare_fields bare_fields (field_list n (tail1 vs)) _ _ _ (ap (field_list n) (tail_bare vs) ∙ over_list n (tail1 vs)) (λ fs xs. refl)) refl))

over_params : (n : ℕ) (ts : List Tok) → params n (bares ts) ≡ over bare_fields (params n ts)
over_params n ts = o_next bare_fields (λ w. same w t_rp) ts (it [] ts) _ _ _ refl (over_list n ts)

over_ended : (i : Item) (ts : List Tok) → ended (bare i) (bares ts) ≡ over bare (ended i ts)
over_ended i [] = refl
over_ended i (t ∷ ts) = refl

pub over_reads : (n : ℕ) (t : Tok) (ts : List Tok) → reads1 n (bare_tok t) (bares ts) ≡ over bare (reads1 n t ts)
over_reads n t ts =
    o_pick bare (same t.w k_use) _ _ _ _ (o_with bare bare_tok (a_word is_name ts) _ _ _ (o_word is_name ts) (λ x us. over_ended (i_use x) us))
    (o_pick bare (same t.w k_kind) _ _ _ _ (o_with bare bare_tok (a_word is_name ts) _ _ _ (o_word is_name ts) (λ x us. o_eat bare t_gets us _ _ (λ g vs. o_with bare bares (names n vs) _ _ _ (over_names n vs) (λ xs ys. over_ended (i_kind x xs) ys))))
    (o_pick bare (same t.w k_rec) _ _ _ _ (o_with bare bare_tok (a_word is_name ts) _ _ _ (o_word is_name ts) (λ x us. o_eat bare t_gets us _ _ (λ g vs. o_with bare bare_fields (field_list n vs) _ _ _ (over_list n vs) (λ fs ys. over_ended (i_rec x fs) ys))))
    (o_pick bare (same t.w k_def) _ (bad (t ∷ ts)) _ _ (o_with bare bare_tok (a_word is_name ts) _ _ _ (o_word is_name ts) (λ x us. o_eat bare t_lp us _ _ (λ l vs. o_with bare bare_fields (params n vs) _ _ _ (over_params n vs) (λ ps xs. o_eat bare t_rp xs _ _ (λ r ys.
    o_with bare bare_tok (a_word is_type ys) _ _ _ (o_word is_type ys) (λ y zs. o_eat bare t_gets zs _ _ (λ g rs. o_with bare bare_e (expr n rs) _ _ _ (over_expr n rs) (λ e qs. over_ended (i_def x ps y e) qs))))))))
    refl)))

long_bare : (ts : List Tok) → length (bares ts) ≡ length ts
long_bare [] = refl
long_bare (t ∷ ts) = ap suc (long_bare ts)

end_bare : (ts : List Tok) → end_of (bares ts) ≡ 0
end_bare [] = refl
end_bare (t ∷ []) = refl
end_bare (t ∷ u ∷ ts) = end_bare (u ∷ ts)

over_settled : (ts : List Tok) (g : Got Item) → settled (bares ts) (over bare g) ≡ bare (settled ts g)
over_settled ts (it i us) = refl
over_settled ts (bad []) = ap (λ n. i_bad n n) (end_bare ts)
over_settled ts (bad (u ∷ us)) = refl

-- what pieces without their places say
pub item_bare : (ts : List Tok) → item_of (bares ts) ≡ bare (item_of ts)
item_bare [] = refl
item_bare (t ∷ ts) = ap (λ n. settled (bares (t ∷ ts)) (reads1 (20 * (2 + n)) (bare_tok t) (bares ts))) (long_bare ts) ∙ ap (settled (bares (t ∷ ts))) (over_reads (20 * (2 + length ts)) t ts) ∙ over_settled (t ∷ ts) (reads1 (20 * (2 + length ts)) t ts)

abbrev placed : List Word → List Tok
placed [] = []
placed (w ∷ ws) = tok w 0 0 ∷ placed ws

by_words : (ts : List Tok) → bares ts ≡ placed (words ts)
by_words [] = refl
by_words (t ∷ ts) = ap (λ us. bare_tok t ∷ us) (by_words ts)

pub words_only : WordsOnly
words_only ts us e = sym (item_bare ts) ∙ ap item_of (by_words ts ∙ ap placed e ∙ sym (by_words us)) ∙ item_bare us
