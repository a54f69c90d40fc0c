-- Every answer over texts is that over what is read of them.
use mathlib.Core.Path.{◌≡◌, refl, sym, ap, ◌∙◌}
use mathlib.Core.Bool.{Bool, true, false}
use mathlib.Core.List.{List, [], ◌∷◌, ◌++◌}
use mathlib.Core.Option.{Option, some, none}
use Prim.Native.Nat.{ℕ, ◌+◌, ◌-◌}
use lib.ListN.{length}
use lib.Dec.{eqb}
use Rattle.base.specs.Base.{pick, opt, on_some, is_some, Word, same}
use Rattle.lexer.specs.Tokens.{Line, lines, pieces}
use Rattle.lexer.specs.Words.{k_num, k_bool}
use Rattle.grammar.specs.Grammar.{item_of, Field}
use Rattle.semantics.specs.Names.{File, Texts, find_file, t_num, t_bool, Decl, decls_item, decls_lines, find_decl, uses_item, uses_lines, used, Found, unknown, several, one, in_file, among_used, meaning, found_type, type_named, slots, s_type, s_const, s_rec, s_def, sig_decl, sig_of, sig}
use Rattle.semantics.specs.Check.{Link, types_in, links_in, of_item}
use Rattle.semantics.specs.Answers.{there, there_file, declared, Spoken, spoken, all_spoken, faults_of, faults, line_at, smallest, type_words, type_of, link_at, place, where_is}
use Rattle.semantics.specs.Read.{Source, rows_of, source, sources, find_source, r_decls, with_used, r_uses, r_in_file, found_too, r_among_used, r_meaning, r_type_named, r_slots, r_sig_decl, r_sig_of, r_sig, r_there, r_there_file, r_spoken, r_all_spoken, r_faults, r_type_of, r_place, r_where_is}
use Rattle.semantics.specs.Theorems.{ItemsOnly}

decls_read : (ls : List Line) → decls_lines ls ≡ r_decls (rows_of ls)
decls_read [] = refl
decls_read (l ∷ ls) = ap (λ ds. decls_item l.start (item_of (pieces l)) ++ ds) (decls_read ls)

uses_read : (me : Word) (ls : List Line) (ws : List Word) → uses_lines me ls ws ≡ r_uses me (rows_of ls) ws
uses_read me [] ws = refl
uses_read me (l ∷ ls) ws = uses_read me ls (with_used me ws (uses_item (item_of (pieces l))))

-- what is asked of a file, asked of its source
found : {C : Type 0} (p : Texts) (f : Word) (c : C) (h : File → C) (k : Source → C) → ((x : File) → h x ≡ k (source x)) → opt (find_file p f) c h ≡ opt (find_source (sources p) f) c k
found [] f c h k e = refl
found (x ∷ xs) f c h k e = go (same x.name f) (found xs f c h k e)
  where
    go : (b : Bool) → opt (find_file xs f) c h ≡ opt (find_source (sources xs) f) c k → opt (pick b (some x) (find_file xs f)) c h ≡ opt (pick b (some (source x)) (find_source (sources xs) f)) c k
    go true q = e x
    go false q = q

on_some_opt : {A C : Type 0} (o : Option A) (f : A → Option C) → on_some o f ≡ opt o none f
on_some_opt none f = refl
on_some_opt (some x) f = refl

is_some_opt : {A : Type 0} (o : Option A) → is_some o ≡ opt o false (λ x. true)
is_some_opt none = refl
is_some_opt (some x) = refl

found_some : {C : Type 0} (p : Texts) (f : Word) (h : File → Option C) (k : Source → Option C) → ((x : File) → h x ≡ k (source x)) → on_some (find_file p f) h ≡ on_some (find_source (sources p) f) k
found_some p f h k e = on_some_opt (find_file p f) h ∙ found p f none h k e ∙ sym (on_some_opt (find_source (sources p) f) k)

module _ (p : Texts) where
  in_read : (f w : Word) → in_file p f w ≡ r_in_file (sources p) f w
  in_read f w = found_some p f _ _ (λ x. ap (λ ds. on_some (find_decl ds w) (λ d. some (record { file = f; decl1 = d }))) (decls_read (lines x.text)))

  among_read : (w : Word) (gs : List Word) (r : Found) → among_used p w gs r ≡ r_among_used (sources p) w gs r
  among_read w [] r = refl
  among_read w (g ∷ gs) r = among_read w gs _ ∙ ap (λ o. r_among_used (sources p) w gs (opt o r (λ a. found_too r a))) (in_read g w)

  meaning_read : (f w : Word) → meaning p f w ≡ r_meaning (sources p) f w
  meaning_read f w = ap (λ o. opt o (opt (find_file p f) unknown (λ x. among_used p w (used x) unknown)) one) (in_read f w)
      ∙ ap (λ c. opt (r_in_file (sources p) f w) c one) (found p f unknown _ (λ x. r_among_used (sources p) w (r_uses x.name x.rows []) unknown) (λ x. among_read w (used x) unknown ∙ ap (λ us. r_among_used (sources p) w us unknown) (uses_read x.name (lines x.text) [])))

  type_read : (f w : Word) → type_named p f w ≡ r_type_named (sources p) f w
  type_read f w = ap (λ m. pick (same w k_num) (some t_num) (pick (same w k_bool) (some t_bool) (found_type m))) (meaning_read f w)

  slots_read : (f : Word) (xs : List Field) → slots p f xs ≡ r_slots (sources p) f xs
  slots_read f [] = refl
  slots_read f (x ∷ xs) = λ i. record { name = x.name.w; ty = type_read f x.ty.w i } ∷ slots_read f xs i

  decl_read : (f : Word) (d : Decl) → sig_decl p f d ≡ r_sig_decl (sources p) f d
  decl_read f d = λ i. pick (eqb d.sort 0) (s_type f d.name) (pick (eqb d.sort 1) (s_const f d.name (type_read f d.ty i)) (pick (eqb d.sort 2) (s_rec f d.name (slots_read f d.fields i)) (s_def f d.name (slots_read f d.fields i) (type_read f d.ty i))))

  sig_of_read : (m : Found) → sig_of p m ≡ r_sig_of (sources p) m
  sig_of_read unknown = refl
  sig_of_read several = refl
  sig_of_read (one a) = decl_read a.file a.decl1

  sig_read : (f w : Word) → sig p f w ≡ r_sig (sources p) f w
  sig_read f w = sig_of_read (meaning p f w) ∙ ap (r_sig_of (sources p)) (meaning_read f w)

  there_read : (f n : Word) → there p f n ≡ r_there (sources p) f n
  there_read f n = sig_of_read (opt (in_file p f n) unknown one) ∙ ap (λ o. r_sig_of (sources p) (opt o unknown one)) (in_read f n)

  file_read : (f : Word) → there_file p f ≡ r_there_file (sources p) f
  file_read f = is_some_opt (find_file p f) ∙ found p f false (λ x. true) (λ x. true) (λ x. refl) ∙ sym (is_some_opt (find_source (sources p) f))

  spoken_read : (f : Word) (before : List Word) (ls : List Line) → spoken p f before ls ≡ r_spoken (sources p) f before (rows_of ls)
  spoken_read f before [] = refl
  spoken_read f before (l ∷ ls) = λ i. record { start = l.start; long = length l.bytes; says = of_item f (λ w. sig_read f w i) (λ g n. there_read g n i) (λ g. file_read g i) before (item_of (pieces l)) } ∷ spoken_read f (before ++ declared l) ls i

  all_read : (x : File) → all_spoken p x ≡ r_all_spoken (sources p) (source x)
  all_read x = spoken_read x.name [] (lines x.text)

  pub faults_read : (f : Word) → faults p f ≡ r_faults (sources p) f
  faults_read f = found_some p f _ _ (λ x. ap (λ ss. some (faults_of ss)) (all_read x))

  pub type_of_read : (f : Word) (n : ℕ) → type_of p f n ≡ r_type_of (sources p) f n
  type_of_read f n = found_some p f _ _ (λ x. ap (λ ss. some (opt (line_at n ss) (0 ∷ []) (λ s. type_words (on_some (smallest (n - s.start) (types_in s.says) none) (λ t. some t.ty))))) (all_read x))

  place_read : (f : Word) (s : Spoken) (l : Link) → place p f s l ≡ r_place (sources p) f s l
  place_read f s l = ap (λ o. pick (eqb l.sort 0) (opt o [] (λ a. (a.decl1.start + a.decl1.from) ∷ (a.decl1.start + a.decl1.to) ∷ l.file)) (pick (eqb l.sort 1) ((s.start + l.at) ∷ (s.start + (l.at + length l.name)) ∷ f) (0 ∷ 0 ∷ l.file))) (in_read l.file l.name)

  pub where_read : (f : Word) (n : ℕ) → where_is p f n ≡ r_where_is (sources p) f n
  where_read f n = found_some p f _ _ (λ x. λ i. some (opt (line_at n (all_read x i)) [] (λ s. opt (link_at (n - s.start) (links_in s.says)) [] (λ l. place_read f s l i))))

pub items_only : ItemsOnly
items_only p q e f = (faults_read p f ∙ ap (λ s. r_faults s f) e ∙ sym (faults_read q f), λ n. type_of_read p f n ∙ ap (λ s. r_type_of s f n) e ∙ sym (type_of_read q f n), λ n. where_read p f n ∙ ap (λ s. r_where_is s f n) e ∙ sym (where_read q f n))
