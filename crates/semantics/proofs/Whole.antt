-- The walk over a line's code says what the definition says of the line.
use mathlib.Core.Path.{◌≡◌, refl, ap, sym, ◌∙◌}
use mathlib.Core.Bool.{Bool, true, false, ◌||◌, ◌&&◌}
use mathlib.Core.List.{List, [], ◌∷◌, ◌++◌, append_assoc, append-nil}
use mathlib.Core.Option.{Option, some, none}
use Prim.Native.Nat.{ℕ, zero, suc}
use lib.Dec.{eqb, eqb-zero-suc, eqb-suc-zero, eqb-suc-suc}
use Rattle.base.specs.Base.{pick, is_some, Word, same, among}
use Rattle.lexer.specs.Tokens.{Tok}
use Rattle.lexer.specs.Words.{k_num, k_bool}
use Rattle.grammar.specs.Grammar.{E, from_of, to_of, Field, Item, nothing, i_use, i_kind, i_rec, i_def, i_bad}
use Rattle.grammar.specs.Code.{Op, o_result, o_body, onto, item_code, consts_code, slots_onto}
use Rattle.semantics.specs.Names.{Ty, Sig, s_unknown, s_several, s_type, s_const, s_rec, s_def}
use Rattle.semantics.specs.Check.{Fault, Typed, Link, Said, said, ty_in, Local, find, of_slot, check, quiet, join, wanted, wrong, of_type, again, new_names, of_fields, locals, of_def, of_item}
use Rattle.semantics.specs.Walk.{Frame, Output, state, value, add, says, tells, Query, asks_word, told, run, answer, Known, the_sig, twice, local_of, silent, start}
use Rattle.semantics.proofs.Runs.{check_runs}

-- names seen
eqb_sym : (m n : ℕ) → eqb m n ≡ eqb n m
eqb_sym zero zero = refl
eqb_sym zero (suc n) = eqb-zero-suc n ∙ sym (eqb-suc-zero n)
eqb_sym (suc m) zero = eqb-suc-zero m ∙ sym (eqb-zero-suc m)
eqb_sym (suc m) (suc n) = eqb-suc-suc m n ∙ eqb_sym m n ∙ sym (eqb-suc-suc n m)

same_sym : (v w : Word) → same v w ≡ same w v
same_sym [] [] = refl
same_sym [] (y ∷ ys) = refl
same_sym (x ∷ xs) [] = refl
same_sym (x ∷ xs) (y ∷ ys) = ap (λ b. b && same xs ys) (eqb_sym x y) ∙ ap (λ b. eqb y x && b) (same_sym xs ys)

or_false : (b : Bool) → (b || false) ≡ b
or_false true = refl
or_false false = refl

or_assoc : (a b c : Bool) → ((a || b) || c) ≡ (a || (b || c))
or_assoc true b c = refl
or_assoc false b c = refl

among_more : (w x : Word) (ws : List Word) → among w (ws ++ (x ∷ [])) ≡ (among w ws || same x w)
among_more w x [] = or_false (same w x) ∙ same_sym w x
among_more w x (v ∷ vs) = ap (λ b. same w v || b) (among_more w x vs) ∙ sym (or_assoc (same w v) (among w vs) (same x w))

found_more : (b : Bool) (l : Local) (m : Option Local) → (is_some m || b) ≡ is_some (pick b (some l) m)
found_more true l none = refl
found_more true l (some x) = refl
found_more false l none = refl
found_more false l (some x) = refl

-- seen are the names that were there before and those bound
abbrev Seen : (Word → Bool) → List Word → List Local → Type 0
Seen b seen g = (w : Word) → among w seen ≡ (b w || is_some (find g w))

seen_more : (b : Word → Bool) (seen : List Word) (g : List Local) (t : Tok) (o : Option Ty) → Seen b seen g → Seen b (seen ++ (t.w ∷ [])) (local_of t o ∷ g)
seen_more b seen g t o h w = among_more w t.w seen ∙ ap (λ c. c || same t.w w) (h w) ∙ or_assoc (b w) (is_some (find g w)) (same t.w w) ∙ ap (λ c. b w || c) (found_more (same t.w w) (local_of t o) (find g w))

again_is : (b : Word → Bool) (seen : List Word) (g : List Local) (t : Tok) → Seen b seen g → twice (b t.w) t g ≡ again seen t
again_is b seen g t h = ap (λ c. pick c (wrong t 4) quiet) (sym (h t.w))

-- lists
cat_4 : {A : Type 0} (a b c d : List A) → ((a ++ b) ++ c) ++ d ≡ a ++ (b ++ (c ++ d))
cat_4 a b c d = simp append_assoc

out_path : (a a' : List Fault) (b b' : List Typed) (c c' : List Link) → a ≡ a' → b ≡ b' → c ≡ c' → ◌≡◌ {A = Output} (record { faults = a; types = b; links = c }) (record { faults = a'; types = b'; links = c' })
out_path a a' b b' c c' p q r = λ i. record { faults = p i; types = q i; links = r i }

quiet_add : (out : Output) → add out quiet ≡ out
quiet_add out = out_path _ _ _ _ _ _ (append-nil out.faults) (append-nil out.types) (append-nil out.links)

add_join : (out : Output) (x y : Said) (o : Option Ty) → add (add out x) y ≡ add out (join x y o)
add_join out (said t fs ts ls) (said u gs us ms) o = out_path _ _ _ _ _ _ (append_assoc out.faults fs gs) (append_assoc out.types ts us) (append_assoc out.links ls ms)

add_wanted : (out : Output) (o : Option Ty) (e : E) (x : Said) → add (add out x) (tells (of_slot o (from_of e) (to_of e) (ty_in x))) ≡ add out (wanted o e x)
add_wanted out o e (said t fs ts ls) = out_path _ _ _ _ _ _ (append_assoc out.faults fs _) (append-nil (out.types ++ ts)) (append-nil (out.links ++ ls))

module _ (me : Word) (here : Word → Sig) (there : Word → Word → Sig) (file_there : Word → Bool) (before : List Word) where
  abbrev F : Query → Known
  F = answer me here there file_there before

  type_told : (t : Tok) → of_type (λ w. the_sig (told F (asks_word t.w))) t ≡ of_type here t
  type_told t = go (same t.w k_num) (same t.w k_bool) (here t.w) refl refl refl
    where
      go : (b c : Bool) (s : Sig) → same t.w k_num ≡ b → same t.w k_bool ≡ c → here t.w ≡ s → of_type (λ w. the_sig (told F (asks_word t.w))) t ≡ of_type here t
      go true c s p q r = cc
      go false true s p q r = cc
      go false false s_unknown p q r = cc
      go false false s_several p q r = cc
      go false false (s_type f n) p q r = cc
      go false false (s_const f n o) p q r = cc
      go false false (s_rec f n ss) p q r = cc
      go false false (s_def f n ss o) p q r = cc

  slots_run : (xs : List Field) (seen : List Word) (g : List Local) → Seen (λ w. false) seen g → (st : List Frame) (out : Output) (os : List Op) → run F (slots_onto xs os) (state st g out) ≡ run F os (state st (locals here xs g) (add out (of_fields here seen xs)))
  slots_run [] seen g h st out os = ap (λ o. run F os (state st g o)) (sym (quiet_add out))
  slots_run (x ∷ xs) seen g h st out os = ap (λ s. run F (slots_onto xs os) (state st (local_of x.name (ty_in s) ∷ g) (add (add out (twice false x.name g)) s))) (type_told x.ty) ∙ ap (λ a. run F (slots_onto xs os) (state st (local_of x.name (ty_in (of_type here x.ty)) ∷ g) (add (add out a) (of_type here x.ty)))) (again_is (λ w. false) seen g x.name h) ∙ slots_run xs (seen ++ (x.name.w ∷ [])) (local_of x.name (ty_in (of_type here x.ty)) ∷ g) (seen_more (λ w. false) seen g x.name (ty_in (of_type here x.ty)) h) st (add (add out (again seen x.name)) (of_type here x.ty)) os ∙ ap (λ o. run F os (state st (locals here (x ∷ xs) g) o)) (add_join (add out (again seen x.name)) (of_type here x.ty) (of_fields here (seen ++ (x.name.w ∷ [])) xs) none ∙ add_join out (again seen x.name) (join (of_type here x.ty) (of_fields here (seen ++ (x.name.w ∷ [])) xs) none) none)

  consts_run : (ts : List Tok) (seen : List Word) (g : List Local) → Seen (λ w. among w before) seen g → (st : List Frame) (out : Output) → (run F (consts_code ts) (state st g out)).out ≡ add out (new_names seen ts)
  consts_run [] seen g h st out = sym (quiet_add out)
  consts_run (t ∷ ts) seen g h st out = consts_run ts (seen ++ (t.w ∷ [])) (local_of t none ∷ g) (seen_more (λ w. among w before) seen g t none h) st (add out (twice (among t.w before) t g)) ∙ ap (λ a. add (add out a) (new_names (seen ++ (t.w ∷ [])) ts)) (again_is (λ w. among w before) seen g t h) ∙ add_join out (again seen t) (new_names (seen ++ (t.w ∷ [])) ts) none

  seen_none : Seen (λ w. false) [] []
  seen_none w = refl

  seen_before : Seen (λ w. among w before) before []
  seen_before w = sym (or_false (among w before))

  new_is : (t : Tok) → twice (among t.w before) t [] ≡ again before t
  new_is t = again_is (λ w. among w before) before [] t seen_before

  def_is : (ps : List Field) (e : E) (s : Said) → join s (wanted (ty_in s) e (check here there (locals here ps []) e)) none ≡ of_def here there ps e s
  def_is ps e (said o fs ts ls) = refl

  def_runs : (t : Tok) (ps : List Field) (r : Tok) (e : E) → (run F (slots_onto ps (o_result r ∷ onto e (o_body ∷ []))) (state [] [] (add silent (twice (among t.w before) t [])))).out ≡ add silent (join (again before t) (join (of_fields here [] ps) (of_def here there ps e (of_type here r)) none) none)
  def_runs t ps r e =
      let a : Said = again before t in
      let fs : Said = of_fields here [] ps in
      let s : Said = of_type here r in
      let g : List Local = locals here ps [] in
      let w : Said = wanted (ty_in s) e (check here there g e) in
      ap (λ x. (run F (slots_onto ps (o_result r ∷ onto e (o_body ∷ []))) (state [] [] (add silent x))).out) (new_is t)
      ∙ ap (λ σ. σ.out) (slots_run ps [] [] seen_none [] (add silent a) (o_result r ∷ onto e (o_body ∷ [])))
      ∙ ap (λ x. (run F (onto e (o_body ∷ [])) (says r.from r.to x [] g (add (add silent a) fs))).out) (type_told r)
      ∙ ap (λ σ. σ.out) (check_runs me here there file_there before e g (value (ty_in s) r.from r.to ∷ []) (add (add (add silent a) fs) s) (o_body ∷ []))
      ∙ add_wanted (add (add (add silent a) fs) s) (ty_in s) e (check here there g e)
      ∙ add_join (add (add silent a) fs) s w none
      ∙ ap (λ x. add (add (add silent a) fs) x) (def_is ps e s)
      ∙ add_join (add silent a) fs (of_def here there ps e s) none
      ∙ add_join silent a (join fs (of_def here there ps e s) none) none

  -- what is said of a line, in its order
  pub item_runs : (it : Item) → (run F (item_code it) start).out ≡ add silent (of_item me here there file_there before it)
  item_runs nothing = refl
  item_runs (i_use t) = refl
  item_runs (i_kind t cs) = consts_run (t ∷ cs) before [] seen_before [] silent
  item_runs (i_rec t fs) = ap (λ σ. σ.out) (slots_run fs [] [] seen_none [] (add silent (twice (among t.w before) t [])) []) ∙ ap (λ a. add (add silent a) (of_fields here [] fs)) (new_is t) ∙ add_join silent (again before t) (of_fields here [] fs) none
  item_runs (i_def t ps r e) = def_runs t ps r e
  item_runs (i_bad a b) = refl
