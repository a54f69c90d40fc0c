-- What names mean by the symbol table of texts is what they mean in the texts.
use Rattle.std.proofs.Common.{◌≡◌, ℕ, zero, suc, ◌+◌, ◌≤◌, min, Bool, true, false, not, ◌&&◌, ◌||◌, eqb, List, [], ◌∷◌, take, Some, None, Option as Perhaps, sym, refl, ap, ◌∙◌, subst, arith}
use mathlib.Core.Option.{Option, some, none}
use Rattle.std.specs.List.{slice_get}
use Rattle.std.proofs.lemmas.Bool.{lt-ltb, eqb-true, eqb-false, eq-eqb, ne_eqb}
use Rattle.base.specs.Base.{pick, opt, on_some, is_some, Word, same, among}
use Rattle.lexer.specs.Words.{k_num, k_bool}
use Rattle.grammar.specs.Grammar.{Field}
use Rattle.semantics.specs.Names.{File, Texts, find_file, Ty, t_num, t_bool, Decl, decls, find_decl, used, At, Found as FoundName, unknown, several, one, in_file, among_used as texts_among, meaning as texts_meaning, found_type as texts_found, type_named as texts_type, slots, s_type, s_const, s_rec, s_def, sig_decl, sig_of, sig}
use Rattle.semantics.specs.Read.{found_too}
use Rattle.semantics.specs.Answers.{there, there_file, names_of}
use Rattle.semantics.specs.Walk.{Query, q_here, q_there, q_file, q_before, k_sig, k_yes, has, answer}
use Rattle.source.specs.Source.{First, FindSays}
use Rattle.semantics.specs.declared.sort.Sort.TheVariants.{Kind, Constant, Record, Def}
use Rattle.checker.specs.declared.lookup.Meaning.{Meaning}
use Rattle.checker.specs.declared.lookup.Meaning.TheVariants.{Found, Unknown, Several}
use Rattle.checker.specs.declared.lookup.«Type».{«Type» as Typ}
use Rattle.checker.specs.declared.lookup.«Type».TheVariants.{Num, Bool as Truth, Of}
use Rattle.checker.specs.Rows.{Declared, sig_by, sig_is}
use Rattle.symbols.specs.Table.{word, file_name, used_in, first_decl, decl_count, decl_name, decl_type, decl_fields, decl_at, decl_long, decls_from}
use Rattle.symbols.specs.Tabled.{Uses, no_more, absent, present, Owned, FileTabled, Tabled}
use Rattle.resolver.specs.Resolve.{limit, file_named, is_there, own, own_before, own_of, declared_in, also, among_used, found_or, meaning, is_type, found_type, type_named, type_is, sort_by, slots_of, declared_at, meant, known}
use Rattle.resolver.specs.Agreement.{FoundIn, PlainAgrees}
use Rattle.resolver.proofs.Finds.{SeekSays, seek_says, at_handle, Good, OwnSays, file_named_says, file_called, own_says}

abbrev pub MeanSays : Texts → List ℕ → ℕ → FoundName → Meaning → Type 0
MeanSays p ws x r Unknown = r ≡ unknown
MeanSays p ws x r Several = r ≡ several
MeanSays p ws x r (Found s) = (r ≡ one (at_handle ws x s.0)) × Good p ws x s.0

-- one more used file; and what is found there, or else
another : (p : Texts) (ws : List ℕ) (x : ℕ) (o : Option At) (n : Perhaps ℕ) (r : FoundName) (m : Meaning) → OwnSays p ws x o n → MeanSays p ws x r m → MeanSays p ws x (opt o r (λ a. found_too r a)) (also n m)
another p ws x o None r m e h = subst (λ o. MeanSays p ws x (opt o r (λ a. found_too r a)) m) (sym e) h
another p ws x o (Some d) r Unknown e h = (λ i. opt (e.0 i) (h i) (λ a. found_too (h i) a), e.1)
another p ws x o (Some d) r Several e h = λ i. opt (e.0 i) (h i) (λ a. found_too (h i) a)
another p ws x o (Some d) r (Found s) e h = λ i. opt (e.0 i) (h.0 i) (λ a. found_too (h.0 i) a)

or_found : (p : Texts) (ws : List ℕ) (x : ℕ) (o : Option At) (n : Perhaps ℕ) (r : FoundName) (m : Meaning) → OwnSays p ws x o n → MeanSays p ws x r m → MeanSays p ws x (opt o r one) (found_or n m)
or_found p ws x o None r m e h = subst (λ o. MeanSays p ws x (opt o r one) m) (sym e) h
or_found p ws x o (Some d) r m e h = (ap (λ o. opt o r one) e.0, e.1)

eqb_sym : (m n : ℕ) → eqb m n ≡ eqb n m
eqb_sym m n = go (eqb m n) refl
  where
    go : (b : Bool) → eqb m n ≡ b → eqb m n ≡ eqb n m
    go true e = e ∙ sym (eq-eqb n m (sym (eqb-true m n e)))
    go false e = e ∙ sym (ne_eqb n m (λ q. eqb-false m n e (sym q)))

same_sym : (v w : Word) → same v w ≡ same w v
same_sym [] [] = refl
same_sym [] (y ∷ ys) = refl
same_sym (x ∷ xs) [] = refl
same_sym (x ∷ xs) (y ∷ ys) = λ i. eqb_sym x y i && same_sym xs ys i

-- types and sorts by tests
picked_type : (ws : List ℕ) (x : ℕ) (b c : Bool) (t : Perhaps Typ) (o : Option Ty) → type_is ws x t ≡ o → type_is ws x (pick b (Some Num) (pick c (Some Truth) t)) ≡ pick b (some t_num) (pick c (some t_bool) o)
picked_type ws x true c t o e = refl
picked_type ws x false true t o e = refl
picked_type ws x false false t o e = e

declared_type : (ws : List ℕ) (x d : ℕ) (b : Bool) → type_is ws x (pick b (Some (Of (record { 0 = d }))) None) ≡ pick b (type_is ws x (Some (Of (record { 0 = d })))) none
declared_type ws x d true = refl
declared_type ws x d false = refl

sort_picked : (a b c : Bool) (d : Declared) → sig_by (pick a Kind (pick b Constant (pick c Record Def))) d ≡ pick a (s_type d.file d.name) (pick b (s_const d.file d.name d.result) (pick c (s_rec d.file d.name d.slots) (s_def d.file d.name d.slots d.result)))
sort_picked true b c d = refl
sort_picked false true c d = refl
sort_picked false false true d = refl
sort_picked false false false d = refl

-- what is found in a file of some name is of that file
in_called : (p : Texts) (f w : Word) (a : At) → in_file p f w ≡ some a → a.file ≡ f
in_called p f w a = go (find_file p f)
  where
    at_in : Decl → Option At
    at_in d = some (record { file = f; decl1 = d })

    on : (o : Option Decl) → on_some o at_in ≡ some a → a.file ≡ f
    on none e = let z : ◌≡◌ {A = ℕ} 0 1 = cc in absurd (omega arith)
    on (some d) e = let z : record { file = f; decl1 = d } ≡ a = cc in sym (ap (λ b. b.file) z)

    go : (o : Option File) → on_some o (λ g. on_some (find_decl (decls g) w) at_in) ≡ some a → a.file ≡ f
    go none e = let z : ◌≡◌ {A = ℕ} 0 1 = cc in absurd (omega arith)
    go (some g) e = on (find_decl (decls g) w) e

-- the first declarations of some, and whether one of them has a name
first_ones : (ws : List ℕ) (n c m d : ℕ) → m ≡ min n c → decls_from ws m d ≡ take n (decls_from ws c d)
first_ones ws n c zero d e = go n c e
  where
    go : (n c : ℕ) → 0 ≡ min n c → [] ≡ take n (decls_from ws c d)
    go zero c e = refl
    go (suc n) zero e = refl
    go (suc n) (suc c) e = absurd (omega arith)
first_ones ws zero c (suc m) d e = absurd (omega arith)
first_ones ws (suc n) zero (suc m) d e = absurd (omega arith)
first_ones ws (suc n) (suc c) (suc m) d e = ap (λ ds. decl_at ws d ∷ ds) (first_ones ws n c m (d + decl_long ws d) (omega arith))

fewer_owned : (ws : List ℕ) (k m c d : ℕ) → m ≤ c → Owned ws k c d → Owned ws k m d
fewer_owned ws k zero c d l o = tt
fewer_owned ws k (suc m) zero d l o = absurd (omega arith)
fewer_owned ws k (suc m) (suc c) d l o = (o.0, o.1, fewer_owned ws k m c (d + decl_long ws d) (omega arith) o.2)

found_among : (ds : List Decl) (w : Word) → is_some (find_decl ds w) ≡ among w (names_of ds)
found_among [] w = refl
found_among (d ∷ ds) w = either (same d.name w) (find_decl ds w) (among w (names_of ds)) (found_among ds w) ∙ ap (λ b. b || among w (names_of ds)) (same_sym d.name w)
  where
    either : (b : Bool) (o : Option Decl) (c : Bool) → is_some o ≡ c → is_some (pick b (some d) o) ≡ (b || c)
    either true o c e = refl
    either false o c e = e

module _ (p : Texts) (ws : List ℕ) (x : ℕ) (t : Tabled p ws x) where
  among_says : (w : Word) {gs : List ℕ} {ns : List Word} (u : Uses p gs ns) (r : FoundName) (m : Meaning) → MeanSays p ws x r m → MeanSays p ws x (texts_among p w ns r) (among_used ws x w gs m)
  among_says w no_more r m h = h
  among_says w (absent {gs = gs} {n = n} {ns = ns} e u) r m h = among_says w u (opt (in_file p n w) r (λ a. found_too r a)) m (another p ws x (in_file p n w) None r m (ap (λ o. on_some o (λ f. on_some (find_decl (decls f) w) (λ d. some (record { file = n; decl1 = d })))) e) h)
  among_says w (present {g = g} {gs = gs} {n = n} {ns = ns} f u) r m h = among_says w u (opt (in_file p n w) r (λ a. found_too r a)) (also (own ws x g w) m) (another p ws x (in_file p n w) (own ws x g w) r m (own_says p ws x t n g f w) h)

  pub meaning_says : (me : Word) (k : ℕ) → First p me k → (w : Word) → MeanSays p ws x (texts_meaning p me w) (meaning ws x k w)
  meaning_says me k f w = or_found p ws x (in_file p me w) (own ws x k w) _ (among_used ws x w (used_in ws x k) Unknown) (own_says p ws x t me k f w)
      (subst (λ o. MeanSays p ws x (opt o unknown (λ x. texts_among p w (used x) unknown)) (among_used ws x w (used_in ws x k) Unknown)) (sym f.2) (among_says w (t.files k f.0 f.1).uses unknown Unknown refl))

  found_is : (r : FoundName) (m : Meaning) → MeanSays p ws x r m → type_is ws x (found_type ws m) ≡ texts_found r
  found_is r Unknown h = sym (ap texts_found h)
  found_is r Several h = sym (ap texts_found h)
  found_is r (Found s) h = declared_type ws x s.0 (is_type (word ws (s.0 + 3))) ∙ sym (ap texts_found h.0)

  pub type_says : (me : Word) (k : ℕ) → First p me k → (w : Word) → type_is ws x (type_named ws x k w) ≡ texts_type p me w
  type_says me k f w = picked_type ws x (same w k_num) (same w k_bool) (found_type ws (meaning ws x k w)) (texts_found (texts_meaning p me w)) (found_is (texts_meaning p me w) (meaning ws x k w) (meaning_says me k f w))

  slots_say : (me : Word) (k : ℕ) → First p me k → (fs : List Field) → slots_of ws x k fs ≡ slots p me fs
  slots_say me k f [] = refl
  slots_say me k f (y ∷ fs) = λ i. record { name = y.name.w; ty = type_says me k f y.ty.w i } ∷ slots_say me k f fs i

  declared_says : (d : ℕ) → Good p ws x d → sig_is (declared_at ws x d) ≡ sig_decl p (file_name ws x (word ws d)) (decl_at ws d)
  declared_says d g =
      ap (λ b. sig_by (pick b (sort_by s) Def) (declared_at ws x d)) (lt-ltb d limit g.low)
      ∙ (sort_picked (eqb s 0) (eqb s 1) (eqb s 2) (declared_at ws x d)
      ∙ (λ i. pick (eqb s 0) (s_type f n) (pick (eqb s 1) (s_const f n (ty i)) (pick (eqb s 2) (s_rec f n (fields i)) (s_def f n (fields i) (ty i))))))
    where
      s : ℕ
      s = word ws (d + 3)

      f : Word
      f = file_name ws x (word ws d)

      n : Word
      n = decl_name ws d

      ty : type_is ws x (type_named ws x (word ws d) (decl_type ws d)) ≡ texts_type p f (decl_type ws d)
      ty = type_says f (word ws d) g.of_first (decl_type ws d)

      fields : slots_of ws x (word ws d) (decl_fields ws d) ≡ slots p f (decl_fields ws d)
      fields = slots_say f (word ws d) g.of_first (decl_fields ws d)

  meant_is : (r : FoundName) (m : Meaning) → MeanSays p ws x r m → meant ws x m ≡ sig_of p r
  meant_is r Unknown h = sym (ap (sig_of p) h)
  meant_is r Several h = sym (ap (sig_of p) h)
  meant_is r (Found s) h = declared_says s.0 h.1 ∙ sym (ap (sig_of p) h.0)

  -- what a file of some name declares
  in_says : (f w : Word) → OwnSays p ws x (in_file p f w) (declared_in ws x f w)
  in_says f w = go (file_named ws x f) (file_named_says p ws x t f)
    where
      go : (r : Perhaps ℕ) → FindSays p f r → OwnSays p ws x (in_file p f w) (own_of ws x w r)
      go None h = ap (λ o. on_some o (λ g. on_some (find_decl (decls g) w) (λ d. some (record { file = f; decl1 = d })))) h
      go (Some k) h = own_says p ws x t f k h w

  there_says : (f w : Word) → meant ws x (found_or (declared_in ws x f w) Unknown) ≡ there p f w
  there_says f w = meant_is _ (found_or (declared_in ws x f w) Unknown) (or_found p ws x (in_file p f w) (declared_in ws x f w) unknown Unknown (in_says f w) refl)

  file_is_there : (w : Word) → is_there (file_named ws x w) ≡ there_file p w
  file_is_there w = go (file_named ws x w) (file_named_says p ws x t w)
    where
      go : (r : Perhaps ℕ) → FindSays p w r → is_there r ≡ there_file p w
      go None h = sym (ap is_some h)
      go (Some k) h = sym (ap is_some h.2)

  pub declared_agrees : (f n : Word) → FoundIn ws p f n (declared_in ws x f n)
  declared_agrees f n = go (declared_in ws x f n) (in_says f n)
    where
      go : (r : Perhaps ℕ) → OwnSays p ws x (in_file p f n) r → FoundIn ws p f n r
      go None h = h
      go (Some d) h = h.0 ∙ ap (λ g. some (record { file = g; decl1 = decl_at ws d })) (in_called p f n (at_handle ws x d) h.0)

  before_says : (k n : ℕ) (f : File) → slice_get p k ≡ Some f → (w : Word) → is_there (own_before ws x k n w) ≡ among w (names_of (take n (decls f)))
  before_says k n f e w = sought (own_before ws x k n w) (seek_says ws k w t.small m d (fewer_owned ws k m c d less file.owned)) ∙ (found_among (decls_from ws m d) w ∙ ap (λ ds. among w (names_of ds)) (first_ones ws n c m d refl ∙ ap (take n) file.declares))
    where
      c : ℕ
      c = decl_count ws x k

      d : ℕ
      d = first_decl ws x k

      m : ℕ
      m = min n c

      file : FileTabled p ws x k f
      file = t.files k f e

      less : m ≤ c
      less = omega arith

      sought : (r : Perhaps ℕ) → SeekSays ws k (find_decl (decls_from ws m d) w) r → is_there r ≡ is_some (find_decl (decls_from ws m d) w)
      sought None h = sym (ap is_some h)
      sought (Some y) h = sym (ap is_some h.0)

  known_is : (k n : ℕ) (me : Word) (f : File) → First p me k → slice_get p k ≡ Some f → (q : Query) → known ws x k n q ≡ has (answer me (sig p me) (there p) (there_file p) (names_of (take n (decls f))) q)
  known_is k n me f h e (q_here w) = ap (λ s. has (k_sig s)) (meant_is (texts_meaning p me w) (meaning ws x k w) (meaning_says me k h w))
  known_is k n me f h e (q_there g w) = ap (λ s. has (k_sig s)) (there_says g w)
  known_is k n me f h e (q_file w) = λ i. has (k_yes (file_is_there w i && not (same w (file_called p ws x t me k h i))))
  known_is k n me f h e (q_before w) = ap (λ b. has (k_yes b)) (before_says k n f e w)

pub plain_agrees : PlainAgrees
plain_agrees p ws x k n me f t h e q s u = let v = sym u ∙ known_is p ws x t k n me f h e q in cc
