-- A text and its lines: joined again the lines are the text (joined_lines), an edit among some lines leaves the others (edit_middle).
use Rattle.std.proofs.Common.{◌≡◌, ℕ, ◌+◌, ◌≤◌, Bool, true, false, ◌&&◌, eqb, List, [], ◌∷◌, ◌++◌, map, length, sym, refl, ap, ◌∙◌, append_assoc, append-nil, arith, eqb-true}
use lib.Seq.{take-append-add, drop-append-add, take-append-le, drop-append-le}
use Rattle.base.specs.Base.{pick}
use Rattle.lexer.specs.Tokens.{cut, lines}
use Rattle.semantics.specs.Answers.{edits}
use Rattle.interner.specs.Lines.{bodies, cuts, placed, tails, fronts, joined, plain, plains, Every}

pub false_true : {A : Type 0} → false ≡ true → A
false_true p = let z : ◌≡◌ {A = ℕ} 0 1 = cc in let f : ⊥ = omega arith in elim f [ ]

-- a function of a choice
pub under : {A B : Type 0} (f : A → B) (b : Bool) (x y : A) (z : B) → (b ≡ true → f x ≡ z) → (b ≡ false → f y ≡ z) → f (pick b x y) ≡ z
under f true x y z p q = p refl
under f false x y z p q = q refl

pub both : {A B : Type 0} (f : A → B) (b : Bool) (x y : A) (u v : B) → u ≡ f x → v ≡ f y → pick b u v ≡ f (pick b x y)
both f true x y u v p q = p
both f false x y u v p q = q

pub chosen : {A : Type 0} (b : Bool) (x y : A) → b ≡ false → pick b x y ≡ y
chosen true x y p = false_true (cc)
chosen false x y p = refl

-- lines are their bytes, placed
pub cut_placed : (s : ℕ) (acc t : List ℕ) → cut s acc t ≡ placed s (cuts acc t)
cut_placed s acc [] = refl
cut_placed s acc (c ∷ cs) = both (placed s) (eqb c 10) _ _ _ _ (ap (λ ls. record { start = s; bytes = acc } ∷ ls) (cut_placed (1 + (s + length acc)) [] cs)) (cut_placed s (acc ++ (c ∷ [])) cs)

-- joined again they are the text
pub tails_cuts : (acc t : List ℕ) → tails (cuts acc t) ≡ 10 ∷ (acc ++ t)
tails_cuts acc [] = refl
tails_cuts acc (c ∷ cs) = under tails (eqb c 10) (acc ∷ cuts [] cs) (cuts (acc ++ (c ∷ [])) cs) (10 ∷ (acc ++ (c ∷ cs))) (λ p. ap (λ r. 10 ∷ (acc ++ r)) (tails_cuts [] cs ∙ ap (λ x. x ∷ cs) (sym (eqb-true c 10 p)))) (λ p. tails_cuts (acc ++ (c ∷ [])) cs ∙ ap (λ r. 10 ∷ r) (append_assoc acc (c ∷ []) cs))

pub joined_cuts : (acc t : List ℕ) → joined (cuts acc t) ≡ acc ++ t
joined_cuts acc [] = append-nil acc ∙ sym (append-nil acc)
joined_cuts acc (c ∷ cs) = under joined (eqb c 10) (acc ∷ cuts [] cs) (cuts (acc ++ (c ∷ [])) cs) (acc ++ (c ∷ cs)) (λ p. ap (λ r. acc ++ r) (tails_cuts [] cs ∙ ap (λ x. x ∷ cs) (sym (eqb-true c 10 p)))) (λ p. joined_cuts (acc ++ (c ∷ [])) cs ∙ append_assoc acc (c ∷ []) cs)

pub bodies_placed : (s : ℕ) (ls : List (List ℕ)) → bodies (placed s ls) ≡ ls
bodies_placed s [] = refl
bodies_placed s (l ∷ ls) = ap (λ ks. l ∷ ks) (bodies_placed (1 + (s + length l)) ls)

pub bodies_lines : (t : List ℕ) → bodies (lines t) ≡ cuts [] t
bodies_lines t = ap bodies (cut_placed 0 [] t) ∙ bodies_placed 0 (cuts [] t)

pub joined_lines : (t : List ℕ) → joined (bodies (lines t)) ≡ t
joined_lines t = ap joined (bodies_lines t) ∙ joined_cuts [] t

-- and lines joined are cut into themselves
pub cuts_plain : (l acc t : List ℕ) → plain l ≡ true → cuts acc (l ++ t) ≡ cuts (acc ++ l) t
cuts_plain [] acc t h = ap (λ a. cuts a t) (sym (append-nil acc))
cuts_plain (c ∷ cs) acc t h = go (eqb c 10) h (λ k. cuts_plain cs (acc ++ (c ∷ [])) t k ∙ ap (λ a. cuts a t) (append_assoc acc (c ∷ []) cs))
  where
    go : (b : Bool) → pick b false (plain cs) ≡ true → (plain cs ≡ true → cuts (acc ++ (c ∷ [])) (cs ++ t) ≡ cuts (acc ++ (c ∷ cs)) t) → pick b (acc ∷ cuts [] (cs ++ t)) (cuts (acc ++ (c ∷ [])) (cs ++ t)) ≡ cuts (acc ++ (c ∷ cs)) t
    go true k f = false_true (cc)
    go false k f = f k

pub cuts_tails : (acc : List ℕ) (ls : List (List ℕ)) → plains ls ≡ true → cuts acc (tails ls) ≡ acc ∷ ls
cuts_tails acc [] h = refl
cuts_tails acc (l ∷ ls) h = ap (λ r. acc ∷ r) (cuts_plain l [] (tails ls) (and_left (plain l) (plains ls) h) ∙ cuts_tails l ls (and_right (plain l) (plains ls) h))
  where
    and_left : (a b : Bool) → (a && b) ≡ true → a ≡ true
    and_left true b p = refl
    and_left false b p = p

    and_right : (a b : Bool) → (a && b) ≡ true → b ≡ true
    and_right true b p = p
    and_right false b p = false_true (cc)

pub cuts_joined : (l : List ℕ) (ls : List (List ℕ)) → plain l ≡ true → plains ls ≡ true → cuts [] (joined (l ∷ ls)) ≡ l ∷ ls
cuts_joined l ls p q = cuts_plain l [] (tails ls) p ∙ cuts_tails l ls q

-- lines before and behind the middle stay at an edit within the middle
pub tails_append : (ks ls : List (List ℕ)) → tails (ks ++ ls) ≡ tails ks ++ tails ls
tails_append [] ls = refl
tails_append (k ∷ ks) ls = ap (λ r. 10 ∷ r) (ap (λ r. k ++ r) (tails_append ks ls) ∙ sym (append_assoc k (tails ks) (tails ls)))

pub joined_before : (ks : List (List ℕ)) (l : List ℕ) (ls : List (List ℕ)) → joined (ks ++ (l ∷ ls)) ≡ fronts ks ++ joined (l ∷ ls)
joined_before [] l ls = refl
joined_before (k ∷ ks) l ls = ap (λ r. k ++ r) (shift ks l ls) ∙ sym (append_assoc k (10 ∷ fronts ks) (l ++ tails ls))
  where
    shift : (ks : List (List ℕ)) (l : List ℕ) (ls : List (List ℕ)) → tails (ks ++ (l ∷ ls)) ≡ (10 ∷ fronts ks) ++ (l ++ tails ls)
    shift [] l ls = refl
    shift (k ∷ ks) l ls = ap (λ r. 10 ∷ (k ++ r)) (shift ks l ls) ∙ ap (λ r. 10 ∷ r) (sym (append_assoc k (10 ∷ fronts ks) (l ++ tails ls)))

pub joined_behind : (l : List ℕ) (ls ms : List (List ℕ)) → joined ((l ∷ ls) ++ ms) ≡ joined (l ∷ ls) ++ tails ms
joined_behind l ls ms = ap (λ r. l ++ r) (tails_append ls ms) ∙ sym (append_assoc l (tails ls) (tails ms))

pub cuts_cons : (acc t : List ℕ) → (l : List ℕ) × (ls : List (List ℕ)) × (cuts acc t ≡ l ∷ ls)
cuts_cons acc [] = (acc, [], refl)
cuts_cons acc (c ∷ cs) = go (eqb c 10) (cuts_cons (acc ++ (c ∷ [])) cs)
  where
    go : (b : Bool) → ((l : List ℕ) × (ls : List (List ℕ)) × (cuts (acc ++ (c ∷ [])) cs ≡ l ∷ ls)) → (l : List ℕ) × (ls : List (List ℕ)) × (pick b (acc ∷ cuts [] cs) (cuts (acc ++ (c ∷ [])) cs) ≡ l ∷ ls)
    go true r = (acc, cuts [] cs, refl)
    go false r = r

pub joined_mid : (ks cs ms : List (List ℕ)) → ((l : List ℕ) × (ls : List (List ℕ)) × (cs ≡ l ∷ ls)) → joined (ks ++ (cs ++ ms)) ≡ fronts ks ++ (joined cs ++ tails ms)
joined_mid ks cs ms (l, ls, e) = ap (λ c. joined (ks ++ (c ++ ms))) e ∙ joined_before ks l (ls ++ ms) ∙ ap (λ r. fronts ks ++ r) (joined_behind l ls ms ∙ ap (λ c. joined c ++ tails ms) (sym e))

pub edits_inside : (p m q new : List ℕ) (o e : ℕ) → o ≤ e → e ≤ length m → edits (length p + o) (length p + e) new (p ++ (m ++ q)) ≡ p ++ (edits o e new m ++ q)
edits_inside p m q new o e h k = let g : o ≤ length m = omega arith in simp (take-append-add, drop-append-add, take-append-le o m q g, drop-append-le e m q k, append_assoc)

pub edit_middle : (ks : List (List ℕ)) (l : List ℕ) (ls ms : List (List ℕ)) (new : List ℕ) (o e : ℕ) → o ≤ e → e ≤ length (joined (l ∷ ls)) → edits (length (fronts ks) + o) (length (fronts ks) + e) new (joined (ks ++ ((l ∷ ls) ++ ms))) ≡ joined (ks ++ (cuts [] (edits o e new (joined (l ∷ ls))) ++ ms))
edit_middle ks l ls ms new o e h k = ap (λ t. edits (length (fronts ks) + o) (length (fronts ks) + e) new t) (joined_mid ks (l ∷ ls) ms (l, ls, refl)) ∙ edits_inside (fronts ks) (joined (l ∷ ls)) (tails ms) new o e h k ∙ sym (joined_mid ks (cuts [] (edits o e new (joined (l ∷ ls)))) ms (cuts_cons [] (edits o e new (joined (l ∷ ls)))) ∙ ap (λ t. fronts ks ++ (t ++ tails ms)) (joined_cuts [] (edits o e new (joined (l ∷ ls)))))

-- other bytes of numbers that no file has change nothing
pub map_same : (f g : ℕ → List ℕ) (P : ℕ → Type 0) (ns : List ℕ) → ((n : ℕ) → P n → f n ≡ g n) → Every P ns → map f ns ≡ map g ns
map_same f g P [] h e = refl
map_same f g P (n ∷ ns) h (p, ps) = let x = h n p in let y = map_same f g P ns h ps in cc
