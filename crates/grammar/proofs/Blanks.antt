-- A blank that is put in outside of every piece leaves the words of the pieces as they were.
use mathlib.Core.Path.{◌≡◌, refl, sym, ap, subst, ◌∙◌}
use mathlib.Core.Bool.{Bool, true, false, ◌||◌, false≢true}
use mathlib.Core.List.{List, [], ◌∷◌, ◌++◌, append_assoc, append-nil}
use mathlib.Core.Logic.{◌⊎◌, inl, inr}
use Prim.Native.Nat.{ℕ, ◌+◌, ◌≤◌, ◌<◌}
use native.Mathlib.Omega.{arith}
use lib.ListN.{length}
use lib.Dec.{eqb}
use borrow.Author.Tests.{eqb-true}
use Rattle.base.specs.Base.{pick, Word}
use Rattle.lexer.specs.Tokens.{Tok, tok, letter, blank, Mode, gap, in_word, equals, note, Turn, turn, fresh, turns, last1, toks}
use Rattle.grammar.specs.Theorems.{words, Apart, BlanksFree}
use Rattle.grammar.proofs.Bare.{words_only}

pub words-++ : (as₁ bs : List Tok) → words (as₁ ++ bs) ≡ words as₁ ++ words bs
words-++ [] bs = refl
words-++ (a ∷ as₁) bs = ap (λ l. a.w ∷ l) (words-++ as₁ bs)

apart-++ : (n : ℕ) (as₁ bs : List Tok) → Apart n (as₁ ++ bs) → Apart n bs
apart-++ n [] bs h = h
apart-++ n (a ∷ as₁) bs h = apart-++ n as₁ bs h.1

when_true : {A : Type 0} (b : Bool) (x y : A) → b ≡ true → pick b x y ≡ x
when_true b x y e = ap (λ v. pick v x y) e

when_false : {A : Type 0} (b : Bool) (x y : A) → b ≡ false → pick b x y ≡ y
when_false b x y e = ap (λ v. pick v x y) e

-- words don't depend on places
abbrev shape : Mode → Mode
shape gap = gap
shape (in_word w f) = in_word w 0
shape (equals f) = equals 0
shape note = note

abbrev words_of : Mode → List ℕ → List Word
words_of m [] = words (last1 m 0)
words_of m (c ∷ cs) = words (turns m 0 c).out ++ words_of (shape (turns m 0 c).mode) cs

record Alike (t u : Turn) : Type 0 where
  outs : words t.out ≡ words u.out
  modes : shape t.mode ≡ shape u.mode

a_pick : (b : Bool) (x y u v : Turn) → Alike x u → Alike y v → Alike (pick b x y) (pick b u v)
a_pick true x y u v p q = p
a_pick false x y u v p q = q

fresh_alike : (o o₁ : List Tok) (p q c : ℕ) → words o ≡ words o₁ → Alike (fresh o p c) (fresh o₁ q c)
fresh_alike o o₁ p q c e =
    a_pick (blank c) _ _ _ _ (record { outs = e; modes = refl }) (a_pick (eqb c 35) _ _ _ _ (record { outs = e; modes = refl })
    (a_pick (letter c) _ _ _ _ (record { outs = e; modes = refl }) (a_pick (eqb c 61) _ _ _ _ (record { outs = e; modes = refl })
    (record { outs = words-++ o (tok (c ∷ []) p (p + 1) ∷ []) ∙ ap (λ l. l ++ ((c ∷ []) ∷ [])) e ∙ sym (words-++ o₁ (tok (c ∷ []) q (q + 1) ∷ [])); modes = refl }))))

turns_alike : (m : Mode) (p q c : ℕ) → Alike (turns m p c) (turns (shape m) q c)
turns_alike gap p q c = fresh_alike [] [] p q c refl
turns_alike (in_word w f) p q c = a_pick (letter c) _ _ _ _ (record { outs = refl; modes = refl }) (fresh_alike (tok w f p ∷ []) (tok w 0 q ∷ []) p q c refl)
turns_alike (equals f) p q c = a_pick (eqb c 61) _ _ _ _ (record { outs = refl; modes = refl }) (fresh_alike (tok (61 ∷ []) f p ∷ []) (tok (61 ∷ []) 0 q ∷ []) p q c refl)
turns_alike note p q c = record { outs = refl; modes = refl }

last_shape : (m : Mode) (p : ℕ) → words (last1 m p) ≡ words (last1 (shape m) 0)
last_shape gap p = refl
last_shape (in_word w f) p = refl
last_shape (equals f) p = refl
last_shape note p = refl

by_shape : (m : Mode) (p : ℕ) (zs : List ℕ) → words (toks m p zs) ≡ words_of (shape m) zs
by_shape m p [] = last_shape m p
by_shape m p (c ∷ cs) =
    let a = turns_alike m p 0 c in
    words-++ (turns m p c).out (toks (turns m p c).mode (p + 1) cs) ∙
    ap (λ l. words (turns m p c).out ++ l) (by_shape (turns m p c).mode (p + 1) cs) ∙
    ap (λ l. l ++ words_of (shape (turns m p c).mode) cs) a.outs ∙
    ap (λ k. words (turns (shape m) 0 c).out ++ words_of k cs) a.modes

pub gap_place : (p q : ℕ) (zs : List ℕ) → words (toks gap p zs) ≡ words (toks gap q zs)
gap_place p q zs = by_shape gap p zs ∙ sym (by_shape gap q zs)

-- what was put out before a byte stands in front of what it begins
record Front (o : List Tok) (t u : Turn) : Type 0 where
  outs : t.out ≡ o ++ u.out
  modes : t.mode ≡ u.mode

f_pick : (o : List Tok) (b : Bool) (x y u v : Turn) → Front o x u → Front o y v → Front o (pick b x y) (pick b u v)
f_pick o true x y u v p q = p
f_pick o false x y u v p q = q

fresh_front : (o : List Tok) (p c : ℕ) → Front o (fresh o p c) (fresh [] p c)
fresh_front o p c = let e = sym (append-nil o) in
    f_pick o (blank c) _ _ _ _ (record { outs = e; modes = refl }) (f_pick o (eqb c 35) _ _ _ _ (record { outs = e; modes = refl })
    (f_pick o (letter c) _ _ _ _ (record { outs = e; modes = refl }) (f_pick o (eqb c 61) _ _ _ _ (record { outs = e; modes = refl }) (record { outs = refl; modes = refl }))))

toks_front : (o : List Tok) (p d : ℕ) (ys : List ℕ) → (fresh o p d).out ++ toks (fresh o p d).mode (p + 1) ys ≡ o ++ toks gap p (d ∷ ys)
toks_front o p d ys = let a = fresh_front o p d in
    ap (λ l. l ++ toks (fresh o p d).mode (p + 1) ys) a.outs ∙ ap (λ k. (o ++ (fresh [] p d).out) ++ toks k (p + 1) ys) a.modes ∙ append_assoc o (fresh [] p d).out (toks (fresh [] p d).mode (p + 1) ys)

-- a blank is no letter and no =
one_of : (c : ℕ) → blank c ≡ true → (c ≡ 32) ⊎ ((c ≡ 13) ⊎ (c ≡ 9))
one_of c h = go (eqb c 32) (eqb c 13) (eqb c 9) (eqb-true c 32) (eqb-true c 13) (eqb-true c 9) h
  where
    go : (x y z : Bool) → (x ≡ true → c ≡ 32) → (y ≡ true → c ≡ 13) → (z ≡ true → c ≡ 9) → x || (y || z) ≡ true → (c ≡ 32) ⊎ ((c ≡ 13) ⊎ (c ≡ 9))
    go true y z p q r h = inl (p refl)
    go false true z p q r h = inr (inl (q refl))
    go false false true p q r h = inr (inr (r refl))
    go false false false p q r h = absurd (false≢true h)

no_letter : (c : ℕ) → blank c ≡ true → letter c ≡ false
no_letter c h = go (one_of c h)
  where
    go : (c ≡ 32) ⊎ ((c ≡ 13) ⊎ (c ≡ 9)) → letter c ≡ false
    go (inl e) = ap letter e
    go (inr (inl e)) = ap letter e
    go (inr (inr e)) = ap letter e

no_equals : (c : ℕ) → blank c ≡ true → eqb c 61 ≡ false
no_equals c h = go (one_of c h)
  where
    go : (c ≡ 32) ⊎ ((c ≡ 13) ⊎ (c ≡ 9)) → eqb c 61 ≡ false
    go (inl e) = ap (λ x. eqb x 61) e
    go (inr (inl e)) = ap (λ x. eqb x 61) e
    go (inr (inr e)) = ap (λ x. eqb x 61) e

fresh_blank : (o : List Tok) (p c : ℕ) → blank c ≡ true → fresh o p c ≡ turn o gap
fresh_blank o p c h = when_true (blank c) _ _ h

-- what follows a turn
abbrev onward : ℕ → List ℕ → Turn → List Tok
onward p ys t = t.out ++ toks t.mode (p + 1) ys

gap_blank : (p c : ℕ) (ys : List ℕ) → blank c ≡ true → toks gap p (c ∷ ys) ≡ toks gap (p + 1) ys
gap_blank p c ys h = ap (onward p ys) (fresh_blank [] p c h)

word_blank : (w : Word) (f p c : ℕ) (ys : List ℕ) → blank c ≡ true → toks (in_word w f) p (c ∷ ys) ≡ tok w f p ∷ toks gap (p + 1) ys
word_blank w f p c ys h = ap (onward p ys) (when_false (letter c) (turn [] (in_word (w ++ (c ∷ [])) f)) (fresh (tok w f p ∷ []) p c) (no_letter c h) ∙ fresh_blank (tok w f p ∷ []) p c h)

equals_blank : (f p c : ℕ) (ys : List ℕ) → blank c ≡ true → toks (equals f) p (c ∷ ys) ≡ tok (61 ∷ []) f p ∷ toks gap (p + 1) ys
equals_blank f p c ys h = ap (onward p ys) (when_false (eqb c 61) (turn (tok (61 ∷ 61 ∷ []) f (p + 1) ∷ []) gap) (fresh (tok (61 ∷ []) f p ∷ []) p c) (no_equals c h) ∙ fresh_blank (tok (61 ∷ []) f p ∷ []) p c h)

note_none : (p : ℕ) (ys : List ℕ) → toks note p ys ≡ []
note_none p [] = refl
note_none p (y ∷ ys) = note_none (p + 1) ys

-- a piece that is begun before a border and ends behind it
over_border : (n : ℕ) (t : Tok) (ts : List Tok) → t.from < n → n < t.to → Apart n (t ∷ ts) → ⊥
over_border n t ts p q h = go h.0
  where
    go : (t.to ≤ n) ⊎ (n ≤ t.from) → ⊥
    go (inl l) = omega (arith, p, q)
    go (inr l) = omega (arith, p, q)

inside_word : (n : ℕ) (w : Word) (f p : ℕ) (zs : List ℕ) → f < n → n < p → Apart n (toks (in_word w f) p zs) → ⊥
inside_word n w f p [] l g h = over_border n (tok w f p) [] l g h
inside_word n w f p (d ∷ zs) l g h = go (letter d) (inside_word n (w ++ (d ∷ [])) f (p + 1) zs l (omega arith)) h
  where
    go : (b : Bool) → (Apart n (toks (in_word (w ++ (d ∷ [])) f) (p + 1) zs) → ⊥) → Apart n (onward p zs (pick b (turn [] (in_word (w ++ (d ∷ [])) f)) (fresh (tok w f p ∷ []) p d))) → ⊥
    go true ih h = ih h
    go false ih h = over_border n (tok w f p) (toks gap p (d ∷ zs)) l g (subst (Apart n) (toks_front (tok w f p ∷ []) p d zs) h)

-- where what is being read began
abbrev Before : Mode → ℕ → Type 0
Before gap p = Unit {0}
Before (in_word w f) p = f < p
Before (equals f) p = f < p
Before note p = Unit {0}

b_pick : (b : Bool) (x y : Turn) (p : ℕ) → Before x.mode p → Before y.mode p → Before (pick b x y).mode p
b_pick true x y p h k = h
b_pick false x y p h k = k

fresh_before : (o : List Tok) (p c : ℕ) → Before (fresh o p c).mode (p + 1)
fresh_before o p c = b_pick (blank c) _ _ (p + 1) tt (b_pick (eqb c 35) _ _ (p + 1) tt (b_pick (letter c) (turn o (in_word (c ∷ []) p)) _ (p + 1) (omega arith) (b_pick (eqb c 61) (turn o (equals p)) _ (p + 1) (omega arith) tt)))

turns_before : (m : Mode) (p c : ℕ) → Before m p → Before (turns m p c).mode (p + 1)
turns_before gap p c h = fresh_before [] p c
turns_before (in_word w f) p c h = b_pick (letter c) (turn [] (in_word (w ++ (c ∷ [])) f)) (fresh (tok w f p ∷ []) p c) (p + 1) (omega arith) (fresh_before (tok w f p ∷ []) p c)
turns_before (equals f) p c h = b_pick (eqb c 61) (turn (tok (61 ∷ 61 ∷ []) f (p + 1) ∷ []) gap) (fresh (tok (61 ∷ []) f p ∷ []) p c) (p + 1) tt (fresh_before (tok (61 ∷ []) f p ∷ []) p c)
turns_before note p c h = tt

-- a blank at a border
word_border : (w : Word) (f p : ℕ) (ys : List ℕ) → f < p → Apart p (toks (in_word w f) p ys) → w ∷ words (toks gap (p + 1) ys) ≡ words (toks (in_word w f) p ys)
word_border w f p [] l h = refl
word_border w f p (d ∷ ys) l h = go (letter d) h
  where
    go : (b : Bool) → Apart p (onward p ys (pick b (turn [] (in_word (w ++ (d ∷ [])) f)) (fresh (tok w f p ∷ []) p d))) →
        w ∷ words (toks gap (p + 1) (d ∷ ys)) ≡ words (onward p ys (pick b (turn [] (in_word (w ++ (d ∷ [])) f)) (fresh (tok w f p ∷ []) p d)))
    go true h = absurd (inside_word p (w ++ (d ∷ [])) f (p + 1) ys l (omega arith) h)
    go false h = ap (λ l. w ∷ l) (gap_place (p + 1) p (d ∷ ys)) ∙ sym (ap words (toks_front (tok w f p ∷ []) p d ys))

equals_border : (f p : ℕ) (ys : List ℕ) → f < p → Apart p (toks (equals f) p ys) → (61 ∷ []) ∷ words (toks gap (p + 1) ys) ≡ words (toks (equals f) p ys)
equals_border f p [] l h = refl
equals_border f p (d ∷ ys) l h = go (eqb d 61) h
  where
    go : (b : Bool) → Apart p (onward p ys (pick b (turn (tok (61 ∷ 61 ∷ []) f (p + 1) ∷ []) gap) (fresh (tok (61 ∷ []) f p ∷ []) p d))) →
        (61 ∷ []) ∷ words (toks gap (p + 1) (d ∷ ys)) ≡ words (onward p ys (pick b (turn (tok (61 ∷ 61 ∷ []) f (p + 1) ∷ []) gap) (fresh (tok (61 ∷ []) f p ∷ []) p d)))
    go true h = absurd (over_border p (tok (61 ∷ 61 ∷ []) f (p + 1)) (toks gap (p + 1) ys) l (omega arith) h)
    go false h = ap (λ l. (61 ∷ []) ∷ l) (gap_place (p + 1) p (d ∷ ys)) ∙ sym (ap words (toks_front (tok (61 ∷ []) f p ∷ []) p d ys))

at_border : (c : ℕ) (m : Mode) (p : ℕ) (ys : List ℕ) → blank c ≡ true → Before m p → Apart p (toks m p ys) → words (toks m p (c ∷ ys)) ≡ words (toks m p ys)
at_border c gap p ys h b a = ap words (gap_blank p c ys h) ∙ gap_place (p + 1) p ys
at_border c (in_word w f) p ys h b a = ap words (word_blank w f p c ys h) ∙ word_border w f p ys b a
at_border c (equals f) p ys h b a = ap words (equals_blank f p c ys h) ∙ equals_border f p ys b a
at_border c note p ys h b a = ap words (note_none (p + 1) ys) ∙ sym (ap words (note_none p ys))

blank_in : (n c : ℕ) (m : Mode) (p : ℕ) (xs ys : List ℕ) → blank c ≡ true → Before m p → n ≡ p + length xs → Apart n (toks m p (xs ++ ys)) → words (toks m p (xs ++ (c ∷ ys))) ≡ words (toks m p (xs ++ ys))
blank_in n c m p [] ys h b e a = let q : n ≡ p = omega arith in at_border c m p ys h b (subst (λ k. Apart k (toks m p ys)) q a)
blank_in n c m p (x ∷ xs) ys h b e a =
    let o = (turns m p x).out in let k = (turns m p x).mode in
    let ih = blank_in n c k (p + 1) xs ys h (turns_before m p x b) (omega arith) (apart-++ n o (toks k (p + 1) (xs ++ ys)) a) in
    words-++ o (toks k (p + 1) (xs ++ (c ∷ ys))) ∙ ap (λ l. words o ++ l) ih ∙ sym (words-++ o (toks k (p + 1) (xs ++ ys)))

pub blanks_free : BlanksFree
blanks_free c xs ys h a =
    let e = blank_in (length xs) c gap 0 xs ys h tt (omega arith) a in
    (e, words_only (toks gap 0 (xs ++ (c ∷ ys))) (toks gap 0 (xs ++ ys)) e)
