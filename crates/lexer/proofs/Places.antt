-- The same, over a line and a place in it, as the loops have them.
use Rattle.std.proofs.Common.{◌≡◌, ℕ, ◌+◌, ◌-◌, ◌<◌, ◌≤◌, true, false, eqb, List, [], ◌∷◌, ◌++◌, length, get_or, take, drop, sym, refl, ap, ◌∙◌, ⊎_elim, subst, arith, length-drop, get_or-drop, eq-eqb, ne_eqb}
use Rattle.std.proofs.lemmas.List.{at_drop_more, at_drop_all, take_more}
use Rattle.std.proofs.lemmas.Bool.{both_ways, cases_lt}
use Rattle.std.specs.List.{prefix_len}
use Rattle.base.specs.Base.{Word}
use Rattle.lexer.specs.Tokens.{tok, gap, in_word, equals, letter, blank, toks}
use Rattle.lexer.proofs.Runs.{along, ends, inside}
use Rattle.lexer.proofs.Steps.{skip_blank, word_begins, word_goes, word_ends, note_begins, equals_begins, equals_ends, equals_twice, other_alone}

pub no_note : (c : ℕ) → letter c ≡ true → eqb c 35 ≡ false
no_note c l = ne_eqb c 35 (λ e. both_ways (letter 35) refl (ap letter (sym e) ∙ l))

-- from a place on, the part of the line up to another
abbrev pub part : List ℕ → ℕ → ℕ → Word
part xs f i = take (i - f) (drop f xs)

pub part_more : (xs : List ℕ) (f i : ℕ) → f ≤ i → i < length xs → part xs f i ++ (get_or xs i 0 ∷ []) ≡ part xs f (i + 1)
part_more xs f i h l =
    let e : i + 1 - f ≡ i - f + 1 = omega arith in
    let back : f + (i - f) ≡ i = omega arith in
    let lt : i - f < length (drop f xs) = simp length-drop (omega arith) in
    let m = take_more (drop f xs) (i - f) 0 lt in
    let g : get_or (drop f xs) (i - f) 0 ≡ get_or xs i 0 = get_or-drop f xs (i - f) 0 ∙ ap (λ n. get_or xs n 0) back in
    sym (ap (λ n. take n (drop f xs)) e ∙ m ∙ ap (λ x. part xs f i ++ (x ∷ [])) g)

module _ (xs : List ℕ) (i : ℕ) (inside : i < length xs) where
  pub blank_more : blank (get_or xs i 0) ≡ true → toks gap i (drop i xs) ≡ toks gap (i + 1) (drop (i + 1) xs)
  blank_more e = at_drop_more (toks gap i) xs i 0 inside ∙ skip_blank i (get_or xs i 0) (drop (i + 1) xs) e

  pub word_more : (f : ℕ) → f ≤ i → letter (get_or xs i 0) ≡ true → toks (in_word (part xs f i) f) i (drop i xs) ≡ toks (in_word (part xs f (i + 1)) f) (i + 1) (drop (i + 1) xs)
  word_more f h e =
      at_drop_more (toks (in_word (part xs f i) f) i) xs i 0 inside ∙ word_goes (part xs f i) f i (get_or xs i 0) (drop (i + 1) xs) e ∙
      ap (λ w. toks (in_word w f) (i + 1) (drop (i + 1) xs)) (part_more xs f i h inside)

  pub word_stops : (f : ℕ) → letter (get_or xs i 0) ≡ false → toks (in_word (part xs f i) f) i (drop i xs) ≡ tok (part xs f i) f i ∷ toks gap i (drop i xs)
  word_stops f e =
      at_drop_more (toks (in_word (part xs f i) f) i) xs i 0 inside ∙ word_ends (part xs f i) f i (get_or xs i 0) (drop (i + 1) xs) e ∙
      ap (λ ts. tok (part xs f i) f i ∷ ts) (sym (at_drop_more (toks gap i) xs i 0 inside))

  pub one_long : get_or xs i 0 ∷ [] ≡ part xs i (i + 1)
  one_long =
      let z : i - i ≡ 0 = omega arith in
      ap (λ n. take n (drop i xs) ++ (get_or xs i 0 ∷ [])) (sym z) ∙ part_more xs i i (omega arith) inside

  pub word_starts : blank (get_or xs i 0) ≡ false → letter (get_or xs i 0) ≡ true → toks gap i (drop i xs) ≡ toks (in_word (part xs i (i + 1)) i) (i + 1) (drop (i + 1) xs)
  word_starts b l =
      at_drop_more (toks gap i) xs i 0 inside ∙ word_begins i (get_or xs i 0) (drop (i + 1) xs) b (no_note _ l) l ∙
      ap (λ w. toks (in_word w i) (i + 1) (drop (i + 1) xs)) one_long

pub word_at_end : (xs : List ℕ) (i f : ℕ) → length xs ≤ i → toks (in_word (part xs f i) f) i (drop i xs) ≡ tok (part xs f i) f i ∷ toks gap i (drop i xs)
word_at_end xs i f h =
    at_drop_all (toks (in_word (part xs f i) f) i) xs i h ∙ ap (λ ts. tok (part xs f i) f i ∷ ts) (sym (at_drop_all (toks gap i) xs i h))

-- the part of two from a place on
part_two : (xs : List ℕ) (i : ℕ) → i + 1 < length xs → get_or xs i 0 ≡ 61 → get_or xs (i + 1) 0 ≡ 61 → 61 ∷ 61 ∷ [] ≡ part xs i (i + 2)
part_two xs i h a b =
    let two : i + 1 + 1 ≡ i + 2 = omega arith in
    let lt : i < length xs = omega arith in
    ap (λ x. x ∷ 61 ∷ []) (sym a) ∙ ap (λ x. get_or xs i 0 ∷ x ∷ []) (sym b) ∙ ap (λ w. w ++ (get_or xs (i + 1) 0 ∷ [])) (one_long xs i lt) ∙
    part_more xs i (i + 1) (omega arith) h ∙ ap (part xs i) two

module _ (xs : List ℕ) (i : ℕ) (inside : i < length xs) (b : blank (get_or xs i 0) ≡ false) (n : get_or xs i 0 ≡ 35 → ⊥) (l : letter (get_or xs i 0) ≡ false) where
  pub two_equal : i + 1 < length xs → get_or xs i 0 ≡ 61 → get_or xs (i + 1) 0 ≡ 61 → toks gap i (drop i xs) ≡ tok (part xs i (i + 2)) i (i + 2) ∷ toks gap (i + 2) (drop (i + 2) xs)
  two_equal h e e2 =
      let two : i + 1 + 1 ≡ i + 2 = omega arith in
      at_drop_more (toks gap i) xs i 0 inside ∙ equals_begins i (get_or xs i 0) (drop (i + 1) xs) b (ne_eqb _ 35 n) l (eq-eqb _ 61 e) ∙
      at_drop_more (toks (equals i) (i + 1)) xs (i + 1) 0 h ∙ equals_twice i (i + 1) (get_or xs (i + 1) 0) (drop (i + 1 + 1) xs) (eq-eqb _ 61 e2) ∙
      ap (λ m. tok (61 ∷ 61 ∷ []) i m ∷ toks gap m (drop m xs)) two ∙ ap (λ w. tok w i (i + 2) ∷ toks gap (i + 2) (drop (i + 2) xs)) (part_two xs i h e e2)

  one : get_or xs i 0 ≡ 61 → 61 ∷ [] ≡ part xs i (i + 1)
  one e = ap (λ x. x ∷ []) (sym e) ∙ one_long xs i inside

  pub one_equal : get_or xs i 0 ≡ 61 → (i + 1 < length xs → get_or xs (i + 1) 0 ≡ 61 → ⊥) → toks gap i (drop i xs) ≡ tok (part xs i (i + 1)) i (i + 1) ∷ toks gap (i + 1) (drop (i + 1) xs)
  one_equal e other =
      at_drop_more (toks gap i) xs i 0 inside ∙ equals_begins i (get_or xs i 0) (drop (i + 1) xs) b (ne_eqb _ 35 n) l (eq-eqb _ 61 e) ∙
      ⊎_elim
      (λ h. at_drop_more (toks (equals i) (i + 1)) xs (i + 1) 0 h ∙ equals_ends i (i + 1) (get_or xs (i + 1) 0) (drop (i + 1 + 1) xs) (ne_eqb _ 61 (other h)) ∙ ap (λ ts. tok (61 ∷ []) i (i + 1) ∷ ts) (sym (at_drop_more (toks gap (i + 1)) xs (i + 1) 0 h)))
      (λ h. at_drop_all (toks (equals i) (i + 1)) xs (i + 1) h ∙ ap (λ ts. tok (61 ∷ []) i (i + 1) ∷ ts) (sym (at_drop_all (toks gap (i + 1)) xs (i + 1) h)))
      (cases_lt (i + 1) (length xs)) ∙
      ap (λ w. tok w i (i + 1) ∷ toks gap (i + 1) (drop (i + 1) xs)) (one e)

  pub one_other : (get_or xs i 0 ≡ 61 → ⊥) → toks gap i (drop i xs) ≡ tok (part xs i (i + 1)) i (i + 1) ∷ toks gap (i + 1) (drop (i + 1) xs)
  one_other e =
      at_drop_more (toks gap i) xs i 0 inside ∙ other_alone i (get_or xs i 0) (drop (i + 1) xs) b (ne_eqb _ 35 n) l (ne_eqb _ 61 e) ∙
      ap (λ w. tok w i (i + 1) ∷ toks gap (i + 1) (drop (i + 1) xs)) (one_long xs i inside)

pub note_at : (xs : List ℕ) (i : ℕ) → i < length xs → blank (get_or xs i 0) ≡ false → get_or xs i 0 ≡ 35 → toks gap i (drop i xs) ≡ []
note_at xs i h b e = at_drop_more (toks gap i) xs i 0 h ∙ note_begins i (get_or xs i 0) (drop (i + 1) xs) b (eq-eqb _ 35 e)

-- over blanks from a place on no piece begins
pub blank_run : (xs : List ℕ) (f n : ℕ) → n ≡ prefix_len blank (drop f xs) → toks gap f (drop f xs) ≡ toks gap (f + n) (drop (f + n) xs)
blank_run xs f n e =
    subst (λ n. toks gap f (drop f xs) ≡ toks gap (f + n) (drop (f + n) xs)) (sym e)
    (along blank xs f (λ i. toks gap f (drop f xs) ≡ toks gap i (drop i xs)) refl (λ i _ h b t. t ∙ blank_more xs i h b))

pub blank_stops : (xs : List ℕ) (f n : ℕ) → n ≡ prefix_len blank (drop f xs) → f + n < length xs → blank (get_or xs (f + n) 0) ≡ false
blank_stops xs f n e = subst (λ n. f + n < length xs → blank (get_or xs (f + n) 0) ≡ false) (sym e) (ends blank xs f)

module _ (xs : List ℕ) (f : ℕ) (h : f < length xs) (b : blank (get_or xs f 0) ≡ false) (l : letter (get_or xs f 0) ≡ true) where
  -- as far as a word goes on from a place
  abbrev Goes : ℕ → Type 0
  Goes i = f < i → toks gap f (drop f xs) ≡ toks (in_word (part xs f i) f) i (drop i xs)

  goes_more : (i : ℕ) → f ≤ i → i < length xs → letter (get_or xs i 0) ≡ true → Goes i → Goes (i + 1)
  goes_more i fi ih t g _ =
      ⊎_elim
      (λ m. g m ∙ word_more xs i ih f fi t)
      (λ m. let e : f ≡ i = omega arith in subst (λ i. toks gap f (drop f xs) ≡ toks (in_word (part xs f (i + 1)) f) (i + 1) (drop (i + 1) xs)) e (word_starts xs f h b l))
      (cases_lt f i)

  some_letter : f < f + prefix_len letter (drop f xs)
  some_letter =
      ⊎_elim
      (λ m. m)
      (λ m. let e : f + prefix_len letter (drop f xs) ≡ f = omega arith in
      absurd (both_ways (letter (get_or xs f 0)) (ap (λ i. letter (get_or xs i 0)) (sym e) ∙ ends letter xs f (omega (arith, e, h))) l))
      (cases_lt f (f + prefix_len letter (drop f xs)))

  word_to : (i : ℕ) → i ≡ f + prefix_len letter (drop f xs) → toks gap f (drop f xs) ≡ tok (part xs f i) f i ∷ toks gap i (drop i xs)
  word_to i e =
      let g : Goes i = subst Goes (sym e) (along letter xs f Goes (λ n. absurd (omega (arith, n))) goes_more) in
      g (subst (λ i. f < i) (sym e) some_letter) ∙
      ⊎_elim
      (λ m. word_stops xs i m f (ap (λ i. letter (get_or xs i 0)) e ∙ ends letter xs f (subst (λ i. i < length xs) e m)))
      (λ m. word_at_end xs i f m)
      (cases_lt i (length xs))

-- a word that begins at a place is one piece, and ends with its letters
pub word_run : (xs : List ℕ) (f n : ℕ) → n ≡ prefix_len letter (drop f xs) → f < length xs → blank (get_or xs f 0) ≡ false → letter (get_or xs f 0) ≡ true →
    (f + n ≤ length xs) × (f < f + n) × (toks gap f (drop f xs) ≡ tok (part xs f (f + n)) f (f + n) ∷ toks gap (f + n) (drop (f + n) xs))
word_run xs f n e h b l = (
  subst (λ n. f + n ≤ length xs) (sym e) (inside letter xs f (omega arith)),
  subst (λ n. f < f + n) (sym e) (some_letter xs f h b l),
  word_to xs f h b l (f + n) (ap (λ n. f + n) e),
)
