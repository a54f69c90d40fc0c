-- A text cut into lines, over a place in it, as the loop has it.
use Rattle.std.proofs.Common.{◌≡◌, ℕ, ◌+◌, ◌-◌, ◌<◌, ◌≤◌, Bool, true, false, eqb, List, [], ◌∷◌, ◌++◌, length, get_or, take, drop, ⊎_elim, sym, refl, ap, ◌∙◌, subst, arith, length-drop, le-ltb, lt-ltb, eq-eqb, ne_eqb, eqb-true}
use Rattle.std.proofs.lemmas.List.{at_drop_more, at_drop_all, length-take-le}
use Rattle.std.proofs.lemmas.Bool.{both_ways, cases_lt, not-false}
use Rattle.std.specs.List.{prefix_len}
use Rattle.base.specs.Base.{pick}
use Rattle.lexer.specs.Tokens.{cut}
use Rattle.lexer.specs.Lines.{lines_from, line_of, lines_behind, LineEnds, goes_on}
use Rattle.lexer.proofs.Places.{part, part_more}
use Rattle.lexer.proofs.Runs.{along, ends, inside}

-- a byte that ends no line belongs to it; another ends it
goes : (s : ℕ) (acc : List ℕ) (c : ℕ) (cs : List ℕ) → eqb c 10 ≡ false → cut s acc (c ∷ cs) ≡ cut s (acc ++ (c ∷ [])) cs
goes s acc c cs e = simp e

stops : (s : ℕ) (acc : List ℕ) (c : ℕ) (cs : List ℕ) → eqb c 10 ≡ true → cut s acc (c ∷ cs) ≡ record { start = s; bytes = acc } ∷ cut (1 + (s + length acc)) [] cs
stops s acc c cs e = simp e

pub line_more : (xs : List ℕ) (f i : ℕ) → f ≤ i → i < length xs → (get_or xs i 0 ≡ 10 → ⊥) → cut f (part xs f i) (drop i xs) ≡ cut f (part xs f (i + 1)) (drop (i + 1) xs)
line_more xs f i h l n =
    at_drop_more (cut f (part xs f i)) xs i 0 l ∙ goes f (part xs f i) (get_or xs i 0) (drop (i + 1) xs) (ne_eqb (get_or xs i 0) 10 n) ∙
    ap (λ w. cut f w (drop (i + 1) xs)) (part_more xs f i h l)

pub line_stops : (xs : List ℕ) (f i : ℕ) → f ≤ i → i < length xs → get_or xs i 0 ≡ 10 → cut f (part xs f i) (drop i xs) ≡ line_of xs f i ∷ lines_behind xs i
line_stops xs f i h l e =
    let long : length (part xs f i) ≡ i - f = length-take-le (i - f) (drop f xs) (simp length-drop (omega arith)) in
    let there : 1 + (f + length (part xs f i)) ≡ i + 1 = omega arith in
    at_drop_more (cut f (part xs f i)) xs i 0 l ∙ stops f (part xs f i) (get_or xs i 0) (drop (i + 1) xs) (eq-eqb (get_or xs i 0) 10 e) ∙
    ap (λ n. line_of xs f i ∷ cut n [] (drop (i + 1) xs)) there ∙
    ap (λ (b : Bool). line_of xs f i ∷ pick b (lines_from xs (i + 1)) []) (sym (lt-ltb i (length xs) l))

pub line_at_end : (xs : List ℕ) (f i : ℕ) → length xs ≤ i → cut f (part xs f i) (drop i xs) ≡ line_of xs f i ∷ lines_behind xs i
line_at_end xs f i l =
    at_drop_all (cut f (part xs f i)) xs i l ∙ ap (λ (b : Bool). line_of xs f i ∷ pick b (lines_from xs (i + 1)) []) (sym (le-ltb i (length xs) l))

no_end : (c : ℕ) → goes_on c ≡ true → c ≡ 10 → ⊥
no_end c g e = both_ways (goes_on c) (ap goes_on e) g

is_end : (c : ℕ) → goes_on c ≡ false → c ≡ 10
is_end c g = eqb-true c 10 (not-false (eqb c 10) g)

module _ (xs : List ℕ) (f : ℕ) where
  -- as far as the line from a place on goes on
  abbrev Goes : ℕ → Type 0
  Goes i = lines_from xs f ≡ cut f (part xs f i) (drop i xs)

  start : Goes f
  start = let z : f - f ≡ 0 = omega arith in ap (λ n. cut f (take n (drop f xs)) (drop f xs)) (sym z)

  cuts_at : (i : ℕ) → i ≡ f + prefix_len goes_on (drop f xs) → lines_from xs f ≡ line_of xs f i ∷ lines_behind xs i
  cuts_at i e =
      subst Goes (sym e) (along goes_on xs f Goes start (λ i fi h t g. g ∙ line_more xs f i fi h (no_end _ t))) ∙
      ⊎_elim
      (λ m. line_stops xs f i (omega (arith, e)) m (is_end _ (ap (λ i. goes_on (get_or xs i 0)) e ∙ ends goes_on xs f (subst (λ i. i < length xs) e m))))
      (λ m. line_at_end xs f i m)
      (cases_lt i (length xs))

-- the line from a place on ends behind the bytes that end none
pub line_ends : (xs : List ℕ) (f n : ℕ) → n ≡ prefix_len goes_on (drop f xs) → LineEnds xs f (f + n)
line_ends xs f n e =
    subst (λ n. LineEnds xs f (f + n)) (sym e) (record { onward = omega arith; within = inside goes_on xs f; cuts = cuts_at xs f (f + prefix_len goes_on (drop f xs)) refl })
