-- Parts of a row, as far as it goes.
use Rattle.std.proofs.Common.{◌≡◌, ℕ, ◌-◌, ◌<◌, ◌≤◌, min, List, [], length, take, drop, sym, ap, ◌∙◌, inl, inr, arith}
use Rattle.std.proofs.lemmas.List.{take_all, drop_all, length-drop}
use Rattle.std.proofs.lemmas.Bool.{cases_lt}

pub text_is : (xs : List ℕ) (from len f l : ℕ) → f ≡ min from (length xs) → l ≡ min len (length xs - f) → take l (drop f xs) ≡ take len (drop from xs)
text_is xs from len f l p q =
    elim (cases_lt from (length xs)) [ inl h ↦ inside h | inr h ↦ outside h ]
  where
    inside : from < length xs → take l (drop f xs) ≡ take len (drop from xs)
    inside h =
        let e : f ≡ from = omega arith in
        let n = length-drop from xs in
        let cut : take l (drop from xs) ≡ take len (drop from xs) = elim (cases_lt len (length xs - from)) [ inl g ↦ (let i : l ≡ len = omega (arith, e) in ap (λ n. take n (drop from xs)) i) | inr g ↦ take_all l (drop from xs) (omega (arith, e, n)) ∙ sym (take_all len (drop from xs) (omega (arith, n))) ] in
        ap (λ n. take l (drop n xs)) e ∙ cut

    none : (n m : ℕ) → length xs ≤ m → take n (drop m xs) ≡ []
    none n m h = ap (take n) (drop_all m xs h) ∙ take_all n [] (omega arith)

    outside : length xs ≤ from → take l (drop f xs) ≡ take len (drop from xs)
    outside h = none l f (omega arith) ∙ sym (none len from h)
