-- The things said in a row, one behind the other.
use Rattle.std.proofs.Common.{◌≡◌, ℕ, zero, suc, ◌+◌, ◌*◌, ◌≤◌, List, [], ◌∷◌, ◌++◌, length, get_or, take, drop, refl, ap, ◌∙◌, arith}
use Rattle.std.proofs.lemmas.List.{drop_more}
use Rattle.checker.specs.Rows.{event_at, events_of, events_at}

pub events_in : (ws : List ℕ) (i n : ℕ) → i + 4 * n ≤ length ws → events_of (take (4 * n) (drop i ws)) ≡ events_at ws i n
events_in ws i zero h = refl
events_in ws i (suc n) h =
    let xs = drop (i + 4) ws in
    let two : i + 1 + 1 ≡ i + 2 = omega arith in
    let three : i + 2 + 1 ≡ i + 3 = omega arith in
    let four : i + 3 + 1 ≡ i + 4 = omega arith in
    let m : 4 * suc n ≡ suc (suc (suc (suc (4 * n)))) = omega arith in
    let d3 : drop (i + 3) ws ≡ get_or ws (i + 3) 0 ∷ xs = drop_more ws (i + 3) 0 (omega arith) ∙ ap (λ j. get_or ws (i + 3) 0 ∷ drop j ws) four in
    let d2 : drop (i + 2) ws ≡ get_or ws (i + 2) 0 ∷ get_or ws (i + 3) 0 ∷ xs = drop_more ws (i + 2) 0 (omega arith) ∙ ap (λ j. get_or ws (i + 2) 0 ∷ drop j ws) three ∙ ap (λ l. get_or ws (i + 2) 0 ∷ l) d3 in
    let d1 : drop (i + 1) ws ≡ get_or ws (i + 1) 0 ∷ get_or ws (i + 2) 0 ∷ get_or ws (i + 3) 0 ∷ xs = drop_more ws (i + 1) 0 (omega arith) ∙ ap (λ j. get_or ws (i + 1) 0 ∷ drop j ws) two ∙ ap (λ l. get_or ws (i + 1) 0 ∷ l) d2 in
    let d0 : drop i ws ≡ get_or ws i 0 ∷ get_or ws (i + 1) 0 ∷ get_or ws (i + 2) 0 ∷ get_or ws (i + 3) 0 ∷ xs = drop_more ws i 0 (omega arith) ∙ ap (λ l. get_or ws i 0 ∷ l) d1 in
    (λ j. events_of (take (m j) (d0 j))) ∙ ap (λ es. event_at ws i ∷ es) (events_in ws (i + 4) n (omega arith))

-- the last of them
pub events_last : (ws : List ℕ) (i n : ℕ) → events_at ws i (suc n) ≡ events_at ws i n ++ (event_at ws (i + 4 * n) ∷ [])
events_last ws i zero = let e : i ≡ i + 4 * 0 = omega arith in ap (λ j. event_at ws j ∷ []) e
events_last ws i (suc n) = let e : i + 4 + 4 * n ≡ i + 4 * suc n = omega arith in ap (λ es. event_at ws i ∷ es) (events_last ws (i + 4) n ∙ ap (λ j. events_at ws (i + 4) n ++ (event_at ws j ∷ [])) e)
