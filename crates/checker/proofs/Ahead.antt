-- The slots of a call that are left.
use Rattle.std.proofs.Common.{◌≡◌, ℕ, zero, suc, ◌+◌, ◌-◌, ◌≤◌, List, [], ◌∷◌, length, drop, refl, ap, ◌∙◌, arith, ne_eqb}
use Rattle.base.specs.Base.{pick}
use Rattle.semantics.specs.Names.{Slot}
use Rattle.semantics.specs.Walk.{pop}
use Rattle.checker.specs.Rows.{Book, slots_left}

drop_next : (i : ℕ) (xs : List Slot) → drop (suc i) xs ≡ pop (drop i xs)
drop_next zero [] = refl
drop_next zero (x ∷ xs) = refl
drop_next (suc i) [] = refl
drop_next (suc i) (x ∷ xs) = drop_next i xs

drop_last : (i : ℕ) (xs : List Slot) → length xs ≤ suc i → [] ≡ pop (drop i xs)
drop_last zero [] l = refl
drop_last zero (x ∷ []) l = refl
drop_last zero (x ∷ y ∷ xs) l = absurd (omega arith)
drop_last (suc i) [] l = refl
drop_last (suc i) (x ∷ xs) l = drop_last i xs (omega arith)

-- slots packed in two words
pub slots_packed : (k : Book) (s n : ℕ) → slots_left k s (n + 1) ≡ drop n (k.sigs s).slots
slots_packed k s n = let e : n + 1 - 1 ≡ n = omega arith in ap (λ b. pick b [] (drop (n + 1 - 1) (k.sigs s).slots)) (ne_eqb (n + 1) 0 (λ z. omega arith)) ∙ ap (λ j. drop j (k.sigs s).slots) e

-- those behind the next one
pub next_left : (k : Book) (s n : ℕ) → drop (n + 1) (k.sigs s).slots ≡ pop (drop n (k.sigs s).slots)
next_left k s n = let e : n + 1 ≡ suc n = omega arith in ap (λ j. drop j (k.sigs s).slots) e ∙ drop_next n (k.sigs s).slots

pub none_left : (k : Book) (s n : ℕ) → length (k.sigs s).slots ≤ n + 1 → [] ≡ pop (drop n (k.sigs s).slots)
none_left k s n h = drop_last n (k.sigs s).slots (omega arith)
