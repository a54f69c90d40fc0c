-- Lines cut behind a word and at the first blank.
use Rattle.std.proofs.Common.{◌≡◌, ℕ, suc, ◌+◌, ◌-◌, ◌<◌, ◌≤◌, Bool, true, false, not, cond, ◌&&◌, eqb, ltb, List, [], ◌∷◌, length, take, drop, Some, None, Option as Perhaps, MatchOption, sym, refl, ap, ◌∙◌, add-one, arith, ltb-false, ltb-true}
use Rattle.std.specs.Borrow.{Bor}
use Rattle.std.specs.List.{position_or_len}
use Rattle.std.specs.Cmp.Lexicographic.{pointwise}
use Rattle.base.specs.Base.{pick}
use Rattle.protocol.specs.Headers.{held, behind_word, blank_in, head_of, tail_of}
use Rattle.std.proofs.lemmas.List.{drop_all, take_all, take_rest}

-- how many bytes stand before the first blank, as the library counts them
counted : (bs : List ℕ) → position_or_len (λ c. eqb c 32) bs ≡ blank_in bs
counted [] = refl
counted (b ∷ bs) = elim (eqb b 32) as (λ t. cond (not t) (1 + position_or_len (λ c. eqb c 32) bs) 0 ≡ pick t 0 (suc (blank_in bs))) [ true ↦ refl | false ↦ let e = counted bs in omega arith ]

pub first_blank : (bs : List ℕ) (r : Perhaps ℕ) → r ≡ cond (ltb (position_or_len (λ c. eqb c 32) bs) (length bs)) (Some (position_or_len (λ c. eqb c 32) bs)) None → MatchOption r (length bs ≤ blank_in bs) (λ i. (i < length bs) × (i ≡ blank_in bs))
first_blank bs r e = at r (blank_in bs) (length bs) (e ∙ ap (λ n. cond (ltb n (length bs)) (Some n) None) (counted bs))
  where
    tested : (r : Perhaps ℕ) (n m : ℕ) (t : Bool) → ltb n m ≡ t → r ≡ cond t (Some n) None → MatchOption r (m ≤ n) (λ i. (i < m) × (i ≡ n))
    tested None n m true h e = cc
    tested None n m false h e = ltb-false n m h
    tested (Some i) n m true h e = let k : i ≡ n = cc in (omega (arith, ltb-true n m h), k)
    tested (Some i) n m false h e = cc

    at : (r : Perhaps ℕ) (n m : ℕ) → r ≡ cond (ltb n m) (Some n) None → MatchOption r (m ≤ n) (λ i. (i < m) × (i ≡ n))
    at r n m e = tested r n m (ltb n m) refl e

-- what stands behind the first blank
pub tail_some : (bs : List ℕ) (i : ℕ) → i ≡ blank_in bs → take (length bs - (i + 1)) (drop (i + 1) bs) ≡ tail_of bs
tail_some bs i e = take_rest bs (i + 1) ∙ ap (λ k. drop k bs) (add-one i ∙ ap suc e)

-- where there is none
pub head_none : (bs : List ℕ) → length bs ≤ blank_in bs → bs ≡ head_of bs
head_none bs h = sym (take_all (blank_in bs) bs h)

pub tail_none : (bs : List ℕ) → length bs ≤ blank_in bs → ◌≡◌ {A = List ℕ} [] (tail_of bs)
tail_none bs h = sym (drop_all (suc (blank_in bs)) bs (omega arith))

-- a word that a line begins with, as the library tests it
word : (ws cs : List ℕ) → behind_word ws cs ≡ pick (pointwise eqb (take (length ws) cs) ws) (Some (drop (length ws) cs)) None
word [] cs = refl
word (w ∷ ws) [] = refl
word (w ∷ ws) (c ∷ cs) = elim (eqb c w) as (λ t. pick t (behind_word ws cs) None ≡ pick (t && pointwise eqb (take (length ws) cs) ws) (Some (drop (length ws) cs)) None) [ true ↦ word ws cs | false ↦ refl ]

pub stripped : (o : Perhaps (Bor (List ℕ))) (ws cs : List ℕ) → MatchOption o (pointwise eqb (take (length ws) cs) ws ≡ false) (λ x. (pointwise eqb (take (length ws) cs) ws ≡ true) × (x.now ≡ drop (length ws) cs) × (length x.now + length ws ≡ length cs)) → held o ≡ behind_word ws cs
stripped None ws cs h = sym (word ws cs ∙ ap (λ t. pick t (Some (drop (length ws) cs)) None) h)
stripped (Some x) ws cs h = ap Some h.1 ∙ sym (word ws cs ∙ ap (λ t. pick t (Some (drop (length ws) cs)) None) h.0)
