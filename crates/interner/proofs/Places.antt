-- A table's places: one written, one more behind them, and those of some records taken out (Dropping).
use Rattle.std.proofs.Common.{◌≡◌, ℕ, zero, suc, ◌+◌, ◌<◌, ◌≤◌, Bool, true, false, eqb, List, [], ◌∷◌, ◌++◌, length, get_or, take, drop, set, Some, None, Option as Perhaps, refl, sym, ap, ◌∙◌, append-nil, arith, length-drop, eq-eqb, ne_eqb, eqb-true}
use Rattle.std.specs.List.{position, position_or_len}
use Rattle.std.proofs.lemmas.List.{get_or-set_same, get_or-set_other, length-set, get_or-take, get_or-drop, length-take-le, drop-set-lt, drop-set-add, take_more, take_more_set, take_all}
use borrow.Author.Tests.{eqb-false}
use Rattle.std.proofs.lemmas.Grind.{common_steps}
use Rattle.std.proofs.lemmas.List.Elements.{All-get_or, All-from_get_or}
use Rattle.std.proofs.lemmas.List.Quantifiers.{position-Some}
use Rattle.std.proofs.lemmas.List.Sums.{fails_before_first}
use Rattle.base.specs.Base.{pick}
use Rattle.interner.specs.Lines.{Every}
use Rattle.interner.proofs.Lists.{every_at}
use Rattle.interner.specs.Places.{entries, others, DropSays, IndexSays, Placed}

pub take_set_in : (n : ℕ) (l : List ℕ) (k p : ℕ) → take n (set l k p) ≡ set (take n l) k p
take_set_in zero l k p = refl
take_set_in (suc n) [] k p = refl
take_set_in (suc n) (x ∷ xs) zero p = refl
take_set_in (suc n) (x ∷ xs) (suc k) p = ap (λ r. x ∷ r) (take_set_in n xs k p)

pub entries_set : (t : List ℕ) (k p : ℕ) → entries (set t (1 + k) p) ≡ set (entries t) k p
entries_set t k p = ap (λ n. take n (drop 1 (set t (1 + k) p))) (get_or-set_other t (1 + k) 0 p 0 (omega arith)) ∙ ap (take (get_or t 0 0)) (drop-set-add 1 t k p) ∙ take_set_in (get_or t 0 0) (drop 1 t) k p

pub entries_push : (t : List ℕ) (p : ℕ) → 1 + get_or t 0 0 < length t → entries (set (set t (1 + get_or t 0 0) p) 0 (get_or t 0 0 + 1)) ≡ entries t ++ (p ∷ [])
entries_push t p h = ap (λ n. take n (drop 1 (set (set t (1 + get_or t 0 0) p) 0 (get_or t 0 0 + 1)))) (get_or-set_same (set t (1 + get_or t 0 0) p) 0 (get_or t 0 0 + 1) 0 (omega (arith, length-set t (1 + get_or t 0 0) p))) ∙ ap (take (get_or t 0 0 + 1)) (drop-set-lt 1 (set t (1 + get_or t 0 0) p) 0 (get_or t 0 0 + 1) (omega arith) ∙ drop-set-add 1 t (get_or t 0 0) p) ∙ take_more_set (drop 1 t) (get_or t 0 0) p (omega (arith, length-drop 1 t))

pub entry_is : (t : List ℕ) (k : ℕ) → k < get_or t 0 0 → get_or (entries t) k 0 ≡ get_or t (1 + k) 0
entry_is t k h = get_or-take (get_or t 0 0) (drop 1 t) k 0 h ∙ get_or-drop 1 t k 0

pub entries_long : (t : List ℕ) → 1 + get_or t 0 0 ≤ length t → length (entries t) ≡ get_or t 0 0
entries_long t h = length-take-le (get_or t 0 0) (drop 1 t) (omega (arith, length-drop 1 t))

pub place_in : (t m : List ℕ) (k : ℕ) → Placed t m → k < get_or t 0 0 → get_or t (1 + k) 0 < length m
place_in t m k q h = let x = All-get_or (λ p. p < length m) (entries t) k 0 (omega (arith, entries_long t q.in_table)) q.in_words in omega (arith, x, entry_is t k h)

-- records in order stand at places of words
pub placed : (t m : List ℕ) (P : ℕ → Type 0) → ((p : ℕ) → P p → p < length m) → 1 + get_or t 0 0 ≤ length t → Every P (entries t) → Placed t m
placed t m P f b e = record { in_table = b; in_words = All-from_get_or (λ p. p < length m) (entries t) 0 (λ i h. f (get_or (entries t) i 0) (every_at P (entries t) i h e)) }

-- the first place that is found is the first of that number
pub first_says : (t m : List ℕ) (f : ℕ) (r : Perhaps ℕ) → 1 + get_or t 0 0 ≤ length t → r ≡ position (λ p. eqb (get_or m p 0) f) (entries t) → IndexSays t m f r
first_says t m f (Some k) b e =
    let x = position-Some (λ p. eqb (get_or m p 0) f) (entries t) k 0 (sym e) in
    let l = entries_long t b in
    let h : k < get_or t 0 0 = omega arith in
    (h, ap (λ p. get_or m p 0) (sym (entry_is t k h)) ∙ eqb-true _ _ x.1, λ j i q. eqb-false _ _ (x.2 j i) (ap (λ p. get_or m p 0) (entry_is t j (omega arith)) ∙ q))
first_says t m f None b e = λ j h q.
    let l = entries_long t b in
    let n : length (entries t) ≤ position_or_len (λ p. eqb (get_or m p 0) f) (entries t) = grind (arith, common_steps) in
    eqb-false _ _ (fails_before_first (λ p. eqb (get_or m p 0) f) (entries t) j 0 (omega arith)) (ap (λ p. get_or m p 0) (entry_is t j h) ∙ q)

-- one place more
others_push : (m : List ℕ) (f : ℕ) (es : List ℕ) (p : ℕ) → others m f (es ++ (p ∷ [])) ≡ others m f es ++ pick (eqb (get_or m p 0) f) [] (p ∷ [])
others_push m f [] p = refl
others_push m f (x ∷ xs) p = go (eqb (get_or m x 0) f) (others_push m f xs p)
  where
    go : (b : Bool) → others m f (xs ++ (p ∷ [])) ≡ others m f xs ++ pick (eqb (get_or m p 0) f) [] (p ∷ []) → pick b (others m f (xs ++ (p ∷ []))) (x ∷ others m f (xs ++ (p ∷ []))) ≡ pick b (others m f xs) (x ∷ others m f xs) ++ pick (eqb (get_or m p 0) f) [] (p ∷ [])
    go true r = r
    go false r = ap (λ z. x ∷ z) r

pub every_others : (P : ℕ → Type 0) (m : List ℕ) (f : ℕ) (es : List ℕ) → Every P es → Every P (others m f es)
every_others P m f [] e = tt
every_others P m f (p ∷ ps) (x, e) = go (eqb (get_or m p 0) f) (every_others P m f ps e)
  where
    go : (b : Bool) → Every P (others m f ps) → Every P (pick b (others m f ps) (p ∷ others m f ps))
    go true r = r
    go false r = (x, r)

-- t₀ at the start, t now: of the first k places those of other records stand in front, j of them
pub record Dropping (t₀ m : List ℕ) (f : ℕ) (t : List ℕ) (k j : ℕ) : Type 0 where
  pub behind : j ≤ k
  pub within : k ≤ get_or t₀ 0 0
  pub long : length t ≡ length t₀
  pub in_table : 1 + get_or t₀ 0 0 ≤ length t₀
  pub so_far : take j (drop 1 t) ≡ others m f (take k (entries t₀))
  pub rest : (i : ℕ) → k ≤ i → get_or t (1 + i) 0 ≡ get_or t₀ (1 + i) 0

pub drop_begins : (t m : List ℕ) (f : ℕ) → 1 + get_or t 0 0 ≤ length t → Dropping t m f t 0 0
drop_begins t m f h = record { behind = omega arith; within = omega arith; long = refl; in_table = h; so_far = refl; rest = λ i l. refl }

module _ (t₀ m : List ℕ) (f : ℕ) (t : List ℕ) (k j : ℕ) (d : Dropping t₀ m f t k j) (k_in : k < get_or t₀ 0 0) where
  place_k : get_or (entries t₀) k 0 ≡ get_or t (1 + k) 0
  place_k = entry_is t₀ k k_in ∙ sym (d.rest k (omega arith))

  more : others m f (take (k + 1) (entries t₀)) ≡ others m f (take k (entries t₀)) ++ pick (eqb (get_or m (get_or t (1 + k) 0) 0) f) [] (get_or t (1 + k) 0 ∷ [])
  more = ap (others m f) (take_more (entries t₀) k 0 (omega (arith, entries_long t₀ d.in_table))) ∙ others_push m f (take k (entries t₀)) (get_or (entries t₀) k 0) ∙ ap (λ p. others m f (take k (entries t₀)) ++ pick (eqb (get_or m p 0) f) [] (p ∷ [])) place_k

  pub drop_passes : get_or m (get_or t (1 + k) 0) 0 ≡ f → Dropping t₀ m f t (k + 1) j
  drop_passes e = record { behind = omega (arith, d.behind); within = omega arith; long = d.long; in_table = d.in_table; so_far = sym (more ∙ ap (λ (b : Bool). others m f (take k (entries t₀)) ++ pick b [] (get_or t (1 + k) 0 ∷ [])) (eq-eqb (get_or m (get_or t (1 + k) 0) 0) f e) ∙ append-nil (others m f (take k (entries t₀))) ∙ sym d.so_far); rest = λ i l. d.rest i (omega arith) }

  pub drop_keeps : (get_or m (get_or t (1 + k) 0) 0 ≡ f → ⊥) → Dropping t₀ m f (set t (1 + j) (get_or t (1 + k) 0)) (k + 1) (j + 1)
  drop_keeps n = let b = d.behind in let l = d.long in let i = d.in_table in record { behind = omega arith; within = omega arith; long = length-set t (1 + j) (get_or t (1 + k) 0) ∙ d.long; in_table = d.in_table; so_far = ap (take (j + 1)) (drop-set-add 1 t j (get_or t (1 + k) 0)) ∙ take_more_set (drop 1 t) j (get_or t (1 + k) 0) (omega (arith, length-drop 1 t)) ∙ ap (λ z. z ++ (get_or t (1 + k) 0 ∷ [])) d.so_far ∙ sym (more ∙ ap (λ (b : Bool). others m f (take k (entries t₀)) ++ pick b [] (get_or t (1 + k) 0 ∷ [])) (ne_eqb (get_or m (get_or t (1 + k) 0) 0) f n)); rest = λ i g. get_or-set_other t (1 + j) (1 + i) (get_or t (1 + k) 0) 0 (omega arith) ∙ d.rest i (omega arith) }

pub drop_ends : (t₀ m : List ℕ) (f : ℕ) (t : List ℕ) (k j : ℕ) → Dropping t₀ m f t k j → get_or t₀ 0 0 ≤ k → DropSays t₀ m f (set t 0 j)
drop_ends t₀ m f t k j d h =
    let b = d.behind in let w = d.within in let l = d.long in let i = d.in_table in
    let g : get_or (set t 0 j) 0 0 ≡ j = get_or-set_same t 0 j 0 (omega arith) in
    let e : entries (set t 0 j) ≡ others m f (entries t₀) = ap (λ n. take n (drop 1 (set t 0 j))) g ∙ ap (take j) (drop-set-lt 1 t 0 j (omega arith)) ∙ d.so_far ∙ ap (others m f) (take_all k (entries t₀) (omega (arith, entries_long t₀ d.in_table))) in
    record { in_table = omega (arith, length-set t 0 j, g); left = e }
