-- Parts of rows of operations, and items found again from their code.
use Rattle.std.proofs.Common.{◌≡◌, ℕ, zero, suc, ◌+◌, ◌-◌, ◌*◌, ◌/◌, ◌<◌, ◌≤◌, min, Bool, true, false, cond, List, [], ◌∷◌, length, get_or, take, drop, Some, None, sym, refl, ap, ◌∙◌, inl, inr, arith}
use Rattle.std.specs.List.{slice_get, range_with_len, prefix_len}
use Rattle.std.proofs.lemmas.List.{take_all, drop_all, length-take}
use Rattle.std.proofs.lemmas.Slice.{between_is}
use Rattle.std.proofs.lemmas.Bool.{cases_lt}
use Rattle.base.specs.Base.{pick}
use Rattle.lexer.specs.Tokens.{Tok}
use Rattle.grammar.specs.Grammar.{E, Field, Item as Meant, nothing, i_use, i_kind, i_rec, i_def, i_bad}
use Rattle.grammar.specs.Code.{Op as Flat, onto, slots_onto, item_code, o_new, o_slot, o_result, o_body}
use Rattle.parser.specs.Rows.{ops, op_of}
use Rattle.syntax.specs.View.{is_slot, lead, slot_in}

-- a part of a row, as far as the row goes
pub part_is : (xs : List ℕ) (from to start end : ℕ) → end ≡ min to (length xs) → start ≡ min from end → take (end - start) (drop start xs) ≡ take (to - from) (drop from xs)
part_is xs from to start end p q =
    between_is xs start end ∙ ap (drop start) same ∙ cuts ∙ sym (between_is xs from to)
  where
    same : take end xs ≡ take to xs
    same = elim (cases_lt to (length xs)) [ inl h ↦ (let e : end ≡ to = omega arith in ap (λ n. take n xs) e) | inr h ↦ (let e : length xs ≤ end = omega arith in take_all end xs e ∙ sym (take_all to xs h)) ]

    cuts : drop start (take to xs) ≡ drop from (take to xs)
    cuts =
        let l = length-take to xs in
        elim (cases_lt from end) [ inl h ↦ (let e : start ≡ from = omega arith in ap (λ n. drop n (take to xs)) e) | inr h ↦ drop_all start (take to xs) (omega arith) ∙ sym (drop_all from (take to xs) (omega arith)) ]

-- operation i of words
pub ops_nth : (line code : List ℕ) (i : ℕ) → 5 * i + 5 ≤ length code → slice_get (ops line code) i ≡ Some (op_of line (get_or code (5 * i) 0) (get_or code (5 * i + 1) 0) (get_or code (5 * i + 2) 0) (get_or code (5 * i + 3) 0) (get_or code (5 * i + 4) 0))
ops_nth line [] i h = absurd (omega arith)
ops_nth line (t ∷ []) i h = absurd (omega arith)
ops_nth line (t ∷ a ∷ []) i h = absurd (omega arith)
ops_nth line (t ∷ a ∷ b ∷ []) i h = absurd (omega arith)
ops_nth line (t ∷ a ∷ b ∷ c ∷ []) i h = absurd (omega arith)
ops_nth line (t ∷ a ∷ b ∷ c ∷ d ∷ ws) zero h = refl
ops_nth line (t ∷ a ∷ b ∷ c ∷ d ∷ ws) (suc i) h =
    let xs = t ∷ a ∷ b ∷ c ∷ d ∷ ws in
    let on : (k : ℕ) → get_or ws (5 * i + k) 0 ≡ get_or xs (5 * suc i + k) 0 = λ k. let e : 5 * suc i + k ≡ suc (suc (suc (suc (suc (5 * i + k))))) = omega arith in sym (ap (λ m. get_or xs m 0) e) in
    let on0 : get_or ws (5 * i) 0 ≡ get_or xs (5 * suc i) 0 = let e : 5 * suc i ≡ suc (suc (suc (suc (suc (5 * i))))) = omega arith in sym (ap (λ m. get_or xs m 0) e) in
    ops_nth line ws i (omega arith) ∙ cc (on0, on 1, on 2, on 3, on 4)

five : (n : ℕ) → 5 * suc n ≡ suc (suc (suc (suc (suc (5 * n)))))
five n = omega arith

-- the first n of them, and those behind
pub ops_take : (line code : List ℕ) (n : ℕ) → 5 * n ≤ length code → ops line (take (5 * n) code) ≡ take n (ops line code)
ops_take line code zero h = refl
ops_take line [] (suc n) h = absurd (omega arith)
ops_take line (t ∷ []) (suc n) h = absurd (omega arith)
ops_take line (t ∷ a ∷ []) (suc n) h = absurd (omega arith)
ops_take line (t ∷ a ∷ b ∷ []) (suc n) h = absurd (omega arith)
ops_take line (t ∷ a ∷ b ∷ c ∷ []) (suc n) h = absurd (omega arith)
ops_take line (t ∷ a ∷ b ∷ c ∷ d ∷ ws) (suc n) h = ap (λ m. ops line (take m (t ∷ a ∷ b ∷ c ∷ d ∷ ws))) (five n) ∙ ap (λ l. op_of line t a b c d ∷ l) (ops_take line ws n (omega arith))

pub ops_drop : (line code : List ℕ) (n : ℕ) → 5 * n ≤ length code → ops line (drop (5 * n) code) ≡ drop n (ops line code)
ops_drop line code zero h = refl
ops_drop line [] (suc n) h = absurd (omega arith)
ops_drop line (t ∷ []) (suc n) h = absurd (omega arith)
ops_drop line (t ∷ a ∷ []) (suc n) h = absurd (omega arith)
ops_drop line (t ∷ a ∷ b ∷ []) (suc n) h = absurd (omega arith)
ops_drop line (t ∷ a ∷ b ∷ c ∷ []) (suc n) h = absurd (omega arith)
ops_drop line (t ∷ a ∷ b ∷ c ∷ d ∷ ws) (suc n) h = ap (λ m. ops line (drop m (t ∷ a ∷ b ∷ c ∷ d ∷ ws))) (five n) ∙ ops_drop line ws n (omega arith)

pub nth_none : (line code : List ℕ) (i : ℕ) → length code < 5 * i + 5 → slice_get (ops line code) i ≡ None
nth_none line [] i h = refl
nth_none line (t ∷ []) i h = refl
nth_none line (t ∷ a ∷ []) i h = refl
nth_none line (t ∷ a ∷ b ∷ []) i h = refl
nth_none line (t ∷ a ∷ b ∷ c ∷ []) i h = refl
nth_none line (t ∷ a ∷ b ∷ c ∷ d ∷ ws) zero h = absurd (omega arith)
nth_none line (t ∷ a ∷ b ∷ c ∷ d ∷ ws) (suc i) h = nth_none line ws i (omega arith)

pub first_is : (os : List Flat) (o : Flat) → slice_get os 0 ≡ Some o → os ≡ o ∷ drop 1 os
first_is [] o e = let z : ◌≡◌ {A = ℕ} 0 1 = cc in absurd (omega arith)
first_is (p ∷ os) o e = cc

-- five words an operation
pub ops_length : (line code : List ℕ) → length (ops line code) ≡ length code / 5
ops_length line [] = refl
ops_length line (t ∷ []) = refl
ops_length line (t ∷ a ∷ []) = refl
ops_length line (t ∷ a ∷ b ∷ []) = refl
ops_length line (t ∷ a ∷ b ∷ c ∷ []) = refl
ops_length line (t ∷ a ∷ b ∷ c ∷ d ∷ ws) = omega (arith, ops_length line ws)

-- how many slots lead, by the numbers of operations
shifts : (p q : ℕ → Bool) (a b n : ℕ) → ((k : ℕ) → p (a + k) ≡ q (b + k)) → prefix_len p (range_with_len a n) ≡ prefix_len q (range_with_len b n)
shifts p q a b zero h = refl
shifts p q a b (suc n) h =
    let on : (k : ℕ) → p (a + 1 + k) ≡ q (b + 1 + k) = λ k. let x : a + 1 + k ≡ a + (1 + k) = omega arith in let y : b + (1 + k) ≡ b + 1 + k = omega arith in ap p x ∙ h (1 + k) ∙ ap q y in
    let here : p a ≡ q b = let x : a ≡ a + 0 = omega arith in let y : b + 0 ≡ b = omega arith in ap p x ∙ h 0 ∙ ap q y in
    λ i. cond (here i) (1 + shifts p q (a + 1) (b + 1) n on i) 0

pub lead_is : (os : List Flat) → lead os ≡ prefix_len (λ i. slot_in (slice_get os i)) (range_with_len 0 (length os))
lead_is [] = refl
lead_is (o ∷ os) =
    let rest : prefix_len (λ i. slot_in (slice_get (o ∷ os) i)) (range_with_len (0 + 1) (length os)) ≡ prefix_len (λ i. slot_in (slice_get os i)) (range_with_len 0 (length os)) = shifts (λ i. slot_in (slice_get (o ∷ os) i)) (λ i. slot_in (slice_get os i)) (0 + 1) 0 (length os) (λ k. let x : 0 + 1 + k ≡ suc k = omega arith in let y : k ≡ 0 + k = omega arith in ap (λ m. slot_in (slice_get (o ∷ os) m)) x ∙ ap (λ m. slot_in (slice_get os m)) y) in
    go (is_slot o) (lead os) _ (lead_is os ∙ sym rest)
  where
    go : (b : Bool) (m n : ℕ) → m ≡ n → pick b (suc m) 0 ≡ cond b (1 + n) 0
    go true m n e = omega arith
    go false m n e = refl

lead_slots : (fs : List Field) (os : List Flat) → lead os ≡ 0 → lead (slots_onto fs os) ≡ length fs
lead_slots [] os h = h
lead_slots (f ∷ fs) os h = ap suc (lead_slots fs os h)

nth_slots : (fs : List Field) (os : List Flat) → slice_get (slots_onto fs os) (length fs) ≡ slice_get os 0
nth_slots [] os = refl
nth_slots (f ∷ fs) os = nth_slots fs os

take_slots : (fs : List Field) (os : List Flat) → take (length fs) (slots_onto fs os) ≡ slots_onto fs []
take_slots [] os = refl
take_slots (f ∷ fs) os = ap (λ l. o_slot f ∷ l) (take_slots fs os)

drop_slots : (fs : List Field) (o : Flat) (os : List Flat) → drop (suc (length fs)) (slots_onto fs (o ∷ os)) ≡ os
drop_slots [] o os = refl
drop_slots (f ∷ fs) o os = drop_slots fs o os

-- a record has no result behind its slots, a def has
pub rec_view : (t : Tok) (os : List Flat) (n : ℕ) → lead os ≡ n → ((u : Tok) → slice_get os n ≡ Some (o_result u) → ⊥) → (i : Meant) → o_new t ∷ os ≡ item_code i → (fs : List Field) × (i ≡ i_rec t fs) × (os ≡ slots_onto fs [])
rec_view t os n l h nothing e = let z : ◌≡◌ {A = ℕ} 0 1 = cc in absurd (omega arith)
rec_view t os n l h (i_use u) e = let z : ◌≡◌ {A = ℕ} 0 1 = cc in absurd (omega arith)
rec_view t os n l h (i_kind u cs) e = let z : ◌≡◌ {A = ℕ} 0 1 = cc in absurd (omega arith)
rec_view t os n l h (i_rec u fs) e = (fs, cc, cc)
rec_view t os n l h (i_def u ps r x) e =
    let rest = o_result r ∷ onto x (o_body ∷ []) in
    let s : os ≡ slots_onto ps rest = cc in
    let k : n ≡ length ps = sym l ∙ ap lead s ∙ lead_slots ps rest refl in
    absurd (h r (ap (λ m. slice_get os m) k ∙ ap (λ l. slice_get l (length ps)) s ∙ nth_slots ps rest))
rec_view t os n l h (i_bad a b) e = let z : ◌≡◌ {A = ℕ} 0 1 = cc in absurd (omega arith)

pub def_view : (t u : Tok) (os : List Flat) (n : ℕ) → lead os ≡ n → slice_get os n ≡ Some (o_result u) → (i : Meant) → o_new t ∷ os ≡ item_code i → (ps : List Field) × (x : E) × (i ≡ i_def t ps u x) × (take n os ≡ slots_onto ps []) × (drop (suc n) os ≡ onto x (o_body ∷ []))
def_view t u os n l h nothing e = let z : ◌≡◌ {A = ℕ} 0 1 = cc in absurd (omega arith)
def_view t u os n l h (i_use v) e = let z : ◌≡◌ {A = ℕ} 0 1 = cc in absurd (omega arith)
def_view t u os n l h (i_kind v cs) e = let z : ◌≡◌ {A = ℕ} 0 1 = cc in absurd (omega arith)
def_view t u os n l h (i_rec v fs) e =
    let s : os ≡ slots_onto fs [] = cc in
    let k : n ≡ length fs = sym l ∙ ap lead s ∙ lead_slots fs [] refl in
    let none : slice_get os n ≡ None = ap (λ m. slice_get os m) k ∙ ap (λ l. slice_get l (length fs)) s ∙ nth_slots fs [] in
    let z : ◌≡◌ {A = ℕ} 0 1 = cc in absurd (omega arith)
def_view t u os n l h (i_def v ps r x) e =
    let rest = onto x (o_body ∷ []) in
    let s : os ≡ slots_onto ps (o_result r ∷ rest) = cc in
    let k : n ≡ length ps = sym l ∙ ap lead s ∙ lead_slots ps (o_result r ∷ rest) refl in
    let same : slice_get os n ≡ Some (o_result r) = ap (λ m. slice_get os m) k ∙ ap (λ l. slice_get l (length ps)) s ∙ nth_slots ps (o_result r ∷ rest) in
    let ru : r ≡ u = cc in
    let vt : v ≡ t = cc in
    (ps, x, cc, ap (λ m. take m os) k ∙ ap (take (length ps)) s ∙ take_slots ps (o_result r ∷ rest), ap (λ m. drop (suc m) os) k ∙ ap (drop (suc (length ps))) s ∙ drop_slots ps (o_result r) rest)
def_view t u os n l h (i_bad a b) e = let z : ◌≡◌ {A = ℕ} 0 1 = cc in absurd (omega arith)
