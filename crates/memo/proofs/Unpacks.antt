-- A record's words are what its parts pack to, wherever it is moved: for copying records out and in again.
use Rattle.std.proofs.Common.{◌≡◌, ℕ, zero, suc, ◌+◌, ◌-◌, ◌*◌, ◌≤◌, List, [], ◌∷◌, ◌++◌, length, get_or, take, drop, sym, refl, ap, ◌∙◌, subst, arith, length-append, length-drop, take-append-drop, take-add}
use Rattle.std.proofs.lemmas.List.{drop-drop, get_or-take, length-take-le, drop-take}
use Rattle.memo.specs.Record.{key_of, gots_of, row_long, size, row_in, entry_of, older, records, packed, made, entry_long, entries_long}
use Rattle.memo.specs.Says.{Plain}
use Rattle.memo.proofs.Packs.{row_is, size_is, older_is, entry_is, entry_sum, row_more}

pub seven : (l : List ℕ) → 7 ≤ length l → take 7 l ≡ get_or l 0 0 ∷ get_or l 1 0 ∷ get_or l 2 0 ∷ get_or l 3 0 ∷ get_or l 4 0 ∷ get_or l 5 0 ∷ get_or l 6 0 ∷ []
seven [] h = absurd (omega arith)
seven (a ∷ []) h = absurd (omega arith)
seven (a ∷ b ∷ []) h = absurd (omega arith)
seven (a ∷ b ∷ c ∷ []) h = absurd (omega arith)
seven (a ∷ b ∷ c ∷ d ∷ []) h = absurd (omega arith)
seven (a ∷ b ∷ c ∷ d ∷ e ∷ []) h = absurd (omega arith)
seven (a ∷ b ∷ c ∷ d ∷ e ∷ f ∷ []) h = absurd (omega arith)
seven (a ∷ b ∷ c ∷ d ∷ e ∷ f ∷ g ∷ xs) h = refl

row_less : (c : ℕ) (row : List ℕ) (r : ℕ) → row_long c row ≤ r → r ≤ length row → row_long c (take r row) ≡ row_long c row
row_less zero row r h g = refl
row_less (suc c) row r h g =
    let p : get_or (take r row) 0 0 ≡ get_or row 0 0 = get_or-take r row 0 0 (omega arith) in
    let n = 1 + get_or row 0 0 in
    let z : r ≡ n + (r - n) = omega arith in
    let e : drop n (take r row) ≡ take (r - n) (drop n row) = ap (λ m. drop n (take m row)) z ∙ drop-take n (r - n) row in
    let l = length-drop n row in
    ap (λ m. (1 + m) + row_long c (drop (1 + m) (take r row))) p ∙ ap (λ q. n + row_long c q) e ∙ ap (λ q. n + q) (row_less c (drop n row) (r - n) (omega arith) (omega arith))

module _ (l : List ℕ) (inside : size l ≤ length l) (row1 : row_long (get_or l 5 0) (row_in l) ≡ get_or l 6 0) where
  abbrev a : ℕ
  a = get_or l 4 0

  abbrev c : ℕ
  c = get_or l 5 0

  abbrev ans1 : List ℕ
  ans1 = take a (drop 7 l)

  abbrev keys1 : List ℕ
  keys1 = take (3 * c) (drop (7 + a) l)

  abbrev row2 : List ℕ
  row2 = take (get_or l 6 0) (drop (7 + (a + 3 * c)) l)

  pub ans_long : length ans1 ≡ a
  ans_long = let x = length-drop 7 l in length-take-le a (drop 7 l) (omega arith)

  pub keys_long : length keys1 ≡ 3 * c
  keys_long = let x = length-drop (7 + a) l in length-take-le (3 * c) (drop (7 + a) l) (omega arith)

  pub row_long1 : length row2 ≡ get_or l 6 0
  row_long1 = let x = length-drop (7 + (a + 3 * c)) l in length-take-le (get_or l 6 0) (drop (7 + (a + 3 * c)) l) (omega arith)

  pub row_whole : row_long c row2 ≡ length row2
  row_whole = let x = length-drop (7 + (a + 3 * c)) l in row_less c (row_in l) (get_or l 6 0) (omega arith) (omega arith) ∙ row1 ∙ sym row_long1

  pub front : take (size l) l ≡ packed (key_of l) (get_or l 3 0) ans1 c keys1 row2
  front =
      let s = seven l (omega arith) in
      let x = sym ans_long in
      let y = sym row_long1 in
      let z : 7 + a + 3 * c ≡ 7 + (a + 3 * c) = omega arith in
      take-add 7 (a + (3 * c + get_or l 6 0)) l ∙
      ap (λ q. take 7 l ++ q) (take-add a (3 * c + get_or l 6 0) (drop 7 l) ∙ ap (λ q. ans1 ++ take (3 * c + get_or l 6 0) q) (drop-drop a 7 l) ∙
      ap (λ q. ans1 ++ q) (take-add (3 * c) (get_or l 6 0) (drop (7 + a) l) ∙ ap (λ q. keys1 ++ take (get_or l 6 0) q) (drop-drop (3 * c) (7 + a) l ∙ ap (λ n. drop n l) z))) ∙
      ap (λ q. q ++ (ans1 ++ (keys1 ++ row2))) s ∙
      (λ t. get_or l 0 0 ∷ get_or l 1 0 ∷ get_or l 2 0 ∷ get_or l 3 0 ∷ x t ∷ c ∷ y t ∷ (ans1 ++ (keys1 ++ row2)))

  pub unpacked : entry_of l ≡ made (key_of l) ans1 (gots_of c keys1 row2)
  unpacked = ap entry_of (sym (take-append-drop (size l) l) ∙ ap (λ q. q ++ older l) front) ∙ entry_is (key_of l) (get_or l 3 0) ans1 c keys1 row2 (older l) keys_long row_whole

  pub long_is : entry_long (entry_of l) ≡ size l
  long_is = let x = ans_long in let y = keys_long in let z = row_long1 in ap entry_long unpacked ∙ entry_sum (key_of l) (get_or l 3 0) ans1 c keys1 row2 (older l) keys_long row_whole ∙ (let q : 7 + (length ans1 + (length keys1 + length row2)) ≡ size l = omega arith in q)

  -- the same words before others
  module _ (rest : List ℕ) where
    abbrev p : List ℕ
    p = take (size l) l ++ rest

    p_is : p ≡ packed (key_of l) (get_or l 3 0) ans1 c keys1 row2 ++ rest
    p_is = ap (λ q. q ++ rest) front

    pub moved_entry : entry_of p ≡ entry_of l
    moved_entry = ap entry_of p_is ∙ entry_is (key_of l) (get_or l 3 0) ans1 c keys1 row2 rest keys_long row_whole ∙ sym unpacked

    pub moved_older : older p ≡ rest
    moved_older = ap older p_is ∙ older_is (key_of l) (get_or l 3 0) ans1 c keys1 row2 rest keys_long row_whole

    pub moved_plain : (j : ℕ) → Plain j rest → Plain (suc j) p
    moved_plain j h =
        let k = key_of l in
        let v = get_or l 3 0 in
        let q = packed k v ans1 c keys1 row2 in
        let la = length-append q rest in
        let lb = size_is k v ans1 c keys1 row2 rest keys_long row_whole in
        subst (Plain (suc j)) (sym p_is)
        (omega arith, ap (row_long c) (row_is k v ans1 c keys1 row2 rest keys_long row_whole) ∙ row_more c row2 rest (let e = row_whole in omega arith) ∙ row_whole, subst (Plain j) (sym (older_is k v ans1 c keys1 row2 rest keys_long row_whole)) h)

pub plain_long : (n : ℕ) (l : List ℕ) → Plain n l → entries_long (records n l) ≡ length l
plain_long zero l h = sym h
plain_long (suc n) l h = let a = long_is l h.0 h.1 in let b = plain_long n (older l) h.2 in let i = h.0 in let d = length-drop (size l) l in omega arith

pub plain_few : (n : ℕ) (l : List ℕ) → Plain n l → n ≤ length l
plain_few zero l h = omega arith
plain_few (suc n) l h = let b = plain_few n (older l) h.2 in let i = h.0 in let d = length-drop (size l) l in omega arith
