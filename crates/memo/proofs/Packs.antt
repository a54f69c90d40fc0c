-- A record, read where it was put: its size, its entry, and that it is in order.
use Rattle.std.proofs.Common.{◌≡◌, ℕ, zero, suc, ◌+◌, ◌*◌, ◌≤◌, List, ◌∷◌, ◌++◌, length, get_or, take, drop, sym, refl, ap, ◌∙◌, append_assoc, arith, length-append, length-drop}
use Rattle.std.proofs.lemmas.List.{drop-drop, take_at, drop_at, take-append-le, drop-append-le, length-take-le, get_or_append_left}
use Rattle.engine.specs.declared.key.Key.{Key}
use Rattle.memo.specs.Record.{key_of, gots_of, row_long, size, keys_in, row_in, entry_of, older, packed, made, gots_long, entry_long}
use Rattle.memo.specs.Log.{heads, bucket, One}

key_more : (ks x : List ℕ) → 3 ≤ length ks → key_of (ks ++ x) ≡ key_of ks
key_more ks x h =
    let p = get_or_append_left ks x 0 0 (omega arith) in
    let q = get_or_append_left ks x 0 1 (omega arith) in
    let r = get_or_append_left ks x 0 2 (omega arith) in
    λ i. record { kind = p i; a = q i; b = r i }

pub row_more : (c : ℕ) (row y : List ℕ) → row_long c row ≤ length row → row_long c (row ++ y) ≡ row_long c row
row_more zero row y h = refl
row_more (suc c) row y h =
    let p : get_or (row ++ y) 0 0 ≡ get_or row 0 0 = get_or_append_left row y 0 0 (omega arith) in
    let n = 1 + get_or row 0 0 in
    let l = length-drop n row in
    let e : drop n (row ++ y) ≡ drop n row ++ y = drop-append-le n row y (omega arith) in
    ap (λ m. (1 + m) + row_long c (drop (1 + m) (row ++ y))) p ∙ ap (λ q. n + row_long c q) e ∙ ap (λ q. n + q) (row_more c (drop n row) y (omega arith))

pub gots_more : (c : ℕ) (ks x row y : List ℕ) → 3 * c ≤ length ks → row_long c row ≤ length row → gots_of c (ks ++ x) (row ++ y) ≡ gots_of c ks row
gots_more zero ks x row y g h = refl
gots_more (suc c) ks x row y g h =
    let p : get_or (row ++ y) 0 0 ≡ get_or row 0 0 = get_or_append_left row y 0 0 (omega arith) in
    let m = get_or row 0 0 in
    let n = 1 + m in
    let l = length-drop n row in
    let l1 = length-drop 1 row in
    let l3 = length-drop 3 ks in
    let e : drop n (row ++ y) ≡ drop n row ++ y = drop-append-le n row y (omega arith) in
    let e1 : take m (drop 1 (row ++ y)) ≡ take m (drop 1 row) = ap (take m) (drop-append-le 1 row y (omega arith)) ∙ take-append-le m (drop 1 row) y (omega arith) in
    let e3 : drop 3 (ks ++ x) ≡ drop 3 ks ++ x = drop-append-le 3 ks x (omega arith) in
    let k = key_more ks x (omega arith) in
    let rest = gots_more c (drop 3 ks) x (drop n row) y (omega arith) (omega arith) in
    ap (λ j. record { key = key_of (ks ++ x); ans = take j (drop 1 (row ++ y)) } ∷ gots_of c (drop 3 (ks ++ x)) (drop (1 + j) (row ++ y))) p ∙
    (λ i. record { key = k i; ans = e1 i } ∷ gots_of c (e3 i) (e i)) ∙
    ap (λ q. record { key = key_of ks; ans = take m (drop 1 row) } ∷ q) rest

pub gots_sum : (c : ℕ) (ks row : List ℕ) → row_long c row ≤ length row → gots_long (gots_of c ks row) ≡ 3 * c + row_long c row
gots_sum zero ks row h = refl
gots_sum (suc c) ks row h =
    let n = 1 + get_or row 0 0 in
    let l = length-drop n row in
    let l1 = length-drop 1 row in
    let t = length-take-le (get_or row 0 0) (drop 1 row) (omega arith) in
    let r = gots_sum c (drop 3 ks) (drop n row) (omega arith) in
    omega arith

module _ (k : Key) (prev : ℕ) (ans : List ℕ) (c : ℕ) (keys row rest : List ℕ) (kl : length keys ≡ 3 * c) (rl : row_long c row ≡ length row) where
  abbrev l : List ℕ
  l = packed k prev ans c keys row ++ rest

  lengths : length (ans ++ (keys ++ row)) ≡ length ans + (length keys + length row)
  lengths = let a = length-append ans (keys ++ row) in let b = length-append keys row in omega arith

  pub packed_long : length (packed k prev ans c keys row) ≡ 7 + (length ans + (length keys + length row))
  packed_long = let a = lengths in omega arith

  pub size_is : size l ≡ length (packed k prev ans c keys row)
  size_is = let a = packed_long in omega arith

  pub older_is : older l ≡ rest
  older_is = drop_at (packed k prev ans c keys row) rest (size l) (sym size_is)

  body : (ans ++ (keys ++ row)) ++ rest ≡ ans ++ (keys ++ (row ++ rest))
  body = append_assoc ans (keys ++ row) rest ∙ ap (λ q. ans ++ q) (append_assoc keys row rest)

  keys_is : keys_in l ≡ keys ++ (row ++ rest)
  keys_is = sym (drop-drop (length ans) 7 l) ∙ ap (drop (length ans)) body ∙ drop_at ans (keys ++ (row ++ rest)) (length ans) refl

  pub row_is : row_in l ≡ row ++ rest
  row_is =
      let z : 7 + (length ans + 3 * c) ≡ (7 + length ans) + 3 * c = omega arith in
      ap (λ n. drop n l) z ∙ sym (drop-drop (3 * c) (7 + length ans) l) ∙ ap (drop (3 * c)) keys_is ∙ drop_at keys (row ++ rest) (3 * c) kl

  pub entry_is : entry_of l ≡ made k ans (gots_of c keys row)
  unfolding entry_of
  entry_is =
      let a : take (length ans) (drop 7 l) ≡ ans = ap (take (length ans)) body ∙ take_at ans (keys ++ (row ++ rest)) (length ans) refl in
      let p = keys_is in
      let q = row_is in
      let g = gots_more c keys (row ++ rest) row rest (omega arith) (omega arith) in
      (λ i. made k (a i) (gots_of c (p i) (q i))) ∙ ap (made k ans) g

  pub one_is : (b n : ℕ) → prev ≡ get_or (heads b n rest) (bucket k b) 0 → One b n l
  one_is b n p =
      record {
        inside = let a = size_is in let e = length-append (packed k prev ans c keys row) rest in omega arith;
        row1 = ap (row_long c) row_is ∙ row_more c row rest (omega arith) ∙ rl;
        prev = p ∙ ap (λ q. get_or (heads b n q) (bucket k b) 0) (sym older_is);
      }

  pub entry_sum : entry_long (made k ans (gots_of c keys row)) ≡ 7 + (length ans + (length keys + length row))
  entry_sum = let g = gots_sum c keys row (omega arith) in omega arith
