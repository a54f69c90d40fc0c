-- Parts of one row: what stands in one (part_at), and what stays (part_same), also where a part was lent (put_below, put_above, put_in).
use Rattle.std.proofs.Common.{◌≡◌, ℕ, zero, suc, ◌+◌, ◌-◌, ◌<◌, ◌≤◌, List, [], ◌∷◌, ◌++◌, length, get_or, take, drop, set, sym, refl, ap, ◌∙◌, append_assoc, arith, length-append, length-drop}
use borrow.Rule.Slice.PartMut.{put_mid, post_of}
use Rattle.std.specs.List.{between}
use Rattle.std.proofs.lemmas.List.{drop-drop, drop-take, take-append-drop, take-take, drop-set-add, take_more_set, get_or-take, get_or-drop, ext_get_or, length-take-le}
use Rattle.std.proofs.lemmas.Slice.{take-put_mid_below, drop-put_mid, between-put_mid}
use Rattle.interner.specs.Index.{Same}

pub part_at : (a b : ℕ) (m : List ℕ) (i : ℕ) → a + i < b → get_or (between a b m) i 0 ≡ get_or m (a + i) 0
part_at a b m i h = get_or-take (b - a) (drop a m) i 0 (omega arith) ∙ get_or-drop a m i 0

pub part_long : (a b : ℕ) (m : List ℕ) → b ≤ length m → length (between a b m) ≡ b - a
part_long a b m h = length-take-le (b - a) (drop a m) (omega (arith, length-drop a m))

-- two parts, maybe of two rows, are the same
pub parts_same : (a b c d : ℕ) (m m' : List ℕ) → b ≤ length m → d ≤ length m' → b - a ≡ d - c → ((i : ℕ) → i < b - a → get_or m' (c + i) 0 ≡ get_or m (a + i) 0) → between c d m' ≡ between a b m
parts_same a b c d m m' h k e f = ext_get_or 0 (between c d m') (between a b m) (part_long c d m' k ∙ sym e ∙ sym (part_long a b m h)) (λ i l. let g : i < d - c = omega (arith, part_long c d m' k) in part_at c d m' i (omega arith) ∙ f i (omega arith) ∙ sym (part_at a b m i (omega arith)))

pub part_same : (a b : ℕ) (m m' : List ℕ) → length m' ≡ length m → b ≤ length m → Same a b m m' → between a b m' ≡ between a b m
part_same a b m m' l h f = parts_same a b a b m m' h (omega arith) refl (λ i g. f (a + i) (omega arith) (omega arith))

-- all from a place on
pub rest_same : (a : ℕ) (m m' : List ℕ) → length m' ≡ length m → Same a (length m) m m' → drop a m' ≡ drop a m
rest_same a m m' l f = ext_get_or 0 (drop a m') (drop a m) (length-drop a m' ∙ ap (λ n. n - a) l ∙ sym (length-drop a m)) (λ i h. get_or-drop a m' i 0 ∙ f (a + i) (omega arith) (omega (arith, length-drop a m')) ∙ sym (get_or-drop a m i 0))

pub same_on : (a b : ℕ) (m₀ m m' : List ℕ) → Same a b m₀ m → Same a b m m' → Same a b m₀ m'
same_on a b m₀ m m' f g i h k = g i h k ∙ f i h k

-- a part in two, and with one word more
take_split : (k n : ℕ) (xs : List ℕ) → take (k + n) xs ≡ take k xs ++ take n (drop k xs)
take_split zero n xs = let e : zero + n ≡ n = omega arith in ap (λ i. take i xs) e
take_split (suc k) n [] = let e : suc k + n ≡ suc (k + n) = omega arith in ap (λ i. take i []) e ∙ sym (nil n)
  where
    nil : (n : ℕ) → take {A = ℕ} n [] ≡ []
    nil zero = refl
    nil (suc n) = refl
take_split (suc k) n (x ∷ xs) = let e : suc k + n ≡ suc (k + n) = omega arith in ap (λ i. take i (x ∷ xs)) e ∙ ap (λ r. x ∷ r) (take_split k n xs)

pub part_split : (a b c : ℕ) (m : List ℕ) → a ≤ b → b ≤ c → between a c m ≡ between a b m ++ between b c m
part_split a b c m h k = let e : c - a ≡ (b - a) + (c - b) = omega arith in let d : a + (b - a) ≡ b = omega arith in ap (λ n. take n (drop a m)) e ∙ take_split (b - a) (c - b) (drop a m) ∙ ap (λ r. between a b m ++ take (c - b) r) (drop-drop (b - a) a m ∙ ap (λ i. drop i m) d)

pub part_push : (a b : ℕ) (m : List ℕ) (x : ℕ) → a ≤ b → b < length m → between a (b + 1) (set m b x) ≡ between a b m ++ (x ∷ [])
part_push a b m x h k = let d : (b + 1) - a ≡ (b - a) + 1 = omega arith in let f : b ≡ a + (b - a) = omega arith in let l = length-drop a m in ap (λ n. take n (drop a (set m b x))) d ∙ ap (λ i. take ((b - a) + 1) (drop a (set m i x))) f ∙ ap (take ((b - a) + 1)) (drop-set-add a m (b - a) x) ∙ take_more_set (drop a m) (b - a) x (omega arith)

-- a part of k words from a on was lent, and holds ys now
module _ (a k : ℕ) (xs ys : List ℕ) (e : length ys ≡ k) (r : a + k ≤ length xs) where
  pub put_below : Same 0 a xs (put_mid a k xs ys)
  put_below i g h = sym (get_or-take a (put_mid a k xs ys) i 0 h) ∙ ap (λ x. get_or x i 0) (take-put_mid_below a k xs ys a (omega arith) (omega arith)) ∙ get_or-take a xs i 0 h

  pub put_above : Same (a + k) (length xs) xs (put_mid a k xs ys)
  put_above i h g = let d : a + k + (i - (a + k)) ≡ i = omega arith in ap (λ j. get_or (put_mid a k xs ys) j 0) (sym d) ∙ sym (get_or-drop (a + k) (put_mid a k xs ys) (i - (a + k)) 0) ∙ ap (λ x. get_or x (i - (a + k)) 0) (drop-put_mid a k xs ys (a + k) (omega arith) (omega arith) e) ∙ get_or-drop (a + k) xs (i - (a + k)) 0 ∙ ap (λ j. get_or xs j 0) d

  pub put_in : (b : ℕ) → b - a ≡ k → between a b (put_mid a k xs ys) ≡ ys
  put_in b d = between-put_mid a k xs ys b (omega arith) (omega arith)

  pub put_long : length (put_mid a k xs ys) ≡ length xs
  put_long = omega (arith, length-append (take a xs) (ys ++ post_of a k xs), length-append ys (post_of a k xs), length-take-le a xs (omega arith), length-drop k (drop a xs), length-drop a xs)

-- a part lent of the words before a place c, those behind it being read beside it, is a part lent of all
pub put_joined : (a k c : ℕ) (m low high ys : List ℕ) → low ≡ take c m → high ≡ drop c m → a + k ≤ c → c ≤ length m → put_mid a k low ys ++ high ≡ put_mid a k m ys
put_joined a k c m low high ys fl fh h l =
    let j : ℕ = c - (a + k) in
    let ej : c ≡ a + (k + j) = omega arith in
    let ej₂ : c ≡ a + k + j = omega arith in
    let front : take a low ≡ take a m = ap (take a) fl ∙ take-take a c m (omega arith) in
    let rest : post_of a k low ≡ take j (drop k (drop a m)) = ap (post_of a k) (fl ∙ ap (λ n. take n m) ej) ∙ ap (drop k) (drop-take a (k + j) m) ∙ drop-take k j (drop a m) in
    let back : high ≡ drop j (drop k (drop a m)) = fh ∙ ap (λ n. drop n m) ej₂ ∙ sym (drop-drop j (a + k) m) ∙ ap (drop j) (sym (drop-drop k a m)) in
    append_assoc (take a low) (ys ++ post_of a k low) high ∙ ap (λ z. z ++ ((ys ++ post_of a k low) ++ high)) front ∙ ap (λ z. take a m ++ z) (append_assoc ys (post_of a k low) high ∙ ap (λ z. ys ++ z) (ap (λ z. z ++ high) rest ∙ ap (λ z. take j (drop k (drop a m)) ++ z) back ∙ take-append-drop j (drop k (drop a m))))

pub part_low : (a b c : ℕ) (m low : List ℕ) → low ≡ take c m → b ≤ c → c ≤ length m → between a b low ≡ between a b m
part_low a b c m low f h l = let e = length-take-le c m l in ap (between a b) f ∙ parts_same a b a b m (take c m) (omega arith) (omega arith) refl (λ i g. get_or-take c m (a + i) 0 (omega arith))

pub part_high : (c n : ℕ) (m high : List ℕ) → high ≡ drop c m → take n high ≡ between c (c + n) m
part_high c n m high f = let e : n ≡ (c + n) - c = omega arith in ap (take n) f ∙ ap (λ i. take i (drop c m)) e
