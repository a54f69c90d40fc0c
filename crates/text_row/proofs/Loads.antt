-- What a file weighs, by the words of its record (file-weight); what texts weigh, one file after the other (Weighing), and with another file
-- among them (room_is).
use Rattle.std.proofs.Common.{◌≡◌, ℕ, zero, suc, ◌+◌, ◌-◌, ◌*◌, ◌<◌, ◌≤◌, max, min, List, [], ◌∷◌, ◌++◌, length, get_or, take, drop, sym, ap, ◌∙◌, arith}
use Rattle.std.specs.List.{between}
use Rattle.std.proofs.lemmas.List.{drop_more, get_or-map, length-map}
use Rattle.std.proofs.lemmas.Slice.{between_to_end}
use Rattle.semantics.specs.Names.{File, Texts}
use Rattle.semantics.specs.Answers.{weigh_texts}
use Rattle.interner.specs.Index.{place, bytes_at, bytes, Sound, Live}
use Rattle.text_row.specs.Files.{file_at, texts, FileOk, Fits}
use Rattle.interner.specs.Places.{entries}
use Rattle.text_row.specs.Weights.{largest, WeighSays, RoomSays}
use Rattle.text_row.proofs.Tables.{file_ok}
use Rattle.interner.proofs.Places.{entry_is, entries_long}
use Rattle.interner.proofs.Parts.{part_at, part_long}

pub bytes_long : (m : List ℕ) (p : ℕ) → p + 1 + get_or m p 0 ≤ length m → length (bytes_at m p) ≡ get_or m p 0
bytes_long m p h = let e : get_or m p 0 ≡ (p + 1 + get_or m p 0) - (p + 1) = omega arith in ap (λ n. length (take n (drop (p + 1) m))) e ∙ part_long (p + 1) (p + 1 + get_or m p 0) m h ∙ sym e

pub live_long : (nb cap : ℕ) (m : List ℕ) (n : ℕ) → Sound nb cap m → Live nb m n → length (bytes nb m n) ≡ get_or m (place nb m n) 0
live_long nb cap m n s l = bytes_long m (place nb m n) (omega (arith, (s.places n l.0 l.1).1, s.pool_to))

pub weigh_append : (p q : Texts) → weigh_texts (p ++ q) ≡ weigh_texts p + weigh_texts q
weigh_append [] q = omega arith
weigh_append (x ∷ xs) q = let h = weigh_append xs q in omega arith

pub weigh_take : (n : ℕ) (p : Texts) → weigh_texts (take n p) ≤ weigh_texts p
weigh_take zero p = omega arith
weigh_take (suc n) [] = omega arith
weigh_take (suc n) (x ∷ xs) = let h = weigh_take n xs in omega arith

pub weigh_drop : (n : ℕ) (p : Texts) → weigh_texts (drop n p) ≤ weigh_texts p
weigh_drop zero p = omega arith
weigh_drop (suc n) [] = omega arith
weigh_drop (suc n) (x ∷ xs) = let h = weigh_drop n xs in omega arith

pub weigh_between : (a b : ℕ) (p : Texts) → weigh_texts (between a b p) ≤ weigh_texts p
weigh_between a b p = let h = weigh_take (b - a) (drop a p) in let k = weigh_drop a p in omega arith

pub many_weigh : (p : Texts) → 16 * length p ≤ weigh_texts p
many_weigh [] = omega arith
many_weigh (x ∷ xs) = let h = many_weigh xs in omega arith

pub largest_append : (p q : Texts) → largest (p ++ q) ≡ max (largest p) (largest q)
largest_append [] q = omega arith
largest_append (x ∷ xs) q = let h = largest_append xs q in omega arith

pub largest_most : (p : Texts) → largest p ≤ weigh_texts p
largest_most [] = omega arith
largest_most (x ∷ xs) = let h = largest_most xs in omega arith

-- a file of the table
module _ (nb cap : ℕ) (t m : List ℕ) (q : Fits nb cap t m) where
  pub texts_long : length (texts nb t m) ≡ get_or t 0 0
  texts_long = length-map (entries t) (file_at nb m) ∙ entries_long t q.in_table

  module _ (k : ℕ) (h : k < get_or t 0 0) where
    abbrev x : File
    x = file_at nb m (get_or t (1 + k) 0)

    ok : FileOk nb cap m (get_or t (1 + k) 0)
    ok = file_ok nb cap t m q k h

    pub text_at : get_or (texts nb t m) k x ≡ x
    text_at = get_or-map (file_at nb m) (entries t) k 0 x (omega (arith, entries_long t q.in_table)) ∙ ap (file_at nb m) (entry_is t k h)

    pub name_long : length x.name ≡ get_or m (place nb m (get_or m (get_or t (1 + k) 0) 0)) 0
    name_long = live_long nb cap m (get_or m (get_or t (1 + k) 0) 0) q.sound ok.name

    pub name_in : place nb m (get_or m (get_or t (1 + k) 0) 0) < length m
    name_in = omega (arith, (q.sound.places (get_or m (get_or t (1 + k) 0) 0) ok.name.0 ok.name.1).1, q.sound.pool_to)

    pub row_in : 2 + nb + 2 * get_or m (get_or t (1 + k) 0) 0 + 1 < length m
    row_in = omega (arith, ok.name.0, q.sound.counted, q.sound.pool_from, q.sound.pool_to)

    pub record_whole : get_or t (1 + k) 0 + 3 ≤ length m
    record_whole = omega (arith, ok.to_end, q.sound.pool_to)

    pub text_long : length x.text ≡ get_or m (get_or t (1 + k) 0 + 1) 0
    text_long = sym ok.body.size_is

    pub rest_is : (b : ℕ) → k < b → between k b (texts nb t m) ≡ x ∷ between (k + 1) b (texts nb t m)
    rest_is b g = let e : b - k ≡ suc (b - (k + 1)) = omega arith in ap (λ n. take n (drop k (texts nb t m))) e ∙ ap (take (suc (b - (k + 1)))) (drop_more (texts nb t m) k x (omega (arith, texts_long))) ∙ ap (λ y. y ∷ between (k + 1) b (texts nb t m)) text_at

-- the first files up to k are counted
pub record Weighing (p : Texts) (a b total longest k : ℕ) : Type 0 where
  pub total_is : total + weigh_texts (between k b p) ≡ weigh_texts (between a b p)
  pub largest_is : max (largest (between k b p)) longest ≡ largest (between a b p)

pub weigh_ends : (p : Texts) (a b total longest k : ℕ) → b ≤ k → Weighing p a b total longest k → WeighSays p a b total longest
weigh_ends p a b total longest k h w = let z : b - k ≡ 0 = omega arith in let e : between k b p ≡ [] = ap (λ n. take n (drop k p)) z in let x = w.total_is in let y = w.largest_is in let u = ap weigh_texts e in let v = ap largest e in let r = weigh_between a b p in let o = largest_most (between a b p) in record { total_is = omega arith; largest_is = omega arith; light = omega arith; short = omega arith }

module _ (nb cap : ℕ) (t m : List ℕ) (q : Fits nb cap t m) (a b total longest k : ℕ) (h : k < get_or t 0 0) (g : k < b) (w : Weighing (texts nb t m) a b total longest k) where
  abbrev size : ℕ
  size = get_or m (get_or t (1 + k) 0 + 1) 0

  abbrev long : ℕ
  long = get_or m (place nb m (get_or m (get_or t (1 + k) 0) 0)) 0

  pub weigh_most : total + (16 + (long + size)) ≤ weigh_texts (texts nb t m)
  weigh_most = let e = ap weigh_texts (rest_is nb cap t m q k h b g) in let x = name_long nb cap t m q k h in let y = text_long nb cap t m q k h in let z = weigh_between a b (texts nb t m) in let u = w.total_is in omega arith

  pub weigh_on : Weighing (texts nb t m) a b (total + (16 + (long + size))) (max size longest) (k + 1)
  weigh_on = let e = ap weigh_texts (rest_is nb cap t m q k h b g) in let f = ap largest (rest_is nb cap t m q k h b g) in let x = name_long nb cap t m q k h in let y = text_long nb cap t m q k h in let u = w.total_is in let v = w.largest_is in record { total_is = omega arith; largest_is = omega arith }

-- the files of the table from a up to b, which may stand before a
module _ (t ps : List ℕ) (h : 1 + get_or t 0 0 ≤ length t) (e : ps ≡ entries t) (a b from : ℕ) (f : from ≡ min a b) (g : b ≤ get_or t 0 0) (i : ℕ) where
  some_long : length (between from b ps) ≡ b - from
  some_long = part_long from b ps (omega (arith, ap length e, entries_long t h))

  pub some_end : length (between from b ps) ≤ i → b ≤ min a b + i
  some_end x = omega (arith, some_long)

  module _ (x : i < length (between from b ps)) where
    pub some_in : min a b + i < b
    some_in = omega (arith, some_long)

    pub some_is : get_or (between from b ps) i 0 ≡ get_or t (1 + (min a b + i)) 0
    some_is = let l = some_in in part_at from b ps i (omega arith) ∙ ap (λ (qs : List ℕ). get_or qs (from + i) 0) e ∙ ap (λ (k : ℕ). get_or (entries t) (k + i) 0) f ∙ entry_is t (min a b + i) (omega arith)

-- with another file
pub room_is : (p : Texts) (k n name size t₁ l₁ t₂ l₂ : ℕ) → length p ≤ n → WeighSays p 0 k t₁ l₁ → WeighSays p (k + 1) n t₂ l₂ → RoomSays p k name size (65536 + 24 * (t₁ + (16 + (name + size) + t₂)) + 256 * max l₁ (max size l₂))
room_is p k n name size t₁ l₁ t₂ l₂ h u v y a b =
    let z : k - 0 ≡ k = omega arith in
    let e : between 0 k p ≡ take k p = ap (λ i. take i p) z in
    let f : between (k + 1) n p ≡ drop (k + 1) p = between_to_end p (k + 1) n h in
    let x₁ = u.total_is ∙ ap weigh_texts e in let x₂ = v.total_is ∙ ap weigh_texts f in
    let y₁ = u.largest_is ∙ ap largest e in let y₂ = v.largest_is ∙ ap largest f in
    let w = weigh_append (take k p) (y ∷ drop (k + 1) p) in let l = largest_append (take k p) (y ∷ drop (k + 1) p) in
    omega arith
