-- A record laid behind the pool (recorded).
use Rattle.std.proofs.Common.{◌≡◌, ℕ, ◌+◌, ◌-◌, ◌*◌, ◌<◌, ◌≤◌, List, length, get_or, take, drop, set, refl, sym, ap, ◌∙◌, arith}
use borrow.Rule.Slice.PartMut.{put_mid}
use Rattle.std.proofs.lemmas.List.{get_or-set_same, get_or-set_other, length-set, get_or-take, drop-set-lt}
use Rattle.interner.specs.Index.{count, end, place, bytes_at, Sound, NoMore}
use Rattle.interner.specs.Records.{Recorded}
use Rattle.interner.proofs.Parts.{part_at, put_below, put_in}
use Rattle.interner.proofs.Still.{sound_still, grown_still, pooled_still}

-- the head was copied to a place e, and the numbers were laid at b behind it
module _ (m o head h : List ℕ) (e b : ℕ) (b_is : b ≡ e + length head) (room : b ≤ length m) (copied : h ≡ head) (front : take b o ≡ take b (put_mid e (b - e) m h)) where
  h_long : length h ≡ b - e
  h_long = omega (arith, ap length copied)

  in_front : (i : ℕ) → i < b → get_or o i 0 ≡ get_or (put_mid e (b - e) m h) i 0
  in_front i l = sym (get_or-take b o i 0 l) ∙ ap (λ x. get_or x i 0) front ∙ get_or-take b (put_mid e (b - e) m h) i 0 l

  pub below_head : (i : ℕ) → i < e → get_or o i 0 ≡ get_or m i 0
  below_head i l = in_front i (omega arith) ∙ put_below e (b - e) m h h_long (omega arith) i (omega arith) l

  pub head_there : (i : ℕ) → i < length head → get_or o (e + i) 0 ≡ get_or head i 0
  head_there i l = in_front (e + i) (omega arith) ∙ sym (part_at e b (put_mid e (b - e) m h) i (omega arith)) ∙ ap (λ x. get_or x i 0) (put_in e (b - e) m h h_long (omega arith) b refl ∙ copied)

module _ (nb cap : ℕ) (m o head ns : List ℕ) (s : Sound nb cap m) (long : length o ≡ length m) (room : end m + length head + 1 + length ns ≤ length m)
    (low : (i : ℕ) → i < end m → get_or o i 0 ≡ get_or m i 0) (heads : (i : ℕ) → i < length head → get_or o (end m + i) 0 ≡ get_or head i 0)
    (many : get_or o (end m + length head) 0 ≡ length ns) (laid : take (length ns) (drop (end m + length head + 1) o) ≡ ns) where
  abbrev m' : List ℕ
  m' = set o 1 (end m + length head + 1 + length ns)

  long' : length m' ≡ length m
  long' = length-set o 1 (end m + length head + 1 + length ns) ∙ long

  two : 2 ≤ end m
  two = omega (arith, s.pool_from)

  else1 : (i : ℕ) → (i ≡ 1 → ⊥) → get_or m' i 0 ≡ get_or o i 0
  else1 i h = get_or-set_other o 1 i (end m + length head + 1 + length ns) 0 h

  end' : end m' ≡ end m + length head + 1 + length ns
  end' = get_or-set_same o 1 (end m + length head + 1 + length ns) 0 (omega (arith, two))

  same : (i : ℕ) → 2 ≤ i → i < end m → get_or m' i 0 ≡ get_or m i 0
  same i h k = else1 i (omega arith) ∙ low i k

  count' : count m' ≡ count m
  count' = let t = two in else1 0 (omega arith) ∙ low 0 (omega arith)

  many' : get_or m' (end m + length head) 0 ≡ length ns
  many' = let t = two in else1 (end m + length head) (omega arith) ∙ many

  numbers' : bytes_at m' (end m + length head) ≡ ns
  numbers' = let t = two in ap (λ n. take n (drop (end m + length head + 1) m')) many' ∙ ap (take (length ns)) (drop-set-lt (end m + length head + 1) o 1 (end m + length head + 1 + length ns) (omega arith)) ∙ laid

  no_more' : NoMore nb m m'
  no_more' = let e = end' in record { counts = count'; only = λ k l. let u = l.0 in let v = l.1 in let h : k < count m = omega (arith, count') in let x : place nb m' k ≡ place nb m k = same (2 + nb + 2 * k) (omega arith) (omega (arith, s.counted, s.pool_from)) in let p : 0 < place nb m k = omega arith in ((h, p), (grown_still nb cap m m' s count' long' (omega arith) (omega arith) same k (h, p)).1) }

  pub recorded : Recorded nb cap m head ns m' (end m)
  recorded = let e = end' in let t = two in record { place_is = refl; sound = sound_still nb cap m m' s count' long' (omega arith) (omega arith) same; grown = grown_still nb cap m m' s count' long' (omega arith) (omega arith) same; pooled = pooled_still nb cap m m' s count' long' (omega arith) (omega arith) same; no_more = no_more'; head_is = λ i h. else1 (end m + i) (omega arith) ∙ heads i h; many_is = many'; numbers_are = numbers'; long = long'; end_is = e }
