-- Walks along a chain (starts, goes_on, none_left), and a number more in front of one (added).
use Rattle.std.proofs.Common.{◌≡◌, ℕ, ◌+◌, ◌*◌, ◌%◌, ◌<◌, ◌≤◌, Bool, true, false, eqb, ◌⊎◌, List, length, get_or, sym, refl, ap, ◌∙◌, subst, inl, inr, mod-lt, arith, eqb-true}
use borrow.Author.Tests.{eqb-false}
use Rattle.interner.specs.Index.{hash_from, count, head, place, link, bytes_at, bytes, Chained, Sound, Live}

-- n is where the walk for a key has come to: whoever has the key's bytes lies no later
pub record Walk (nb : ℕ) (m key : List ℕ) (n : ℕ) : Type 0 where
  pub here : n < count m
  pub kin : 0 < place nb m n → hash_from 0 (bytes nb m n) % nb ≡ hash_from 0 key % nb
  pub rest : (k : ℕ) → k < count m → 0 < place nb m k → bytes nb m k ≡ key → place nb m k ≤ place nb m n

module _ (nb cap : ℕ) (m key : List ℕ) (s : Sound nb cap m) where
  pub row_in : (n : ℕ) → n < count m → 2 + nb + 2 * n + 1 < length m
  row_in n h = omega (arith, s.counted, s.pool_from, s.pool_to)

  pub bytes_in : (n : ℕ) → n < count m → 0 < place nb m n → place nb m n + 1 + get_or m (place nb m n) 0 ≤ length m
  bytes_in n h k = omega (arith, (s.places n h k).1, s.pool_to)

  pub bucket_in : hash_from 0 key % nb < nb
  bucket_in = mod-lt (hash_from 0 key) s.chained.buckets

  pub head_in : 2 + hash_from 0 key % nb < length m
  head_in = omega (arith, bucket_in, s.pool_from, s.pool_to)

  pub starts : Walk nb m key (head m (hash_from 0 key % nb))
  starts = record { here = (s.chained.heads (hash_from 0 key % nb) bucket_in).0; kin = (s.chained.heads (hash_from 0 key % nb) bucket_in).2; rest = λ k h p e. subst (λ (x : List ℕ). place nb m k ≤ place nb m (head m (hash_from 0 x % nb))) e (s.chained.newest k h p) }

  pub goes_on : (n : ℕ) → Walk nb m key n → 0 < place nb m n → (bytes nb m n ≡ key → ⊥) → Walk nb m key (link nb m n)
  goes_on n w p ne = record { here = (s.chained.links n w.here p).0; kin = λ q. (s.chained.links n w.here p).3 q ∙ w.kin p; rest = λ k h q e. s.chained.older n k w.here p h q (w.kin p ∙ ap (λ (x : List ℕ). hash_from 0 x % nb) (sym e)) (earlier k h q e) }
    where
      earlier : (k : ℕ) → k < count m → 0 < place nb m k → bytes nb m k ≡ key → place nb m k < place nb m n
      earlier k h q e = let u = w.rest k h q e in let v : place nb m k ≡ place nb m n → ⊥ = λ r. ne (ap (bytes_at m) (sym r) ∙ e) in omega arith

  pub falls : (n : ℕ) → Walk nb m key n → 0 < place nb m n → place nb m (link nb m n) < place nb m n
  falls n w p = (s.chained.links n w.here p).1

  pub none_left : (n : ℕ) → Walk nb m key n → place nb m n ≡ 0 → (k : ℕ) → Live nb m k → bytes nb m k ≡ key → ⊥
  none_left n w z k (h, p) e = let u = w.rest k h p e in omega arith

pub alike : (j k : ℕ) → (j ≡ k) ⊎ (j ≡ k → ⊥)
alike j k = go (eqb j k) refl
  where
    go : (b : Bool) → eqb j k ≡ b → (j ≡ k) ⊎ (j ≡ k → ⊥)
    go true e = inl (eqb-true j k e)
    go false e = inr (eqb-false j k e)

-- a number n with its bytes, laid behind all the others, goes to the front of its chain
pub record Adds (nb c c' : ℕ) (hd pl nx : ℕ → ℕ) (by : ℕ → List ℕ) (hd' pl' nx' : ℕ → ℕ) (by' : ℕ → List ℕ) (n : ℕ) (key : List ℕ) : Type 0 where
  pub was : Chained nb c hd pl nx by
  pub more : c ≤ c'
  pub within : n < c'
  pub only_n : (k : ℕ) → k < c' → (k ≡ n → ⊥) → k < c
  pub not_zero : 0 < n
  pub unused : n < c → pl n ≡ 0
  pub last : (k : ℕ) → k < c → pl k < pl' n
  pub new : (k : ℕ) → k < c → 0 < pl k → by k ≡ key → ⊥
  pub link_n : nx' n ≡ hd (hash_from 0 key % nb)
  pub bytes_n : by' n ≡ key
  pub head_b : hd' (hash_from 0 key % nb) ≡ n
  pub heads_else : (x : ℕ) → x < nb → (x ≡ hash_from 0 key % nb → ⊥) → hd' x ≡ hd x
  pub place_else : (k : ℕ) → k < c → (k ≡ n → ⊥) → pl' k ≡ pl k
  pub link_else : (k : ℕ) → k < c → (k ≡ n → ⊥) → nx' k ≡ nx k
  pub bytes_else : (k : ℕ) → k < c → 0 < pl k → by' k ≡ by k

module _ (nb c c' : ℕ) (hd pl nx : ℕ → ℕ) (by : ℕ → List ℕ) (hd' pl' nx' : ℕ → ℕ) (by' : ℕ → List ℕ) (n : ℕ) (key : List ℕ) (a : Adds nb c c' hd pl nx by hd' pl' nx' by' n key) where
  other : (y : ℕ) → y < c → (0 < y → 0 < pl y) → y ≡ n → ⊥
  other y h p e = let z = a.not_zero in let q : 0 < pl y = p (omega arith) in let r : n < c = omega arith in let u = a.unused r in let v = ap pl e in omega arith

  -- one that was there, as it was
  abbrev Was : ℕ → Type 0
  Was k = (k < c) × (0 < pl k) × (pl' k ≡ pl k) × (nx' k ≡ nx k) × (by' k ≡ by k)

  is_was : (k : ℕ) → k < c → 0 < pl k → Was k
  is_was k h p = let o = other k h (λ _. p) in (h, p, a.place_else k h o, a.link_else k h o, a.bytes_else k h p)

  which : (k : ℕ) → k < c' → 0 < pl' k → (k ≡ n) ⊎ Was k
  which k h p = elim (alike k n) [ inl e ↦ inl e | inr o ↦ inr (let g = a.only_n k h o in let q = a.place_else k g o in is_was k g (omega arith)) ]

  abbrev bk : List ℕ → ℕ
  bk x = hash_from 0 x % nb

  key_in : bk key < nb
  key_in = mod-lt (hash_from 0 key) a.was.buckets

  bk_in : (x : List ℕ) → bk x < nb
  bk_in x = mod-lt (hash_from 0 x) a.was.buckets

  -- the chain's old head, and any that a head or a link names
  stays : (y : ℕ) → y < c → (0 < y → 0 < pl y) → pl' y ≡ pl y
  stays y h p = a.place_else y h (other y h p)

  pos : (y : ℕ) → y < c → 0 < pl y → Was y
  pos y h p = is_was y h p

  heads' : (b : ℕ) → b < nb → (hd' b < c') × (0 < hd' b → 0 < pl' (hd' b)) × (0 < pl' (hd' b) → bk (by' (hd' b)) ≡ b)
  heads' b h = elim (alike b (bk key)) [ inl e ↦ at_key e | inr o ↦ else1 o ]
    where
      at_key : b ≡ bk key → (hd' b < c') × (0 < hd' b → 0 < pl' (hd' b)) × (0 < pl' (hd' b) → bk (by' (hd' b)) ≡ b)
      at_key e = let f : hd' b ≡ n = ap hd' e ∙ a.head_b in let w = a.within in let l = a.last 0 a.was.zero_row.0 in (omega arith, (λ _. let g = ap pl' f in omega arith), (λ _. ap (λ y. bk (by' y)) f ∙ ap bk a.bytes_n ∙ sym e))

      else1 : (b ≡ bk key → ⊥) → (hd' b < c') × (0 < hd' b → 0 < pl' (hd' b)) × (0 < pl' (hd' b) → bk (by' (hd' b)) ≡ b)
      else1 o = let f = a.heads_else b h o in let i = (a.was.heads b h).0 in let p = (a.was.heads b h).1 in let s = stays (hd b) i p in let m = a.more in (omega arith, (λ q. let r = p (omega arith) in let g = ap pl' f in omega arith), (λ q. let g = ap pl' f in let r : 0 < pl (hd b) = omega arith in ap (λ y. bk (by' y)) f ∙ ap bk (a.bytes_else (hd b) i r) ∙ (a.was.heads b h).2 r))

  front_last : pl' (nx' n) < pl' n
  front_last = let i = (a.was.heads (bk key) key_in).0 in let s = stays (hd (bk key)) i (a.was.heads (bk key) key_in).1 in let l = a.last (hd (bk key)) i in let g = ap pl' a.link_n in omega arith

  links' : (k : ℕ) → k < c' → 0 < pl' k → (nx' k < c') × (pl' (nx' k) < pl' k) × (0 < nx' k → 0 < pl' (nx' k)) × (0 < pl' (nx' k) → bk (by' (nx' k)) ≡ bk (by' k))
  links' k h p = elim (which k h p) [ inl e ↦ at_n e | inr w ↦ else1 w ]
    where
      at_n : k ≡ n → (nx' k < c') × (pl' (nx' k) < pl' k) × (0 < nx' k → 0 < pl' (nx' k)) × (0 < pl' (nx' k) → bk (by' (nx' k)) ≡ bk (by' k))
      at_n e = subst (λ (y : ℕ). (nx' y < c') × (pl' (nx' y) < pl' y) × (0 < nx' y → 0 < pl' (nx' y)) × (0 < pl' (nx' y) → bk (by' (nx' y)) ≡ bk (by' y))) (sym e) (let f = a.link_n in let i = (a.was.heads (bk key) key_in).0 in let q = (a.was.heads (bk key) key_in).1 in let s = stays (hd (bk key)) i q in let g = ap pl' f in let m = a.more in (omega arith, front_last, (λ t. let r = q (omega arith) in omega arith), (λ t. let r : 0 < pl (hd (bk key)) = omega arith in ap (λ y. bk (by' y)) f ∙ ap bk (a.bytes_else (hd (bk key)) i r) ∙ (a.was.heads (bk key) key_in).2 r ∙ ap bk (sym a.bytes_n))))

      else1 : Was k → (nx' k < c') × (pl' (nx' k) < pl' k) × (0 < nx' k → 0 < pl' (nx' k)) × (0 < pl' (nx' k) → bk (by' (nx' k)) ≡ bk (by' k))
      else1 (i, r, u, v, w) = let l = a.was.links k i r in let q = l.2 in let s = stays (nx k) l.0 q in let g = ap pl' v in let m = a.more in (omega arith, omega arith, (λ t. let x = q (omega arith) in omega arith), (λ t. let x : 0 < pl (nx k) = omega arith in ap (λ y. bk (by' y)) v ∙ ap bk (a.bytes_else (nx k) l.0 x) ∙ l.3 x ∙ ap bk (sym w)))

  newest' : (k : ℕ) → k < c' → 0 < pl' k → pl' k ≤ pl' (hd' (bk (by' k)))
  newest' k h p = elim (which k h p) [ inl e ↦ at_n e | inr w ↦ else1 w ]
    where
      at_n : k ≡ n → pl' k ≤ pl' (hd' (bk (by' k)))
      at_n e = let f : hd' (bk (by' k)) ≡ k = ap (λ y. hd' (bk (by' y))) e ∙ ap (λ x. hd' (bk x)) a.bytes_n ∙ a.head_b ∙ sym e in let g = ap pl' f in omega arith

      else1 : Was k → pl' k ≤ pl' (hd' (bk (by' k)))
      else1 (i, r, u, v, w) = elim (alike (bk (by k)) (bk key)) [ inl e ↦ (let f : hd' (bk (by' k)) ≡ n = ap (λ x. hd' (bk x)) w ∙ ap hd' e ∙ a.head_b in let g = ap pl' f in let l = a.last k i in omega arith) | inr o ↦ (let f : hd' (bk (by' k)) ≡ hd (bk (by k)) = ap (λ x. hd' (bk x)) w ∙ a.heads_else (bk (by k)) (bk_in (by k)) o in let g = ap pl' f in let s = stays (hd (bk (by k))) (a.was.heads (bk (by k)) (bk_in (by k))).0 (a.was.heads (bk (by k)) (bk_in (by k))).1 in let z = a.was.newest k i r in omega arith) ]

  older' : (j k : ℕ) → j < c' → 0 < pl' j → k < c' → 0 < pl' k → bk (by' j) ≡ bk (by' k) → pl' k < pl' j → pl' k ≤ pl' (nx' j)
  older' j k h p i q e l = elim (which j h p) [ inl f ↦ elim (which k i q) [ inl g ↦ (let x = ap pl' f in let y = ap pl' g in omega arith) | inr w ↦ first f w ] | inr v ↦ elim (which k i q) [ inl g ↦ (let y = ap pl' g in let z = a.last j v.0 in let t = v.2 in omega arith) | inr w ↦ two v w ] ]
    where
      first : j ≡ n → Was k → pl' k ≤ pl' (nx' j)
      first f (s, r, u, v, w) = let b : bk (by k) ≡ bk key = ap bk (sym w) ∙ sym e ∙ ap (λ y. bk (by' y)) f ∙ ap bk a.bytes_n in let x = ap (λ y. pl (hd y)) b in let z = a.was.newest k s r in let t = stays (hd (bk key)) (a.was.heads (bk key) key_in).0 (a.was.heads (bk key) key_in).1 in let g : nx' j ≡ hd (bk key) = ap nx' f ∙ a.link_n in let d = ap pl' g in omega arith

      two : Was j → Was k → pl' k ≤ pl' (nx' j)
      two (s, r, u, v, w) (s', r', u', v', w') = let x = a.was.older j k s r s' r' (ap bk (sym w) ∙ e ∙ ap bk w') (omega arith) in let t = stays (nx j) (a.was.links j s r).0 (a.was.links j s r).2 in let d = ap pl' v in omega arith

  apart' : (j k : ℕ) → j < c' → 0 < pl' j → k < c' → 0 < pl' k → by' j ≡ by' k → j ≡ k
  apart' j k h p i q e = elim (which j h p) [ inl f ↦ elim (which k i q) [ inl g ↦ f ∙ sym g | inr w ↦ (let z = a.new k w.0 w.1 (sym w.4 ∙ sym e ∙ ap by' f ∙ a.bytes_n) in omega arith) ] | inr v ↦ elim (which k i q) [ inl g ↦ (let z = a.new j v.0 v.1 (sym v.4 ∙ e ∙ ap by' g ∙ a.bytes_n) in omega arith) | inr w ↦ a.was.apart j k v.0 v.1 w.0 w.1 (sym v.4 ∙ e ∙ w.4) ] ]

  pub added : Chained nb c' hd' pl' nx' by'
  added = record { buckets = a.was.buckets; zero_row = (let z = a.was.zero_row.0 in let m = a.more in omega arith, stays 0 a.was.zero_row.0 (λ x. let f : ⊥ = omega arith in elim f [ ]) ∙ a.was.zero_row.1); heads = heads'; links = links'; newest = newest'; older = older'; apart = apart' }
