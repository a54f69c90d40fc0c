-- What a number's entry leaves in the words, and so that it is added rightly (made).
use Rattle.std.proofs.Common.{◌≡◌, ℕ, ◌+◌, ◌*◌, ◌%◌, ◌<◌, ◌≤◌, ◌⊎◌, List, length, get_or, take, drop, set, sym, refl, ap, ◌∙◌, inl, inr, arith, length-drop}
use Rattle.std.proofs.lemmas.List.{get_or-set_same, get_or-set_other, length-set, get_or-take, get_or-drop, ext_get_or, length-take-le}
use Rattle.interner.specs.Index.{hash_from, count, end, head, place, link, pool, bytes_at, bytes, entered, Sound, Live}
use Rattle.interner.specs.Interner.{CanAdd, Added}
use Rattle.interner.proofs.Chains.{alike, Adds, added, bucket_in}

-- bytes are the same where the words are
pub bytes_same : (m m' : List ℕ) (lo hi p : ℕ) → length m' ≡ length m → lo ≤ p → p + 1 + get_or m p 0 ≤ hi → hi ≤ length m → ((i : ℕ) → lo ≤ i → i < hi → get_or m' i 0 ≡ get_or m i 0) → bytes_at m' p ≡ bytes_at m p
bytes_same m m' lo hi p l a b c f = ap (λ n. take n (drop (p + 1) m')) (f p a (omega arith)) ∙ ext_get_or 0 (take (get_or m p 0) (drop (p + 1) m')) (take (get_or m p 0) (drop (p + 1) m)) (long m' (omega arith) ∙ sym (long m (omega arith))) each
  where
    long : (x : List ℕ) → p + 1 + get_or m p 0 ≤ length x → length (take (get_or m p 0) (drop (p + 1) x)) ≡ get_or m p 0
    long x h = length-take-le (get_or m p 0) (drop (p + 1) x) (simp length-drop (omega arith))

    each : (i : ℕ) → i < length (take (get_or m p 0) (drop (p + 1) m')) → get_or (take (get_or m p 0) (drop (p + 1) m')) i 0 ≡ get_or (take (get_or m p 0) (drop (p + 1) m)) i 0
    each i h = let e = long m' (omega arith) in let g : i < get_or m p 0 = omega arith in get_or-take (get_or m p 0) (drop (p + 1) m') i 0 g ∙ get_or-drop (p + 1) m' i 0 ∙ f (p + 1 + i) (omega arith) (omega arith) ∙ sym (get_or-take (get_or m p 0) (drop (p + 1) m) i 0 g ∙ get_or-drop (p + 1) m i 0)

-- five writes, at places apart
module _ (l : List ℕ) (i₁ i₂ i₃ i₄ i₅ a₁ a₂ a₃ a₄ a₅ : ℕ) where
  abbrev five : List ℕ
  five = set (set (set (set (set l i₁ a₁) i₂ a₂) i₃ a₃) i₄ a₄) i₅ a₅

  five_long : length five ≡ length l
  five_long = simp length-set

  other : (k : List ℕ) (i j a x : ℕ) → (j ≡ i → ⊥) → get_or k j 0 ≡ x → get_or (set k i a) j 0 ≡ x
  other k i j a x h e = get_or-set_other k i j a 0 h ∙ e

  five_else : (j : ℕ) → (j ≡ i₁ → ⊥) → (j ≡ i₂ → ⊥) → (j ≡ i₃ → ⊥) → (j ≡ i₄ → ⊥) → (j ≡ i₅ → ⊥) → get_or five j 0 ≡ get_or l j 0
  five_else j h₁ h₂ h₃ h₄ h₅ = other _ i₅ j a₅ _ h₅ (other _ i₄ j a₄ _ h₄ (other _ i₃ j a₃ _ h₃ (other _ i₂ j a₂ _ h₂ (other _ i₁ j a₁ _ h₁ refl))))

  long_1 : length (set l i₁ a₁) ≡ length l
  long_1 = length-set l i₁ a₁

  long_2 : length (set (set l i₁ a₁) i₂ a₂) ≡ length l
  long_2 = length-set (set l i₁ a₁) i₂ a₂ ∙ long_1

  long_3 : length (set (set (set l i₁ a₁) i₂ a₂) i₃ a₃) ≡ length l
  long_3 = length-set (set (set l i₁ a₁) i₂ a₂) i₃ a₃ ∙ long_2

  five_5 : i₅ < length l → get_or five i₅ 0 ≡ a₅
  five_5 h = get_or-set_same _ i₅ a₅ 0 (simp length-set h)

  five_4 : i₄ < length l → (i₄ ≡ i₅ → ⊥) → get_or five i₄ 0 ≡ a₄
  five_4 h g = other _ i₅ i₄ a₅ _ g (get_or-set_same _ i₄ a₄ 0 (omega (arith, long_3)))

  five_3 : i₃ < length l → (i₃ ≡ i₄ → ⊥) → (i₃ ≡ i₅ → ⊥) → get_or five i₃ 0 ≡ a₃
  five_3 h f g = other _ i₅ i₃ a₅ _ g (other _ i₄ i₃ a₄ _ f (get_or-set_same _ i₃ a₃ 0 (omega (arith, long_2))))

  five_2 : i₂ < length l → (i₂ ≡ i₃ → ⊥) → (i₂ ≡ i₄ → ⊥) → (i₂ ≡ i₅ → ⊥) → get_or five i₂ 0 ≡ a₂
  five_2 h d f g = other _ i₅ i₂ a₅ _ g (other _ i₄ i₂ a₄ _ f (other _ i₃ i₂ a₃ _ d (get_or-set_same _ i₂ a₂ 0 (omega (arith, long_1)))))

  five_1 : i₁ < length l → (i₁ ≡ i₂ → ⊥) → (i₁ ≡ i₃ → ⊥) → (i₁ ≡ i₄ → ⊥) → (i₁ ≡ i₅ → ⊥) → get_or five i₁ 0 ≡ a₁
  five_1 h z d f g = other _ i₅ i₁ a₅ _ g (other _ i₄ i₁ a₄ _ f (other _ i₃ i₁ a₃ _ d (other _ i₂ i₁ a₂ _ z (get_or-set_same l i₁ a₁ 0 h))))

-- what add writes, pointwise: m before, o with the bytes laid, m' after
pub record Wrote (nb cap : ℕ) (m : List ℕ) (n : ℕ) (key m' : List ℕ) (c : ℕ) : Type 0 where
  pub long : length m' ≡ length m
  pub count_is : count m' ≡ c
  pub end_is : end m' ≡ end m + 1 + length key
  pub head_is : head m' (hash_from 0 key % nb) ≡ n
  pub place_is : place nb m' n ≡ end m
  pub link_is : link nb m' n ≡ head m (hash_from 0 key % nb)
  pub bytes_is : bytes_at m' (end m) ≡ key
  pub size_is : get_or m' (end m) 0 ≡ length key
  pub heads_else : (x : ℕ) → x < nb → (x ≡ hash_from 0 key % nb → ⊥) → head m' x ≡ head m x
  pub place_else : (k : ℕ) → k < cap → (k ≡ n → ⊥) → place nb m' k ≡ place nb m k
  pub link_else : (k : ℕ) → k < cap → (k ≡ n → ⊥) → link nb m' k ≡ link nb m k
  pub pool_else : (i : ℕ) → pool nb cap ≤ i → i < end m → get_or m' i 0 ≡ get_or m i 0

module _ (nb cap : ℕ) (m o : List ℕ) (n c : ℕ) (key : List ℕ) (s : Sound nb cap m) (lo : length o ≡ length m) (r : end m + 1 + length key ≤ length m) (n_in : n < cap)
    (front : take (end m) o ≡ take (end m) m) (size : get_or o (end m) 0 ≡ length key) (laid : take (length key) (drop (end m + 1) o) ≡ key) where
  abbrev b : ℕ
  b = hash_from 0 key % nb

  b_in : b < nb
  b_in = bucket_in nb cap m key s

  abbrev m' : List ℕ
  m' = entered nb b n (end m) (end m + 1 + length key) c o

  low : (i : ℕ) → i < end m → get_or o i 0 ≡ get_or m i 0
  low i h = sym (get_or-take (end m) o i 0 h) ∙ ap (λ x. get_or x i 0) front ∙ get_or-take (end m) m i 0 h

  same_else : (j : ℕ) → (j ≡ 2 + nb + 2 * n → ⊥) → (j ≡ 2 + nb + 2 * n + 1 → ⊥) → (j ≡ 2 + b → ⊥) → (j ≡ 1 → ⊥) → (j ≡ 0 → ⊥) → get_or m' j 0 ≡ get_or o j 0
  same_else = five_else o (2 + nb + 2 * n) (2 + nb + 2 * n + 1) (2 + b) 1 0 (end m) (head o b) n (end m + 1 + length key) c

  pub wrote : Wrote nb cap m n key m' c
  wrote = let bi = b_in in let pf = s.pool_from in let pt = s.pool_to in record {
    long = five_long o (2 + nb + 2 * n) (2 + nb + 2 * n + 1) (2 + b) 1 0 (end m) (head o b) n (end m + 1 + length key) c ∙ lo;
    count_is = five_5 o (2 + nb + 2 * n) (2 + nb + 2 * n + 1) (2 + b) 1 0 (end m) (head o b) n (end m + 1 + length key) c (omega arith);
    end_is = five_4 o (2 + nb + 2 * n) (2 + nb + 2 * n + 1) (2 + b) 1 0 (end m) (head o b) n (end m + 1 + length key) c (omega arith) (omega arith);
    head_is = five_3 o (2 + nb + 2 * n) (2 + nb + 2 * n + 1) (2 + b) 1 0 (end m) (head o b) n (end m + 1 + length key) c (omega arith) (omega arith) (omega arith);
    place_is = five_1 o (2 + nb + 2 * n) (2 + nb + 2 * n + 1) (2 + b) 1 0 (end m) (head o b) n (end m + 1 + length key) c (omega arith) (omega arith) (omega arith) (omega arith) (omega arith);
    link_is = five_2 o (2 + nb + 2 * n) (2 + nb + 2 * n + 1) (2 + b) 1 0 (end m) (head o b) n (end m + 1 + length key) c (omega arith) (omega arith) (omega arith) (omega arith) ∙ low (2 + b) (omega arith);
    bytes_is = bytes_same o m' (end m) (length o) (end m) (five_long o (2 + nb + 2 * n) (2 + nb + 2 * n + 1) (2 + b) 1 0 (end m) (head o b) n (end m + 1 + length key) c) (omega arith) (omega arith) (omega arith) (λ i h g. same_else i (omega arith) (omega arith) (omega arith) (omega arith) (omega arith)) ∙ ap (λ x. take x (drop (end m + 1) o)) size ∙ laid;
    size_is = same_else (end m) (omega arith) (omega arith) (omega arith) (omega arith) (omega arith) ∙ size;
    heads_else = λ x h d. same_else (2 + x) (omega arith) (omega arith) (λ q. d (omega arith)) (omega arith) (omega arith) ∙ low (2 + x) (omega arith);
    place_else = λ k h d. same_else (2 + nb + 2 * k) (λ q. d (omega arith)) (omega arith) (omega arith) (omega arith) (omega arith) ∙ low (2 + nb + 2 * k) (omega arith);
    link_else = λ k h d. same_else (2 + nb + 2 * k + 1) (omega arith) (λ q. d (omega arith)) (omega arith) (omega arith) (omega arith) ∙ low (2 + nb + 2 * k + 1) (omega arith);
    pool_else = λ i h g. same_else i (omega arith) (omega arith) (omega arith) (omega arith) (omega arith) ∙ low i g;
  }

-- with what add requires, what it wrote makes what it promises
module _ (nb cap : ℕ) (m : List ℕ) (n : ℕ) (key m' : List ℕ) (c : ℕ) (a : CanAdd nb cap m n key) (w : Wrote nb cap m n key m' c) (more : count m ≤ c) (c_in : n < c) (c_cap : c ≤ cap) (c_most : c ≤ count m + 1) (c_kept : n < count m → c ≡ count m) (c_only : (k : ℕ) → k < c → (k ≡ n → ⊥) → k < count m) where
  no_n : (k : ℕ) → k < count m → 0 < place nb m k → k ≡ n → ⊥
  no_n k h p e = let u = a.unused (omega arith) in let q = ap (place nb m) e in omega arith

  in_cap : (k : ℕ) → k < count m → k < cap
  in_cap k h = omega (arith, a.sound.counted)

  placed : (k : ℕ) → k < count m → 0 < place nb m k → place nb m' k ≡ place nb m k
  placed k h p = w.place_else k (in_cap k h) (no_n k h p)

  kept : (k : ℕ) → k < count m → 0 < place nb m k → bytes nb m' k ≡ bytes nb m k
  kept k h p = ap (bytes_at m') (placed k h p) ∙ bytes_same m m' (pool nb cap) (end m) (place nb m k) w.long (a.sound.places k h p).0 (a.sound.places k h p).1 a.sound.pool_to w.pool_else

  bytes_n : bytes nb m' n ≡ key
  bytes_n = ap (bytes_at m') w.place_is ∙ w.bytes_is

  last : (k : ℕ) → k < count m → place nb m k < place nb m' n
  last k h = let e = w.place_is in let f = a.sound.pool_from in elim (alike (place nb m k) 0) [ inl z ↦ omega arith | inr z ↦ (let p : 0 < place nb m k = omega arith in let q = (a.sound.places k h p).1 in omega arith) ]

  adds : Adds nb (count m) (count m') (head m) (place nb m) (link nb m) (bytes nb m) (head m') (place nb m') (link nb m') (bytes nb m') n key
  adds = let e = w.count_is in record { was = a.sound.chained; more = omega arith; within = omega arith; only_n = λ k h d. c_only k (omega arith) d; not_zero = a.not_zero; unused = a.unused; last = last; new = λ k h p q. a.new k (h, p) q; link_n = w.link_is; bytes_n = bytes_n; head_b = w.head_is; heads_else = w.heads_else; place_else = λ k h d. w.place_else k (in_cap k h) d; link_else = λ k h d. w.link_else k (in_cap k h) d; bytes_else = kept }

  which : (k : ℕ) → Live nb m' k → (k ≡ n) ⊎ Live nb m k
  which k (h, p) = elim (alike k n) [ inl e ↦ inl e | inr d ↦ inr (let e = w.count_is in let g = c_only k (omega arith) d in let q = w.place_else k (in_cap k g) d in (g, omega arith)) ]

  places' : (k : ℕ) → k < count m' → 0 < place nb m' k → (pool nb cap ≤ place nb m' k) × (place nb m' k + 1 + get_or m' (place nb m' k) 0 ≤ end m')
  places' k h p = elim (which k (h, p)) [ inl e ↦ (let x : place nb m' k ≡ end m = ap (place nb m') e ∙ w.place_is in let y = ap (λ i. get_or m' i 0) x in let z = w.size_is in let t = w.end_is in let u = a.sound.pool_from in (omega arith, omega arith)) | inr l ↦ (let x = placed k l.0 l.1 in let u = a.sound.places k l.0 l.1 in let y = ap (λ i. get_or m' i 0) x in let z = w.pool_else (place nb m k) u.0 (omega arith) in let t = w.end_is in (omega arith, omega arith)) ]

  sound' : Sound nb cap m'
  sound' = let x = w.count_is in let y = w.end_is in let z = w.long in let f = a.sound.pool_from in let g = a.room in let t = a.sound.small in record { counted = omega arith; pool_from = omega arith; pool_to = omega arith; small = omega arith; places = places'; chained = added _ _ _ _ _ _ _ _ _ _ _ _ _ adds }

  pub made : Added nb cap m n key m'
  made = let x = w.count_is in let y = w.place_is in let f = a.sound.pool_from in record { sound = sound'; live = (omega arith, omega arith); bytes_n = bytes_n; grown = λ k l. let u = placed k l.0 l.1 in let v = l.0 in let p = l.1 in ((omega arith, omega arith), kept k l.0 l.1); pooled = record { longer = omega (arith, w.end_is); same_words = w.pool_else }; only = which; end_is = w.end_is; count_most = omega arith; count_kept = λ h. w.count_is ∙ c_kept h; long = w.long }
