-- Words that the index doesn't speak of may change (sound_still).
use Rattle.std.proofs.Common.{◌≡◌, ℕ, ◌+◌, ◌*◌, ◌%◌, ◌<◌, ◌≤◌, List, length, get_or, sym, ap, ◌∙◌, subst, mod-lt, arith}
use Rattle.interner.specs.Index.{hash_from, count, end, head, place, link, pool, bytes_at, bytes, Chained, Sound, Grown, Pooled}
use Rattle.interner.proofs.Words.{bytes_same}

module _ (nb c : ℕ) (hd pl nx : ℕ → ℕ) (by : ℕ → List ℕ) (hd' pl' nx' : ℕ → ℕ) (by' : ℕ → List ℕ) (s : Chained nb c hd pl nx by) (h : (b : ℕ) → b < nb → hd' b ≡ hd b) (p : (n : ℕ) → n < c → pl' n ≡ pl n) (x : (n : ℕ) → n < c → nx' n ≡ nx n) (y : (n : ℕ) → n < c → 0 < pl n → by' n ≡ by n) where
  abbrev bk : List ℕ → ℕ
  bk l = hash_from 0 l % nb

  was : (n : ℕ) → n < c → 0 < pl' n → 0 < pl n
  was n i q = let e = p n i in omega arith

  pub chained_same : Chained nb c hd' pl' nx' by'
  chained_same = record {
    buckets = s.buckets;
    zero_row = (s.zero_row.0, p 0 s.zero_row.0 ∙ s.zero_row.1);
    heads = λ b i. let e = h b i in let g = s.heads b i in let q = p (hd b) g.0 in let e' = ap pl' e in (omega arith, (λ t. let u = g.1 (omega arith) in omega arith), (λ t. let u : 0 < pl (hd b) = omega arith in ap (λ n. bk (by' n)) e ∙ ap bk (y (hd b) g.0 u) ∙ g.2 u));
    links = λ n i q. let g = s.links n i (was n i q) in let e = x n i in let e' = ap pl' e in let r = p (nx n) g.0 in let t = p n i in (omega arith, omega arith, (λ v. let u = g.2 (omega arith) in omega arith), (λ v. let u : 0 < pl (nx n) = omega arith in ap (λ k. bk (by' k)) e ∙ ap bk (y (nx n) g.0 u) ∙ g.3 u ∙ ap bk (sym (y n i (was n i q)))));
    newest = λ n i q. let w = was n i q in let g = s.newest n i w in let b = bk (by n) in let e : hd' (bk (by' n)) ≡ hd (bk (by n)) = ap (λ l. hd' (bk l)) (y n i w) ∙ h (bk (by n)) (mod-lt (hash_from 0 (by n)) s.buckets) in let e' = ap pl' e in let r = p (hd (bk (by n))) (s.heads (bk (by n)) (mod-lt (hash_from 0 (by n)) s.buckets)).0 in let t = p n i in omega arith;
    older = λ n k i q j r e l. let w = was n i q in let v = was k j r in let t = p n i in let u = p k j in let g = s.older n k i w j v (ap bk (sym (y n i w)) ∙ e ∙ ap bk (y k j v)) (omega arith) in let z = ap pl' (x n i) in let d = p (nx n) (s.links n i w).0 in omega arith;
    apart = λ n k i q j r e. s.apart n k i (was n i q) j (was k j r) (sym (y n i (was n i q)) ∙ e ∙ y k j (was k j r));
  }

module _ (nb cap : ℕ) (m m' : List ℕ) (s : Sound nb cap m) (cs : count m' ≡ count m) (long : length m' ≡ length m) (more : end m ≤ end m') (fit : end m' ≤ length m) (same : (i : ℕ) → 2 ≤ i → i < end m → get_or m' i 0 ≡ get_or m i 0) where
  n_in : (n : ℕ) → n < count m → 2 + nb + 2 * n + 1 < end m
  n_in n h = omega (arith, s.counted, s.pool_from)

  place_same : (n : ℕ) → n < count m → place nb m' n ≡ place nb m n
  place_same n h = let g = n_in n h in same (2 + nb + 2 * n) (omega arith) (omega arith)

  pub bytes_still : (n : ℕ) → n < count m → 0 < place nb m n → bytes nb m' n ≡ bytes nb m n
  bytes_still n h p = ap (bytes_at m') (place_same n h) ∙ bytes_same m m' (pool nb cap) (end m) (place nb m n) long (s.places n h p).0 (s.places n h p).1 s.pool_to (λ i g k. same i (omega arith) k)

  pub sound_still : Sound nb cap m'
  sound_still = record { counted = omega (arith, s.counted); pool_from = omega (arith, s.pool_from); pool_to = omega arith; small = omega (arith, s.small); places = λ n h p. let g : n < count m = omega arith in let e = place_same n g in let u = s.places n g (omega arith) in let f = ap (λ i. get_or m' i 0) e in let d = same (place nb m n) (omega arith) (omega arith) in (omega arith, omega arith); chained = subst (λ (c : ℕ). Chained nb c (head m') (place nb m') (link nb m') (bytes nb m')) (sym cs) (chained_same nb (count m) (head m) (place nb m) (link nb m) (bytes nb m) (head m') (place nb m') (link nb m') (bytes nb m') s.chained (λ b h. same (2 + b) (omega arith) (omega (arith, s.pool_from))) place_same (λ n h. let g = n_in n h in same (2 + nb + 2 * n + 1) (omega arith) g) bytes_still) }

  pub grown_still : Grown nb m m'
  grown_still k l = let u = l.0 in let v = l.1 in let e = place_same k u in ((omega arith, omega arith), bytes_still k l.0 l.1)

  pub pooled_still : Pooled nb cap m m'
  pooled_still = record { longer = more; same_words = λ i h k. same i (omega arith) k }
