-- A row in which no number is in use is in order (blank).
use Rattle.std.proofs.Common.{◌≡◌, ℕ, ◌+◌, ◌*◌, ◌<◌, ◌≤◌, List, length, get_or, set, ap, ◌∙◌, arith}
use Rattle.std.proofs.lemmas.List.{get_or-set_same, get_or-set_other, length-set}
use Rattle.interner.specs.Index.{count, end, pool, head, place}
use Rattle.interner.specs.Interner.{Blank}

module _ (nb cap c : ℕ) (z : List ℕ) (zs : (k : ℕ) → k < 2 + nb + 2 * c → get_or z k 0 ≡ 0) (b_in : 0 < nb) (c_in : 0 < c) (c_cap : c ≤ cap) (room : pool nb cap ≤ length z) (small : length z < 4294967296) where
  abbrev m : List ℕ
  m = set (set z 0 c) 1 (pool nb cap)

  long : length m ≡ length z
  long = length-set (set z 0 c) 1 (pool nb cap) ∙ length-set z 0 c

  count_is : count m ≡ c
  count_is = get_or-set_other (set z 0 c) 1 0 (pool nb cap) 0 (omega arith) ∙ get_or-set_same z 0 c 0 (omega arith)

  end_is : end m ≡ pool nb cap
  end_is = get_or-set_same (set z 0 c) 1 (pool nb cap) 0 (omega (arith, length-set z 0 c))

  nil : (i : ℕ) → 2 ≤ i → i < 2 + nb + 2 * c → get_or m i 0 ≡ 0
  nil i h k = get_or-set_other (set z 0 c) 1 i (pool nb cap) 0 (omega arith) ∙ get_or-set_other z 0 i c 0 (omega arith) ∙ zs i k

  no_place : (n : ℕ) → n < count m → place nb m n ≡ 0
  no_place n h = nil (2 + nb + 2 * n) (omega arith) (omega (arith, count_is))

  no_head : (b : ℕ) → b < nb → head m b ≡ 0
  no_head b h = nil (2 + b) (omega arith) (omega arith)

  first_in : 0 < count m
  first_in = omega (arith, count_is)

  pub blank : Blank nb cap c m
  blank = record { sound = record { counted = omega (arith, count_is); pool_from = omega (arith, end_is); pool_to = omega (arith, end_is, long); small = omega (arith, long); places = λ n h p. let x = no_place n h in let f : ⊥ = omega arith in elim f [ ]; chained = record { buckets = b_in; zero_row = (first_in, no_place 0 first_in); heads = λ b h. let e = no_head b h in let q = ap (place nb m) e ∙ no_place 0 first_in in (omega (arith, first_in), (λ x. let f : ⊥ = omega arith in elim f [ ]), (λ x. let f : ⊥ = omega arith in elim f [ ])); links = λ n h p. let x = no_place n h in let f : ⊥ = omega arith in elim f [ ]; newest = λ n h p. let x = no_place n h in let f : ⊥ = omega arith in elim f [ ]; older = λ n k h p i q e l. let x = no_place n h in let f : ⊥ = omega arith in elim f [ ]; apart = λ n k h p i q e. let x = no_place n h in let f : ⊥ = omega arith in elim f [ ] } }; counts = count_is; ends = end_is; none_live = λ k l. let x = no_place k l.0 in omega (arith, l.1) }
