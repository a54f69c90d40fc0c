-- Steps of the loops that look names up.
use Rattle.std.proofs.Common.{◌≡◌, ℕ, zero, suc, ◌+◌, ◌-◌, ◌<◌, ◌≤◌, min, MatchOption, Bool, true, false, List, [], ◌∷◌, length, Some, None, Option as Perhaps, sym, refl, ap, ◌∙◌, arith}
use Rattle.std.proofs.lemmas.Bool.{lt-ltb, ltb-true}
use Rattle.base.specs.Base.{pick, Word, same}
use Rattle.checker.specs.declared.lookup.Meaning.{Meaning}
use Rattle.checker.specs.declared.lookup.Meaning.TheVariants.{Found, Unknown, Several}
use Rattle.checker.specs.declared.lookup.«Type».TheVariants.{Of}
use Rattle.checker.specs.Types.{SomeSmall}
use Rattle.symbols.specs.Table.{word, file_name, used_in, first_decl, decl_count, decl_name, decl_long}
use Rattle.resolver.specs.Resolve.{limit, in_row, seek, named_from, own, also, among_used, found_or, meaning, is_type, found_type}

-- one declaration more
module _ (ws : List ℕ) (w : Word) (n m d : ℕ) (q : n ≡ suc m) where
  pub seek_miss : d < min (length ws) limit → same (decl_name ws d) w ≡ false → seek ws w n d ≡ seek ws w m (d + decl_long ws d)
  seek_miss l e = ap (λ n. seek ws w n d) q ∙ (λ i. pick (lt-ltb d (min (length ws) limit) l i) (pick (e i) (Some d) (seek ws w m (d + decl_long ws d))) None)

-- one file more
module _ (ws : List ℕ) (x : ℕ) (w : Word) (n m k : ℕ) (q : n ≡ suc m) where
  pub named_hit : same (file_name ws x k) w ≡ true → named_from ws x w n k ≡ Some k
  named_hit e = ap (λ n. named_from ws x w n k) q ∙ ap (λ b. pick b (Some k) (named_from ws x w m (k + 1))) e

  pub named_miss : same (file_name ws x k) w ≡ false → named_from ws x w n k ≡ named_from ws x w m (k + 1)
  named_miss e = ap (λ n. named_from ws x w n k) q ∙ ap (λ b. pick b (Some k) (named_from ws x w m (k + 1))) e

-- a handle that is found is below the limit, so that a type that is named can be packed
abbrev LowFound : Perhaps ℕ → Type 0
LowFound None = Unit {0}
LowFound (Some d) = d < limit

seek_low : (ws : List ℕ) (w : Word) (n d : ℕ) → LowFound (seek ws w n d)
seek_low ws w zero d = tt
seek_low ws w (suc n) d = go (in_row ws d) refl (same (decl_name ws d) w) (seek_low ws w n (d + decl_long ws d))
  where
    go : (b : Bool) → in_row ws d ≡ b → (c : Bool) → LowFound (seek ws w n (d + decl_long ws d)) → LowFound (pick b (pick c (Some d) (seek ws w n (d + decl_long ws d))) None)
    go true e true h = omega (arith, ltb-true d (min (length ws) limit) e)
    go true e false h = h
    go false e c h = tt

abbrev LowMeaning : Meaning → Type 0
LowMeaning Unknown = Unit {0}
LowMeaning Several = Unit {0}
LowMeaning (Found s) = s.0 < limit

also_low : (r : Perhaps ℕ) (m : Meaning) → LowFound r → LowMeaning m → LowMeaning (also r m)
also_low None m h l = l
also_low (Some d) Unknown h l = h
also_low (Some d) Several h l = tt
also_low (Some d) (Found s) h l = tt

among_low : (ws : List ℕ) (x : ℕ) (w : Word) (gs : List ℕ) (m : Meaning) → LowMeaning m → LowMeaning (among_used ws x w gs m)
among_low ws x w [] m l = l
among_low ws x w (g ∷ gs) m l = among_low ws x w gs (also (own ws x g w) m) (also_low (own ws x g w) m (seek_low ws w (decl_count ws x g) (first_decl ws x g)) l)

or_low : (r : Perhaps ℕ) (m : Meaning) → LowFound r → LowMeaning m → LowMeaning (found_or r m)
or_low None m h l = l
or_low (Some d) m h l = h

type_low : (ws : List ℕ) (m : Meaning) → LowMeaning m → SomeSmall (found_type ws m)
type_low ws Unknown l = tt
type_low ws Several l = tt
type_low ws (Found s) l = go (is_type (word ws (s.0 + 3)))
  where
    go : (b : Bool) → SomeSmall (pick b (Some (Of (record { 0 = s.0 }))) None)
    go true = omega (arith, l)
    go false = tt

pub found_small : (ws : List ℕ) (x k : ℕ) (w : Word) → SomeSmall (found_type ws (meaning ws x k w))
found_small ws x k w = type_low ws (meaning ws x k w) (or_low (own ws x k w) (among_used ws x w (used_in ws x k) Unknown) (seek_low ws w (decl_count ws x k) (first_decl ws x k)) (among_low ws x w (used_in ws x k) Unknown tt))

-- files that haven't the name, and the first that has it
named_skip : (ws : List ℕ) (x : ℕ) (w : Word) (n k j : ℕ) → j ≤ n → ((i : ℕ) → k ≤ i → i < k + j → same (file_name ws x i) w ≡ false) → named_from ws x w n k ≡ named_from ws x w (n - j) (k + j)
named_skip ws x w n k zero l h = let a : n ≡ n - 0 = omega arith in let b : k ≡ k + 0 = omega arith in λ i. named_from ws x w (a i) (b i)
named_skip ws x w zero k (suc j) l h = absurd (omega arith)
named_skip ws x w (suc n) k (suc j) l h =
    let a : n - j ≡ suc n - suc j = omega arith in
    let b : k + 1 + j ≡ k + suc j = omega arith in
    named_miss ws x w (suc n) n k refl (h k (omega arith) (omega arith)) ∙ named_skip ws x w n (k + 1) j (omega arith) (λ i p q. h i (omega arith) (omega arith)) ∙ (λ i. named_from ws x w (a i) (b i))

abbrev pub FirstNamed : List ℕ → ℕ → Word → ℕ → Perhaps ℕ → Type 0
FirstNamed ws x w n r = MatchOption r ((k : ℕ) → 0 ≤ k → k < n → same (file_name ws x k) w ≡ false) (λ i. (0 ≤ i) × (i < n) × (same (file_name ws x i) w ≡ true) × ((k : ℕ) → 0 ≤ k → k < i → same (file_name ws x k) w ≡ false))

pub named_found : (ws : List ℕ) (x : ℕ) (w : Word) (n : ℕ) (r : Perhaps ℕ) → FirstNamed ws x w n r → r ≡ named_from ws x w n 0
named_found ws x w n None h = let e : n - n ≡ 0 = omega arith in sym (named_skip ws x w n 0 n (omega arith) (λ k p q. h k p (omega arith)) ∙ ap (λ m. named_from ws x w m (0 + n)) e)
named_found ws x w n (Some j) h =
    let e : 0 + j ≡ j = omega arith in
    sym (named_skip ws x w n 0 j (omega (arith, h.1)) (λ k p q. h.3 k p (omega arith)) ∙ named_hit ws x w (n - j) (n - (j + 1)) (0 + j) (omega (arith, h.1)) (ap (λ k. same (file_name ws x k) w) e ∙ h.2) ∙ ap (λ k. Some k) e)
