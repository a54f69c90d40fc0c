-- Along bytes that pass a test, from a place of a row on.
use Rattle.std.proofs.Common.{◌≡◌, ℕ, zero, suc, ◌+◌, ◌-◌, ◌<◌, ◌≤◌, ◌⊎◌, Bool, true, false, List, length, get_or, take, drop, min, ⊎_elim, inl, inr, sym, ap, ◌∙◌, subst, arith, length-drop, get_or-drop}
use Rattle.std.specs.List.{prefix_len}
use Rattle.std.proofs.lemmas.Bool.{cases_lt}
use Rattle.std.proofs.lemmas.List.Sums.{prefix_len-le-length, prefix_len_passes, prefix_len_stops}
use Rattle.std.proofs.lemmas.List.{take_all, drop_min}

module _ (p : ℕ → Bool) (xs : List ℕ) (f : ℕ) where
  abbrev long : ℕ
  long = prefix_len p (drop f xs)

  pub inside : f ≤ length xs → f + long ≤ length xs
  inside h = let l = prefix_len-le-length p (drop f xs) in let d = length-drop f xs in omega arith

  passes : (k : ℕ) → k < long → p (get_or xs (f + k) 0) ≡ true
  passes k h = ap p (sym (get_or-drop f xs k 0)) ∙ prefix_len_passes p (drop f xs) k 0 h

  -- what holds at the place and goes on over each byte that passes holds where they end
  pub along : (P : ℕ → Type 0) → P f → ((i : ℕ) → f ≤ i → i < length xs → p (get_or xs i 0) ≡ true → P i → P (i + 1)) → P (f + long)
  along P start step = go long (omega arith)
    where
      go : (k : ℕ) → k ≤ long → P (f + k)
      go zero h = subst P (omega arith) start
      go (suc k) h =
          let l = prefix_len-le-length p (drop f xs) in
          let d = length-drop f xs in
          subst P (omega arith) (step (f + k) (omega arith) (omega arith) (passes k (omega arith)) (go k (omega arith)))

  -- the byte at which they end doesn't pass
  pub ends : f + long < length xs → p (get_or xs (f + long) 0) ≡ false
  ends h =
      let d = length-drop f xs in
      ap p (sym (get_or-drop f xs long 0)) ∙ prefix_len_stops p (drop f xs) 0 (omega arith)

-- where they end, or the place itself, where that lies behind the row
pub run_fits : (p : ℕ → Bool) (xs : List ℕ) (f : ℕ) → (f + prefix_len p (drop f xs) ≤ length xs) ⊎ (f + prefix_len p (drop f xs) ≡ f)
run_fits p xs f =
    ⊎_elim
    (λ h. inl (inside p xs f (omega arith)))
    (λ h. let l = prefix_len-le-length p (drop f xs) in let d = length-drop f xs in inr (omega arith))
    (cases_lt f (length xs))

-- a row from a place on, as a slice has it
pub rest : (xs : List ℕ) (i : ℕ) → take (length xs - i) (drop i xs) ≡ drop i xs
rest xs i = take_all (length xs - i) (drop i xs) (let d = length-drop i xs in omega arith)

-- the same from a place that may lie behind the row
pub rest_at : (p : ℕ → Bool) (xs : List ℕ) (f i n : ℕ) → i ≡ min f (length xs) → n ≡ prefix_len p (take (length xs - i) (drop i xs)) → n ≡ prefix_len p (drop f xs)
rest_at p xs f i n e h = h ∙ ap (prefix_len p) (rest xs i) ∙ ap (λ i. prefix_len p (drop i xs)) e ∙ ap (prefix_len p) (drop_min f xs)
