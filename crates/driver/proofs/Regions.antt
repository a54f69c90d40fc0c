-- The memo as a region of the row, and what a caller is promised of it: an input handed on, or what the loop over turns says.
use Rattle.std.proofs.Common.{◌≡◌, ℕ, suc, ◌+◌, ◌*◌, ◌<◌, ◌≤◌, true, ◌⊎◌, List, length, get_or, take, Some, None, Option as Perhaps, sym, ap, subst, inl, inr, arith, le→leb}
use Rattle.engine.specs.declared.key.Key.{Key}
use Rattle.engine.specs.Engine.{Rules, Inputs, Entry, Brought, brought, bring}
use Rattle.engine.specs.Says.{InputSays, kept, signs_entries, BringSays}
use Rattle.engine.specs.Theorems.{Falls, Honest}
use Rattle.engine.proofs.Promises.{up_to_date}
use Rattle.engine.proofs.Basics.{pick_true}
use Rattle.memo.specs.Record.{entries_long}
use Rattle.memo.specs.Log.{Fits, kept_entries, spare, capacity}
use Rattle.std.specs.Prelude.{Result, Ok, Err}
use Rattle.std.specs.Result.{result_ok}
use Rattle.memo.specs.declared.log.NoRoom.{NoRoom}
use Rattle.memo.proofs.Rows.{signs_enough}
use Rattle.driver.specs.Bringing.{brings, RunSays, TidySays}

module _ (b : Rules) (i : Inputs) (k : Key) (es fs : List Entry) (c d w x : ℕ) (o o1 : List ℕ) where
  -- an input
  pub input_says : b.input k ≡ true → (r : Perhaps ℕ) → InputSays (i k) o o1 r → fs ≡ es → d ≡ c → BringSays b i k es fs c d w x o o1 r
  input_says p r s ef ed = subst (λ (z : Brought). Says z r) (sym is) (go r s)
    where
      is : bring b i (suc (b.rank k)) (kept es) k ≡ brought (kept es) (i k)
      is = pick_true _ _ p

      Says : Brought → Perhaps ℕ → Type 0
      Says z (Some n) = (n ≡ length z.ans) × (take n o1 ≡ z.ans) × (fs ≡ z.kept.entries) × (d ≡ c + z.kept.goes)
      Says z None = (fs ≡ es) × ((length o < length z.ans) ⊎ (w < 4096 + 4 * (signs_entries es + signs_entries z.kept.entries)) ⊎ (x < 65536 + 512 * (signs_entries es + signs_entries z.kept.entries)))

      go : (r : Perhaps ℕ) → InputSays (i k) o o1 r → Says (brought (kept es) (i k)) r
      go (Some n) s = (s.0, s.1, ef, omega (arith, ed))
      go None s = (ef, inl s)

  -- the memo couldn't be made ready
  pub tidy_says : fs ≡ es → x < entries_long es → BringSays b i k es fs c d w x o o1 None
  tidy_says e h = let a = signs_enough es in (e, inr (inr (omega (arith, a, h))))

  -- the loop over turns, from a memo ws that was made ready and is vs then
  pub run_says : (ws vs : List ℕ) (n : ℕ) → Fits ws → 4 * get_or ws 2 0 ≤ length ws → es ≡ kept_entries ws → w ≡ length ws → TidySays ws vs n (Ok tt) → (r : Result ℕ NoRoom) → RunSays b i k es fs c d (spare vs) x o1 r → BringSays b i k es fs c d w x o o1 (result_ok r)
  unfolding brings capacity
  run_says ws vs n f few ee ew t (Ok m) s = s
  run_says ws vs n f few ee ew t (Err er) s = (s.0, elim s.1 [ inl p ↦ inr (inl (small t.1 p)) | inr p ↦ inr (inr p) ])
    where
      small : (capacity ws ≤ spare vs + spare vs) ⊎ (spare vs + entries_long (kept_entries ws) ≡ capacity ws) → spare vs < signs_entries (brings b i k es).kept.entries → w < 4096 + 4 * (signs_entries es + signs_entries (brings b i k es).kept.entries)
      small (inl q) p = let g = few in let r = f.room in omega (arith, g, r, q, p, ew)
      small (inr q) p = let g = few in let r = f.room in let l = signs_enough es in let z = ap entries_long ee in omega (arith, g, r, q, p, ew, l, z)

-- what the loop says, of equal things
pub run_moved : (b : Rules) (i1 i : Inputs) (k : Key) (es1 es fs1 fs : List Entry) (c d s x1 x : ℕ) (o : List ℕ) (r : Result ℕ NoRoom) → i1 ≡ i → es1 ≡ es → fs1 ≡ fs → x1 ≡ x → RunSays b i1 k es1 fs1 c d s x1 o r → RunSays b i k es fs c d s x o r
run_moved b i1 i k es1 es fs1 fs c d s x1 x o r ei ee ef ex h =
    subst (λ z. RunSays b i k es fs c d s z o r) ex (subst (λ z. RunSays b i k es z c d s x1 o r) ef (subst (λ z. RunSays b i k z fs1 c d s x1 o r) ee (subst (λ z. RunSays b z k es1 fs1 c d s x1 o r) ei h)))

-- what is kept stays honest, whatever came of it
pub still_honest : (b : Rules) (i : Inputs) (k : Key) (es fs : List Entry) (c d w x : ℕ) (o o1 : List ℕ) (r : Perhaps ℕ) → BringSays b i k es fs c d w x o o1 r → Falls b → Honest b (kept es) → Honest b (kept fs)
still_honest b i k es fs c d w x o o1 (Some n) s fall h = subst (λ es. Honest b (kept es)) (sym s.2) (record { holds = (up_to_date b i (suc (b.rank k)) (kept es) k fall (le→leb (suc (b.rank k)) (suc (b.rank k)) (omega arith)) h).1.holds })
still_honest b i k es fs c d w x o o1 None s fall h = subst (λ es. Honest b (kept es)) (sym s.0) h
