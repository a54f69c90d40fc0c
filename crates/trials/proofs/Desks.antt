-- The desk: made ready, with a cell written, and after a key was asked.
use Rattle.std.proofs.Common.{◌≡◌, ℕ, zero, suc, ◌+◌, ◌<◌, ◌≤◌, true, List, [], ◌∷◌, ◌++◌, length, get_or, take, drop, set, sym, refl, ap, ◌∙◌, subst, arith, le→leb}
use lib.Seq.{take-set-lt}
use borrow.Rule.Slice.PartMut.{put_mid}
use Rattle.std.proofs.lemmas.List.{drop-set-lt, drop_all, drop_at, get_or-take, get_or-drop}
use Rattle.engine.specs.declared.key.Key.{Key}
use Rattle.engine.specs.Engine.{bring}
use Rattle.engine.specs.Says.{kept}
use Rattle.engine.specs.Theorems.{Honest}
use Rattle.engine.proofs.Promises.{up_to_date, nothing_honest}
use Rattle.memo.specs.Log.{kept_entries}
use Rattle.memo.specs.Whether.{memo_ready}
use Rattle.driver.proofs.Lent.{lent_memo, region}
use Rattle.trials.specs.Small.{small, cells}
use Rattle.trials.specs.Desk.{memo_of, entries_of, Ready, answer_of, goes_of}
use Rattle.trials.proofs.Falling.{small_falls}

pub cleared : (ws v : List ℕ) → 8208 ≤ length ws → length ws < 4294967296 → length v ≡ 8192 → kept_entries v ≡ [] → memo_ready v ≡ true → Ready (put_mid 16 8192 ws v)
cleared ws v h s l c m =
    let x = lent_memo 16 8208 ws v l (omega arith) h in
    let e : memo_of (put_mid 16 8192 ws v) ≡ v = region 16 8208 (put_mid 16 8192 ws v) (omega arith) ∙ x.memo1 in
    let n = x.long in
    record {
      long = omega (arith, n, h);
      small1 = omega (arith, n, s);
      fit = ap memo_ready e ∙ m;
      honest = subst (λ es. Honest small (kept es)) (sym (ap kept_entries e ∙ c)) (nothing_honest small);
    }

pub cells_set : (ws v : List ℕ) → length v ≡ 16 → memo_of (v ++ drop 16 ws) ≡ memo_of ws
cells_set ws v l = region 16 8208 (v ++ drop 16 ws) (omega arith) ∙ ap (take 8192) (drop_at v (drop 16 ws) 16 l) ∙ sym (region 16 8208 ws (omega arith))

pub cell_set : (ws : List ℕ) (a v : ℕ) → a < 16 → memo_of (set ws a v) ≡ memo_of ws
cell_set ws a v h = ap (drop 16) (take-set-lt 8208 ws a v (omega arith)) ∙ drop-set-lt 16 (take 8208 ws) a v (omega arith)

pub still_ready : (ws vs : List ℕ) → memo_of vs ≡ memo_of ws → length vs ≡ length ws → Ready ws → Ready vs
still_ready ws vs e l r =
    let a = r.long in
    let b = r.small1 in
    record { long = omega (arith, l, a); small1 = omega (arith, l, b); fit = ap memo_ready e ∙ r.fit; honest = subst (λ q. Honest small (kept (kept_entries q))) (sym e) r.honest }

-- the answer is what the key is worth
pub answered : (ws : List ℕ) (k : Key) → Ready ws → ((bring small (cells (take 16 ws)) (suc (small.rank k)) (kept (entries_of ws)) k).ans ≡ answer_of ws k) × ((bring small (cells (take 16 ws)) (suc (small.rank k)) (kept (entries_of ws)) k).kept.goes ≡ goes_of ws k)
unfolding answer_of goes_of
answered ws k r = ((up_to_date small (cells (take 16 ws)) (suc (small.rank k)) (kept (entries_of ws)) k small_falls (le→leb (suc (small.rank k)) (suc (small.rank k)) (omega arith)) r.honest).0, refl)

pub no_first : (n : ℕ) (ws : List ℕ) → n ≡ 0 → 0 ≡ get_or (take n ws) 0 0
no_first n ws e = sym (ap (λ m. get_or (take m ws) 0 0) e ∙ none ws)
  where
    none : (ws : List ℕ) → get_or (take 0 ws) 0 0 ≡ 0
    none [] = refl
    none (w ∷ ws) = refl

pub no_work : (n : ℕ) (ws : List ℕ) → length ws ≤ 8208 → 0 ≡ get_or (take n (drop 8208 ws)) 0 0
no_work n ws h = sym (ap (λ q. get_or (take n q) 0 0) (drop_all 8208 ws h) ∙ none n)
  where
    none : (n : ℕ) → ◌≡◌ {A = ℕ} (get_or (take n []) 0 0) 0
    none zero = refl
    none (suc n) = refl

pub a_first : (n : ℕ) (ws : List ℕ) → (n ≡ 0 → ⊥) → get_or ws 8208 0 ≡ get_or (take n (drop 8208 ws)) 0 0
a_first n ws h = let z : 8208 + 0 ≡ 8208 = refl in sym (get_or-take n (drop 8208 ws) 0 0 (omega arith) ∙ get_or-drop 8208 ws 0 0 ∙ ap (λ j. get_or ws j 0) z)
