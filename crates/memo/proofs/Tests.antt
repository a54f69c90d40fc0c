-- The test memo_fits says what Fits says, both ways (fits_to, fits_from), and memo_ready that the buckets are few besides (ready_to,
-- ready_from).
use Rattle.std.proofs.Common.{◌≡◌, ℕ, zero, suc, ◌*◌, ◌≤◌, true, List, [], ◌∷◌, length, get_or, sym, refl, subst}
use Rattle.std.proofs.lemmas.Bool.{and_parts, and_from, eqb-true, eq-eqb, leb-true, le-leb, false≢true}
use Rattle.base.specs.Base.{same}
use Rattle.memo.specs.Record.{older}
use Rattle.memo.specs.Log.{heads, One, Logged, Fits, log}
use Rattle.memo.specs.Whether.{one_fits, log_fits, memo_fits, memo_ready}

pub same_eq : (xs ys : List ℕ) → same xs ys ≡ true → xs ≡ ys
same_eq [] [] h = refl
same_eq [] (y ∷ ys) h = absurd (false≢true h)
same_eq (x ∷ xs) [] h = absurd (false≢true h)
same_eq (x ∷ xs) (y ∷ ys) h = let p = and_parts _ _ h in let e = eqb-true x y p.0 in let r = same_eq xs ys p.1 in λ i. e i ∷ r i

pub same_refl : (xs : List ℕ) → same xs xs ≡ true
same_refl [] = refl
same_refl (x ∷ xs) = and_from _ _ (eq-eqb x x refl) (same_refl xs)

one_to : (b n : ℕ) (ws : List ℕ) → one_fits b n ws ≡ true → One b n ws
one_to b n ws h = let p = and_parts _ _ h in let q = and_parts _ _ p.1 in record { inside = leb-true _ _ p.0; row1 = eqb-true _ _ q.0; prev = eqb-true _ _ q.1 }

one_from : (b n : ℕ) (ws : List ℕ) → One b n ws → one_fits b n ws ≡ true
one_from b n ws o = and_from _ _ (le-leb _ _ o.inside) (and_from _ _ (eq-eqb _ _ o.row1) (eq-eqb _ _ o.prev))

log_to : (b n : ℕ) (ws : List ℕ) → log_fits b n ws ≡ true → Logged b n ws
log_to b zero ws h = eqb-true _ _ h
log_to b (suc n) ws h = let p = and_parts _ _ h in (one_to b n ws p.0, log_to b n (older ws) p.1)

log_from : (b n : ℕ) (ws : List ℕ) → Logged b n ws → log_fits b n ws ≡ true
log_from b zero ws h = eq-eqb _ _ h
log_from b (suc n) ws h = and_from _ _ (one_from b n ws h.0) (log_from b n (older ws) h.1)

pub fits_to : (ws : List ℕ) → memo_fits ws ≡ true → Fits ws
unfolding memo_fits
fits_to ws h =
    let p = and_parts _ _ h in
    let q = and_parts _ _ p.1 in
    let r = and_parts _ _ q.1 in
    record { buckets = leb-true _ _ p.0; room = leb-true _ _ q.0; index = same_eq _ _ r.0; logged = log_to (get_or ws 2 0) (get_or ws 1 0) (log ws) r.1 }

pub fits_from : (ws : List ℕ) → Fits ws → memo_fits ws ≡ true
unfolding memo_fits
fits_from ws f =
    and_from _ _ (le-leb _ _ f.buckets) (and_from _ _ (le-leb _ _ f.room) (and_from _ _ (subst (λ q. same q (heads (get_or ws 2 0) (get_or ws 1 0) (log ws)) ≡ true) (sym f.index) (same_refl (heads (get_or ws 2 0) (get_or ws 1 0) (log ws)))) (log_from (get_or ws 2 0) (get_or ws 1 0) (log ws) f.logged)))

pub ready_to : (ws : List ℕ) → memo_ready ws ≡ true → (4 * get_or ws 2 0 ≤ length ws) × Fits ws
unfolding memo_ready
ready_to ws h = let p = and_parts _ _ h in (leb-true _ _ p.0, fits_to ws p.1)

pub ready_from : (ws : List ℕ) → 4 * get_or ws 2 0 ≤ length ws → Fits ws → memo_ready ws ≡ true
unfolding memo_ready
ready_from ws h f = and_from _ _ (le-leb _ _ h) (fits_from ws f)
