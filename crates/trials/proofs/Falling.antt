-- The small rules' questions go down and end.
use Rattle.std.proofs.Common.{◌≡◌, ℕ, zero, suc, ◌+◌, ◌%◌, ◌<◌, Bool, true, false, eqb, ltb, leb, List, [], ◌∷◌, length, refl, subst, arith, le→leb}
use Rattle.std.proofs.lemmas.Bool.{eqb-true, ltb-true}
use Rattle.base.specs.Base.{pick}
use Rattle.engine.specs.declared.key.Key.{Key}
use Rattle.engine.specs.Engine.{ask, done}
use Rattle.engine.specs.Says.{row}
use Rattle.engine.specs.Theorems.{Falls}
use Rattle.trials.specs.Small.{key, got_at, sum, below, step, rank_of, most_of, small}

-- what is asked is what was to be asked
asked_is : (k q : Key) (m a n : ℕ) → ask k ≡ ask q → rank_of k.kind k.a < rank_of m a → n < most_of m a → (rank_of q.kind q.a < rank_of m a) × (n < most_of m a)
asked_is k q m a n e r l = let z : k ≡ q = cc in (subst (λ (x : Key). rank_of x.kind x.a < rank_of m a) z r, l)

not_done : {A : Type 0} (v : ℕ) (q : Key) → done (v ∷ []) ≡ ask q → A
not_done v q e = absurd (let z : ◌≡◌ {A = ℕ} 0 1 = cc in omega arith)

below_less : (l s a : ℕ) → l ≡ a % 64 → rank_of (below l s).kind (below l s).a < 2 + a % 64
below_less zero s a e = omega arith
below_less (suc l) s a e = let z : l % 64 ≡ l = small1 l (omega arith) in omega arith
  where
    small1 : (l : ℕ) → l < 64 → l % 64 ≡ l
    small1 l h = omega arith

falls_step : (m a b n : ℕ) (ws : List ℕ) (q : Key) → step m a b n ws ≡ ask q → (rank_of q.kind q.a < rank_of m a) × (n < most_of m a)
falls_step zero a b n ws q e = not_done 0 q e
falls_step (suc zero) a b n ws q e = go (eqb n 0) refl e
  where
    go : (t : Bool) → eqb n 0 ≡ t → pick t (ask (key 0 a 0)) (done (pick (eqb b 0) (pick (leb 10 (got_at ws 0)) 1 0) (got_at ws 0) ∷ [])) ≡ ask q → (rank_of q.kind q.a < 1) × (n < 1)
    go true p f = let z = eqb-true n 0 p in asked_is (key 0 a 0) q 1 a n f (omega arith) (omega (arith, z))
    go false p f = not_done (pick (eqb b 0) (pick (leb 10 (got_at ws 0)) 1 0) (got_at ws 0)) q f
falls_step (suc (suc zero)) a b n ws q e = go (ltb n a) refl e
  where
    go : (t : Bool) → ltb n a ≡ t → pick t (ask (key 1 n 0)) (done (sum n ws ∷ [])) ≡ ask q → (rank_of q.kind q.a < 2) × (n < a)
    go true p f = let z = ltb-true n a p in asked_is (key 1 n 0) q 2 a n f (omega arith) z
    go false p f = not_done (sum n ws) q f
falls_step (suc (suc (suc zero))) a b n ws q e = go (ltb n 2) refl e
  where
    go : (t : Bool) → ltb n 2 ≡ t → pick t (ask (below (a % 64) n)) (done ((sum n ws + b) % 65536 ∷ [])) ≡ ask q → (rank_of q.kind q.a < 2 + a % 64) × (n < 2)
    go true p f = let z = ltb-true n 2 p in asked_is (below (a % 64) n) q 3 a n f (below_less (a % 64) n a refl) z
    go false p f = not_done ((sum n ws + b) % 65536) q f
falls_step (suc (suc (suc (suc zero)))) a b n ws q e = go (eqb n 0) refl (eqb n 1) refl e
  where
    go : (t : Bool) → eqb n 0 ≡ t → (u : Bool) → eqb n 1 ≡ u → pick t (ask (key 1 0 1)) (pick u (ask (key 1 (pick (eqb (got_at ws 0) 0) 1 2) 1)) (done (got_at ws 1 ∷ []))) ≡ ask q → (rank_of q.kind q.a < 2) × (n < 2)
    go true p u v f = let z = eqb-true n 0 p in asked_is (key 1 0 1) q 4 a n f (omega arith) (omega (arith, z))
    go false p true v f = let z = eqb-true n 1 v in asked_is (key 1 (pick (eqb (got_at ws 0) 0) 1 2) 1) q 4 a n f (omega arith) (omega (arith, z))
    go false p false v f = not_done (got_at ws 1) q f
falls_step (suc (suc (suc (suc (suc m))))) a b n ws q e = not_done 0 q e

pub small_falls : Falls small
small_falls = record { lower = λ k q as₁ e. let x = falls_step k.kind k.a k.b (length as₁) (row as₁) q e in let r = x.0 in let l = x.1 in (le→leb _ _ (omega (arith, r)), le→leb _ _ (omega (arith, l))) }
