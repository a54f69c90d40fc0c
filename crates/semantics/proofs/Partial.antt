-- The walk that stops at the first thing that isn't known: what it comes to.
use mathlib.Core.Path.{◌≡◌, refl, ap, sym, ◌∙◌}
use mathlib.Core.List.{List, [], ◌∷◌, ◌++◌}
use mathlib.Core.Option.{Option, some, none}
use Prim.Native.Nat.{ℕ, zero, suc, ◌≤◌}
use native.Mathlib.Omega.{arith}
use lib.ListN.{length, take}
use Rattle.base.specs.Base.{opt}
use Rattle.grammar.specs.Code.{Op}
use Rattle.semantics.specs.Walk.{State, Query, asks, step, told, run, asked, Fetch, lacks, has, Outcome, need, ends, fetch, go_on, tries, Known, or_lacks, first_lacking, Agrees, next_told, walk, all_told, at_place}

module _ {K : Type 0} (l : Query → Fetch K) (f : Query → Known) (ok : Agrees l f) where
  -- one operation that asks m: h is the walk after it, r what the run after it comes to, qs what that asks
  one_step : (m : Option Query) (h : Known → Outcome K) (r : State) (qs : List Query) → h (told f m) ≡ opt (first_lacking l qs) (ends r) need → go_on (fetch l m) h ≡ opt (first_lacking l (opt m [] (λ q. q ∷ []) ++ qs)) (ends r) need
  one_step none h r qs p = p
  one_step (some q) h r qs p = go (l q) refl
    where
      go : (v : Fetch K) → l q ≡ v → go_on v h ≡ opt (or_lacks v (first_lacking l qs)) (ends r) need
      go (lacks k) e = refl
      go (has s) e = ap h (ok q s e) ∙ p

  -- the whole of it: it stops at the first of what the whole walk asks that isn't known, or ends as that one does
  pub tries_is : (os : List Op) (σ : State) → tries l os σ ≡ opt (first_lacking l (asked f os σ)) (ends (run f os σ)) need
  tries_is [] σ = refl
  tries_is (o ∷ os) σ = one_step (asks o σ) (λ s. tries l os (step s o σ)) (run f os (step (told f (asks o σ)) o σ)) (asked f os (step (told f (asks o σ)) o σ)) (tries_is os (step (told f (asks o σ)) o σ))

  -- it ends: as the whole walk does
  pub ends_right : (os : List Op) (σ τ : State) → tries l os σ ≡ ends τ → τ ≡ run f os σ
  ends_right os σ τ p = go (first_lacking l (asked f os σ)) (sym (tries_is os σ) ∙ p)
    where
      go : (m : Option K) → opt m (ends (run f os σ)) need ≡ ends τ → τ ≡ run f os σ
      go none e = cc
      go (some k) e = cc

  -- it needs something: the first that is lacking of what the whole walk asks
  pub needs_first : (os : List Op) (σ : State) (k : K) → tries l os σ ≡ need k → first_lacking l (asked f os σ) ≡ some k
  needs_first os σ k p = go (first_lacking l (asked f os σ)) (sym (tries_is os σ) ∙ p)
    where
      go : (m : Option K) → opt m (ends (run f os σ)) need ≡ need k → m ≡ some k
      go none e = cc
      go (some r) e = cc

-- the first that isn't known: it isn't, it's among them, and all before it are known
pub record Lacked {K : Type 0} (l : Query → Fetch K) (qs : List Query) (k : K) : Type 0 where
  pub before : List Query
  pub query : Query
  pub later : List Query
  pub split : qs ≡ before ++ (query ∷ later)
  pub lacks1 : l query ≡ lacks k
  pub none_lacks : first_lacking l before ≡ none

pub first_split : {K : Type 0} (l : Query → Fetch K) (qs : List Query) (k : K) → first_lacking l qs ≡ some k → Lacked l qs k
first_split l [] k p = let z : ◌≡◌ {A = ℕ} 0 1 = cc in absurd (omega arith)
first_split {K} l (r ∷ qs) k p = go (l r) refl p (first_split l qs k)
  where
    go : (v : Fetch K) → l r ≡ v → or_lacks v (first_lacking l qs) ≡ some k → (first_lacking l qs ≡ some k → Lacked l qs k) → Lacked l (r ∷ qs) k
    go (lacks j) e h more = record { before = []; query = r; later = qs; split = refl; lacks1 = cc; none_lacks = refl }
    go (has s) e h more = let w = more h in record { before = r ∷ w.before; query = w.query; later = w.later; split = ap (λ x. r ∷ x) w.split; lacks1 = w.lacks1; none_lacks = ap (λ v. or_lacks v (first_lacking l w.before)) e ∙ w.none_lacks }

-- at most one thing is asked for each operation
pub asked_few : (f : Query → Known) (os : List Op) (σ : State) → length (asked f os σ) ≤ length os
asked_few f [] σ = omega arith
asked_few f (o ∷ os) σ = go (asks o σ) (asked f os (step (told f (asks o σ)) o σ)) (asked_few f os (step (told f (asks o σ)) o σ))
  where
    go : (m : Option Query) (qs : List Query) → length qs ≤ length os → length (opt m [] (λ q. q ∷ []) ++ qs) ≤ suc (length os)
    go none qs h = omega arith
    go (some q) qs h = omega arith

-- told the first n answers in order, the walk asks for the next, or ends if there is none
walk_step : (f : Query → Known) (m : Option Query) (n : ℕ) (h : Known → List Known → Outcome Query) (r : State) (qs : List Query) → ((i : ℕ) → h (told f m) (take i (all_told f qs)) ≡ opt (at_place i qs) (ends r) need) → next_told (take n (all_told f (opt m [] (λ q. q ∷ []) ++ qs))) m h ≡ opt (at_place n (opt m [] (λ q. q ∷ []) ++ qs)) (ends r) need
walk_step f none n h r qs p = p n
walk_step f (some q) zero h r qs p = refl
walk_step f (some q) (suc n) h r qs p = p n

pub walk_is : (f : Query → Known) (os : List Op) (n : ℕ) (σ : State) → walk os (take n (all_told f (asked f os σ))) σ ≡ opt (at_place n (asked f os σ)) (ends (run f os σ)) need
walk_is f [] n σ = refl
walk_is f (o ∷ os) n σ = walk_step f (asks o σ) n (λ z bs. walk os bs (step z o σ)) (run f os (step (told f (asks o σ)) o σ)) (asked f os (step (told f (asks o σ)) o σ)) (λ i. walk_is f os i (step (told f (asks o σ)) o σ))
