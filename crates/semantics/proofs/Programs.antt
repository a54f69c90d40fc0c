-- Programs that ask: a rule of an engine as one. Told the answers in the order in which it asks, a program asks for the next or ends;
-- the walk over a line's code as a program, each thing that it asks being a program of its own over the engine's keys.
use mathlib.Core.Path.{◌≡◌, refl, ap, ◌∙◌}
use mathlib.Core.Bool.{false}
use mathlib.Core.List.{List, [], ◌∷◌, ◌++◌}
use mathlib.Core.Option.{Option, some, none}
use Prim.Native.Nat.{ℕ, zero, suc, ◌*◌, ◌≤◌}
use native.Mathlib.Omega.{arith}
use lib.ListN.{length, take, length-append}
use Rattle.base.specs.Base.{opt}
use Rattle.grammar.specs.Code.{Op}
use Rattle.semantics.specs.Walk.{State, Query, asks, step, told, run, Known, k_yes, at_place}

pub data Prog (K V A : Type 0) : Type 0 where
  ret : A → Prog K V A
  ask : K → (V → Prog K V A) → Prog K V A

pub data Told (K A : Type 0) : Type 0 where
  wants_next : K → Told K A
  is_done : A → Told K A

module _ {K V : Type 0} where
  abbrev pub bind : {A C : Type 0} → Prog K V A → (A → Prog K V C) → Prog K V C
  bind (ret a) g = g a
  bind (ask k h) g = ask k (λ v. bind (h v) g)

  abbrev pub total : {A : Type 0} → (K → V) → Prog K V A → A
  total f (ret a) = a
  total f (ask k h) = total f (h (f k))

  abbrev pub keys : {A : Type 0} → (K → V) → Prog K V A → List K
  keys f (ret a) = []
  keys f (ask k h) = k ∷ keys f (h (f k))

  abbrev pub each : (K → V) → List K → List V
  each f [] = []
  each f (k ∷ ks) = f k ∷ each f ks

  abbrev pub goes : {A : Type 0} → Prog K V A → List V → Told K A
  goes (ret a) vs = is_done a
  goes (ask k h) [] = wants_next k
  goes (ask k h) (v ∷ vs) = goes (h v) vs

  -- told the first n answers
  pub goes_is : {A : Type 0} (f : K → V) (p : Prog K V A) (n : ℕ) → goes p (take n (each f (keys f p))) ≡ opt (at_place n (keys f p)) (is_done (total f p)) wants_next
  goes_is f (ret a) n = refl
  goes_is f (ask k h) zero = refl
  goes_is f (ask k h) (suc n) = goes_is f (h (f k)) n

  pub total_bind : {A C : Type 0} (f : K → V) (p : Prog K V A) (g : A → Prog K V C) → total f (bind p g) ≡ total f (g (total f p))
  total_bind f (ret a) g = refl
  total_bind f (ask k h) g = total_bind f (h (f k)) g

  pub keys_bind : {A C : Type 0} (f : K → V) (p : Prog K V A) (g : A → Prog K V C) → keys f (bind p g) ≡ keys f p ++ keys f (g (total f p))
  keys_bind f (ret a) g = refl
  keys_bind f (ask k h) g = ap (λ ks. k ∷ ks) (keys_bind f (h (f k)) g)

  -- the walk over code; sub says how each thing is asked for
  abbrev pub asking : (Query → Prog K V Known) → Option Query → Prog K V Known
  asking sub none = ret (k_yes false)
  asking sub (some q) = sub q

  abbrev pub program : (Query → Prog K V Known) → List Op → State → Prog K V State
  program sub [] σ = ret σ
  program sub (o ∷ os) σ = bind (asking sub (asks o σ)) (λ z. program sub os (step z o σ))

  asking_told : (f : K → V) (sub : Query → Prog K V Known) (m : Option Query) → total f (asking sub m) ≡ told (λ q. total f (sub q)) m
  asking_told f sub none = refl
  asking_told f sub (some q) = refl

  pub program_is : (f : K → V) (sub : Query → Prog K V Known) (os : List Op) (σ : State) → total f (program sub os σ) ≡ run (λ q. total f (sub q)) os σ
  program_is f sub [] σ = refl
  program_is f sub (o ∷ os) σ = total_bind f (asking sub (asks o σ)) (λ z. program sub os (step z o σ)) ∙ ap (λ z. total f (program sub os (step z o σ))) (asking_told f sub (asks o σ)) ∙ program_is f sub os (step (told (λ q. total f (sub q)) (asks o σ)) o σ)

  -- each thing takes c keys at most: the line takes c for each operation
  pub program_few : (f : K → V) (sub : Query → Prog K V Known) (c : ℕ) → ((q : Query) → length (keys f (sub q)) ≤ c) → (os : List Op) (σ : State) → length (keys f (program sub os σ)) ≤ length os * c
  program_few f sub c h [] σ = omega arith
  program_few f sub c h (o ∷ os) σ = go (asks o σ) (program_few f sub c h os (step (total f (asking sub (asks o σ))) o σ))
    where
      few_asking : (m : Option Query) → length (keys f (asking sub m)) ≤ c
      few_asking none = omega arith
      few_asking (some q) = h q

      go : (m : Option Query) → length (keys f (program sub os (step (total f (asking sub (asks o σ))) o σ))) ≤ length os * c → length (keys f (program sub (o ∷ os) σ)) ≤ suc (length os) * c
      go m p = omega (arith, ap length (keys_bind f (asking sub (asks o σ)) (λ z. program sub os (step z o σ))), length-append (keys f (asking sub (asks o σ))) (keys f (program sub os (step (total f (asking sub (asks o σ))) o σ))), few_asking (asks o σ))
