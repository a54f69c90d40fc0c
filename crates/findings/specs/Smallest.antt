-- The smallest expression around a place whose type was noted, in words.
use Rattle.std.specs.Prelude.{◌≡◌, ℕ, ◌-◌, ◌≤◌, List, [], ◌∷◌, ◌++◌, Some, None, Option as Perhaps, nat_lt}
use Rattle.std.proofs.Math.Option.{Option, some, none}
use Rattle.base.specs.Base.{pick, on_some}
use Rattle.semantics.specs.Check.{Typed, types_in}
use Rattle.semantics.specs.Answers.{smallest}
use Rattle.checker.specs.Rows.{Book, typ, event_is, said_in}
use Rattle.checker.specs.declared.said.Event.{Event}
use Rattle.findings.specs.declared.types.Noted.{Noted}

-- what a type's words stand for; nothing, where the word is that of no type
abbrev pub noted_is : Book → Perhaps Noted → Option Typed
noted_is k None = none
noted_is k (Some b) = on_some (typ k b.ty.0) (λ t. some (record { from = b.span.from; to = b.span.to; ty = t }))

-- it has a type
abbrev pub HasType : Perhaps Noted → Type 0
HasType None = Unit {0}
HasType (Some b) = 1 ≤ b.ty.0

-- the smaller of two, the older one where they are equally small
abbrev pub less : Noted → Perhaps Noted → Noted
less x None = x
less x (Some b) = pick (nat_lt (x.span.to - x.span.from) (b.span.to - b.span.from)) x b

-- of n things said: the definition's smallest expression around a place, whatever a lookup's numbers mean
abbrev pub IsSmallest : List ℕ → ℕ → ℕ → ℕ → Perhaps Noted → Type 0
IsSmallest vs at1 n place r = (k : Book) (line : List ℕ) → smallest place (said_in k line at1 n vs).types none ≡ noted_is k r

-- the types noted by things said
abbrev pub types_of : Book → List ℕ → List Event → List Typed
types_of k line [] = []
types_of k line (e ∷ es) = types_in (event_is k line e) ++ types_of k line es

-- with the best so far, it is that of those that are left
pub record Closing (vs : List ℕ) (at1 n place : ℕ) (es : List Event) (best : Perhaps Noted) : Type 0 where
  pub typed : HasType best
  pub left : (k : Book) (line : List ℕ) → smallest place (said_in k line at1 n vs).types none ≡ smallest place (types_of k line es) (noted_is k best)
