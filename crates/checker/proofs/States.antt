-- States: what is said behind what was said.
use Rattle.std.proofs.Common.{◌≡◌, ℕ, List, [], ◌∷◌, ◌++◌, refl, ap, append_assoc, append-nil}
use mathlib.Core.Option.{Option, some, none}
use Rattle.base.specs.Base.{opt}
use Rattle.lexer.specs.Kinds.{operator}
use Rattle.lexer.specs.declared.token.Operator.{Operator}
use Rattle.lexer.specs.declared.token.Operator.TheVariants.{Plus, Minus, Times, Equal, Less, And, Or}
use Rattle.semantics.specs.Names.{Ty}
use Rattle.semantics.specs.Check.{said, Fault, Typed, Link, typed, wants, of_slot}
use Rattle.semantics.specs.Walk.{Frame as Fr, Output, State, state, value, says, tells, op_faults_at}
use Rattle.checker.specs.Rows.{Book, typ, with_said, valued}
use Rattle.checker.specs.Turns.{operand_word}

pub output : (f g : List Fault) (t u : List Typed) (l m : List Link) → f ≡ g → t ≡ u → l ≡ m → ◌≡◌ {A = Output} (record { faults = f; types = t; links = l }) (record { faults = g; types = u; links = m })
output f g t u l m p q r = λ i. record { faults = p i; types = q i; links = r i }

-- faults behind faults; and what is said of a value before its type is noted
pub tells_tells : (x y : List Fault) (σ : State) → with_said (tells y) (with_said (tells x) σ) ≡ with_said (tells (x ++ y)) σ
tells_tells x y σ = ap (state σ.stack σ.bound) (output _ _ _ _ _ _ (append_assoc σ.out.faults x y) (append-nil (σ.out.types ++ [])) (append-nil (σ.out.links ++ [])))

pub said_valued : (a b : ℕ) (o u : Option Ty) (fs : List Fault) (ls : List Link) (σ : State) → valued a b o (with_said (said u fs [] ls) σ) ≡ says a b (typed a b (said o fs [] ls)) σ.stack σ.bound σ.out
said_valued a b o u fs ls σ = ap (state (value o a b ∷ σ.stack) σ.bound) (output _ _ _ _ _ _ (append-nil (σ.out.faults ++ fs)) (ap (λ x. x ++ opt o [] (λ t. record { from = a; to = b; ty = t } ∷ [])) (append-nil σ.out.types)) (append-nil (σ.out.links ++ ls)))

pub slot_opt : (o : Option Ty) (a b : ℕ) (u : Option Ty) → of_slot o a b u ≡ opt o [] (λ v. wants v a b u)
slot_opt none a b u = refl
slot_opt (some t) a b u = refl

pub operands_are : (k : Book) (o : Operator) (a b : Fr) → (o ≡ Equal → ⊥) → of_slot (typ k (operand_word (operator o))) a.from a.to a.ty ++ of_slot (typ k (operand_word (operator o))) b.from b.to b.ty ≡ op_faults_at (operator o) a b
operands_are k Plus a b n = refl
operands_are k Minus a b n = refl
operands_are k Times a b n = refl
operands_are k Equal a b n = absurd (n refl)
operands_are k Less a b n = refl
operands_are k And a b n = refl
operands_are k Or a b n = refl
