-- The first of one is the one.
use Rattle.std.proofs.Common.{◌≡◌, ℕ, zero, suc, ◌≤◌, false, eqb, List, [], ◌∷◌, length, sym, refl, subst, ne_eqb, arith}
use Rattle.std.specs.Bool.{then_some}
use Rattle.semantics.specs.Names.{Decl}
use Rattle.declarations.specs.declared.declare.Declaration.{Declaration}
use Rattle.declarations.specs.Declares.{DeclSays, AtSays}
use Rattle.declarations.proofs.declare.only.Goals as goal

first_alone : (line : List ℕ) (x : Decl) (i : ℕ) (d : Declaration) → DeclSays line x d → AtSays line (x ∷ []) i (then_some (eqb i 0) d)
first_alone line x zero d h = (x, refl, h)
first_alone line x (suc i) d h =
    let no : eqb (suc i) 0 ≡ false = ne_eqb (suc i) 0 (λ e. omega arith) in
    let past : length (x ∷ []) ≤ suc i = omega arith in
    subst (λ b. AtSays line (x ∷ []) (suc i) (then_some b d)) (sym no) past

pub returns : goal.returns
returns c = λ line fs a b. rw c.then_some.ensures (first_alone line _ c.args.i c.args.d (fs, refl, a, b))
