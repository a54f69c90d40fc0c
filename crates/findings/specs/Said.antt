-- What was said of a line, read from its words: n things from a place on, four words each (a tag, from, behind, a number).
use Rattle.std.specs.Prelude.{◌≡◌, ℕ, zero, suc, ◌+◌, ◌*◌, List, [], ◌∷◌, ◌++◌, Some, None, Option as Perhaps, ◌==◌, slice_index}
use Rattle.base.specs.Base.{pick}
use Rattle.semantics.specs.Check.{Fault, fault}
use Rattle.findings.specs.declared.faults.FaultAt.{FaultAt}

-- a fault, if the tag says so
abbrev pub fault_of : ℕ → ℕ → ℕ → ℕ → List Fault
fault_of t a b x = pick (t == 0) (fault a b x ∷ []) []

abbrev pub fault_in : List ℕ → ℕ → List Fault
fault_in vs i = fault_of (slice_index vs i) (slice_index vs (i + 1)) (slice_index vs (i + 2)) (slice_index vs (i + 3))

-- the faults among n things
abbrev pub faults_read : List ℕ → ℕ → ℕ → List Fault
faults_read vs at1 zero = []
faults_read vs at1 (suc n) = faults_read vs at1 n ++ fault_in vs (at1 + 4 * n)

abbrev pub FaultSays : List Fault → Perhaps FaultAt → Type 0
FaultSays fs (Some x) = fs ≡ fault x.span.from x.span.to x.number ∷ []
FaultSays fs None = fs ≡ []
