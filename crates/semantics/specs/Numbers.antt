-- The numbers that stand for sorts of declarations and for faults, in words and in answers.
use Rattle.std.specs.Prelude.{◌≡◌, ℕ, ◌<◌, Option, Some, None}
use Rattle.semantics.specs.declared.sort.Sort.{Sort}
use Rattle.semantics.specs.declared.sort.Sort.TheVariants.{Kind, Constant, Record, Def}
use Rattle.semantics.specs.declared.fault.Fault.{Fault}
use Rattle.semantics.specs.declared.fault.Fault.TheVariants.{NotUnderstood, Unknown, Several, DeclaredBefore, OtherType, OtherCount, NoField, Misplaced, NoFile}

abbrev pub sort_number : Sort → ℕ
sort_number Kind = 0
sort_number Constant = 1
sort_number Record = 2
sort_number Def = 3

abbrev pub fault_number : Fault → ℕ
fault_number NotUnderstood = 1
fault_number Unknown = 2
fault_number Several = 3
fault_number DeclaredBefore = 4
fault_number OtherType = 5
fault_number OtherCount = 6
fault_number NoField = 7
fault_number Misplaced = 8
fault_number NoFile = 9

-- a number is that of this sort; or of none, and then it is above all of them
abbrev pub SortSays : ℕ → Option Sort → Type 0
SortSays n (Some s) = n ≡ sort_number s
SortSays n None = 3 < n

-- a number is that of this fault; or of none, and then it is 0 or above all of them
abbrev pub FaultSays : ℕ → Option Fault → Type 0
FaultSays n (Some f) = n ≡ fault_number f
FaultSays n None = (f : Fault) → n ≡ fault_number f → ⊥
