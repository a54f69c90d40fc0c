-- FaultNumbers.
use Rattle.semantics.proofs.Numbers.{fault_numbers}
use Rattle.semantics.proofs.theorems.fault_numbers.Goals as goal

pub returns : goal.returns
returns c = fault_numbers
