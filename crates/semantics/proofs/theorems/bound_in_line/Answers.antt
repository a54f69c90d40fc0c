-- BoundInLine.
use Rattle.semantics.proofs.Stands.{bound_in_line}
use Rattle.semantics.proofs.theorems.bound_in_line.Goals as goal

pub returns : goal.returns
returns c = bound_in_line
