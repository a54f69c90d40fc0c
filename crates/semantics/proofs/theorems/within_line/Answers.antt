-- WithinLine.
use Rattle.semantics.proofs.Stands.{within_line}
use Rattle.semantics.proofs.theorems.within_line.Goals as goal

pub returns : goal.returns
returns c = within_line
