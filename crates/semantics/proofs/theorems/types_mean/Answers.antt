-- TypesMean.
use Rattle.semantics.proofs.Blame.{types_mean}
use Rattle.semantics.proofs.theorems.types_mean.Goals as goal

pub returns : goal.returns
returns c = types_mean
