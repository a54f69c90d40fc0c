-- LinksMean.
use Rattle.semantics.proofs.Stands.{links_mean}
use Rattle.semantics.proofs.theorems.links_mean.Goals as goal

pub returns : goal.returns
returns c = links_mean
