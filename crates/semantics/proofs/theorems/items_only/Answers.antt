-- ItemsOnly.
use Rattle.semantics.proofs.Once.{items_only}
use Rattle.semantics.proofs.theorems.items_only.Goals as goal

pub returns : goal.returns
returns c = items_only
