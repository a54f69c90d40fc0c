use Rattle.resolver.proofs.Means.{plain_agrees}
use Rattle.resolver.proofs.theorems.plain_agrees.Goals as goal

pub returns : goal.returns
returns c = plain_agrees
