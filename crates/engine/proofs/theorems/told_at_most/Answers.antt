-- ToldAtMost.
use Rattle.engine.proofs.Promises.{told_at_most}
use Rattle.engine.proofs.theorems.told_at_most.Goals as goal

pub returns : goal.returns
returns c = told_at_most
