-- ToldExactly.
use Rattle.engine.proofs.Promises.{told_exactly}
use Rattle.engine.proofs.theorems.told_exactly.Goals as goal

pub returns : goal.returns
returns c = told_exactly
