-- AskedAgain.
use Rattle.engine.proofs.Promises.{asked_again}
use Rattle.engine.proofs.theorems.asked_again.Goals as goal

pub returns : goal.returns
returns c = asked_again
