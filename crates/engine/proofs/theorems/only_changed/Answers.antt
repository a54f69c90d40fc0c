-- OnlyChanged.
use Rattle.engine.proofs.Promises.{only_changed}
use Rattle.engine.proofs.theorems.only_changed.Goals as goal

pub returns : goal.returns
returns c = only_changed
