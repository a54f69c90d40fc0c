-- LookedAtOnce.
use Rattle.engine.proofs.Promises.{looked_at_once}
use Rattle.engine.proofs.theorems.looked_at_once.Goals as goal

pub returns : goal.returns
returns c = looked_at_once
