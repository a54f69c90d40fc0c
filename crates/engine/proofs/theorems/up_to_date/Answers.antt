-- UpToDate.
use Rattle.engine.proofs.Promises.{up_to_date}
use Rattle.engine.proofs.theorems.up_to_date.Goals as goal

pub returns : goal.returns
returns c = up_to_date
