-- What is proved by hand of spare.
use Rattle.std.proofs.Common.{refl}
use Rattle.memo.specs.Log.{spare}
use Rattle.memo.proofs.index.Memo.spare.Goals as goal

pub returns : goal.returns
unfolding spare
returns c = refl
