-- What is proved by hand of capacity.
use Rattle.std.proofs.Common.{refl}
use Rattle.memo.specs.Log.{capacity}
use Rattle.memo.proofs.index.Memo.capacity.Goals as goal

pub returns : goal.returns
unfolding capacity
returns c = refl
