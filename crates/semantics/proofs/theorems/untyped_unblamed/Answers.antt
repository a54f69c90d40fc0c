-- UntypedUnblamed.
use Rattle.semantics.proofs.Blame.{untyped_unblamed}
use Rattle.semantics.proofs.theorems.untyped_unblamed.Goals as goal

pub returns : goal.returns
returns c = untyped_unblamed
