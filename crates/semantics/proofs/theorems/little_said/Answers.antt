-- LittleSaid.
use Rattle.semantics.proofs.Numbers.{little_said}
use Rattle.semantics.proofs.theorems.little_said.Goals as goal

pub returns : goal.returns
returns c = little_said
