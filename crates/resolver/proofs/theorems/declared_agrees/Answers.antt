use Rattle.resolver.proofs.Means.{declared_agrees}
use Rattle.resolver.proofs.theorems.declared_agrees.Goals as goal

pub returns : goal.returns
returns c = λ p ws x f n t. declared_agrees p ws x t f n
