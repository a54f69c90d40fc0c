-- DeclaredInLine.
use Rattle.declarations.proofs.Inline.{declared_in_line}
use Rattle.declarations.proofs.theorems.declared_in_line.Goals as goal

pub returns : goal.returns
returns c = declared_in_line
