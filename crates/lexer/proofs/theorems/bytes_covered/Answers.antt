use Rattle.lexer.proofs.Covers.{bytes_covered}
use Rattle.lexer.proofs.theorems.bytes_covered.Goals as goal

pub returns : goal.returns
returns c = bytes_covered
