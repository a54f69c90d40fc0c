-- BlanksFree.
use Rattle.grammar.proofs.Blanks.{blanks_free}
use Rattle.grammar.proofs.theorems.blanks_free.Goals as goal

pub returns : goal.returns
returns c = blanks_free
