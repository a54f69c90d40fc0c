-- LineSaid.
use Rattle.grammar.specs.Code.{item_code}
use Rattle.semantics.specs.Walk.{answer, start}
use Rattle.semantics.proofs.Whole.{item_runs}
use Rattle.semantics.proofs.Bytes.{asks_few}
use Rattle.semantics.proofs.Partial.{tries_is, asked_few}
use Rattle.semantics.proofs.theorems.line_said.Goals as goal

pub returns : goal.returns
returns c = λ me here there files before it. (item_runs me here there files before it, λ l ok. tries_is l (answer me here there files before) ok (item_code it) start, asked_few (answer me here there files before) (item_code it) start, λ ln. asks_few (answer me here there files before) ln)
