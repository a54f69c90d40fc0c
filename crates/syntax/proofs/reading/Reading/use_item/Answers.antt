use Rattle.parser.specs.Rows.{span_of}
use Rattle.syntax.proofs.Progress.{took}
use Rattle.syntax.proofs.reading.Reading.use_item.Goals as goal

pub returns : goal.returns
returns c = took _ (λ line. span_of line c.in_ok-name.name) c.in_ok-name.ensures c.last.ensures
