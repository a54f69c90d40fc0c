use Rattle.protocol.proofs.Cuts.{stripped}
use Rattle.protocol.proofs.header.behind.Goals as goal

pub returns : goal.returns
returns c = stripped c.strip_prefix.result c.args.word.now c.args.line.now c.strip_prefix.ensures.cases
