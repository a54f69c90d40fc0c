use Rattle.syntax.proofs.Views.{part_is}
use Rattle.syntax.proofs.view.part.Goals as goal

pub returns : goal.returns
returns c = part_is c.args.row.now c.args.from c.args.to c.min.result c.min-end.result c.min-end.ensures c.min.ensures
