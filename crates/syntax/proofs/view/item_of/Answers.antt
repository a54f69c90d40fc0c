use Rattle.std.proofs.Common.{◌+◌, ◌*◌, take, ap, ◌∙◌}
use Rattle.std.proofs.lemmas.Slice.{between_is}
use Rattle.parser.specs.Rows.{ops}
use Rattle.syntax.proofs.view.item_of.Goals as goal

pub returns : goal.returns
returns c = λ i a b e. c.item.ensures i (ap (ops (take c.args.len c.args.words.now)) (between_is c.args.words.now c.args.base (c.args.base + 5 * c.args.count)) ∙ e)
