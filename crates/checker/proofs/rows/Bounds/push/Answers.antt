use Rattle.std.proofs.Common.{◌+◌, ◌*◌, ap, ◌∙◌}
use Rattle.checker.specs.Rows.{pasted}
use Rattle.checker.proofs.Words.{pushes}
use Rattle.checker.proofs.rows.Bounds.push.Goals as goal

pub returns-clause-writes : goal.returns-clause-writes
returns-clause-writes c = pushes c.args.self c.args.p c.args.words.now c.requires.fits c.args.v c.put.new.words c.requires.less (c.put.ensures ∙ ap (pasted c.args.words.now (c.args.self.base + 20 * c.args.self.count + 5 * c.args.p.height)) c.words.ensures)
