use Rattle.std.proofs.Common.{◌+◌, ◌*◌, ap, ◌∙◌}
use Rattle.checker.specs.Rows.{pasted}
use Rattle.checker.proofs.Words.{notes}
use Rattle.checker.proofs.rows.Bounds.note.Goals as goal

pub returns-clause-writes : goal.returns-clause-writes
returns-clause-writes c = notes c.args.self c.args.p c.args.words.now c.requires.fits c.args.e c.put.new.words c.requires.less (c.put.ensures ∙ ap (pasted c.args.words.now (c.args.self.base + 5 * c.args.self.count + 4 * c.args.p.events)) c.words.ensures)
