use Rattle.checker.proofs.Words.{binds}
use Rattle.checker.proofs.rows.Bounds.bind.Goals as goal

pub returns-clause-writes : goal.returns-clause-writes
returns-clause-writes c = binds c.args.self c.args.p c.args.words.now c.requires.fits c.args.x c.put.new.words c.requires.less c.put.ensures
