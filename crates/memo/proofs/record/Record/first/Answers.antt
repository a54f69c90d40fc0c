-- What is proved by hand of first.
use Rattle.memo.proofs.Gots.{first_got}
use Rattle.memo.proofs.record.Record.first.Goals as goal

pub returns-clause-looks : goal.returns-clause-looks
returns-clause-looks c = first_got c.args.self.words.now c.args.self.depth c.requires.0 c.requires.1
