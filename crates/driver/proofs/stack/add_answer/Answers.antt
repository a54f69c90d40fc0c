-- What is proved by hand of add_answer.
use Rattle.driver.proofs.Words.{added}
use Rattle.driver.proofs.stack.add_answer.Goals as goal

pub returns : goal.returns
returns c = let e = added c.args.work.now c.args.r c.args.n c.requires.0 in record { adds = e.adds; above = e.above }
