-- What is proved by hand of back_work.
use Rattle.std.proofs.Common.{◌-◌, arith}
use Rattle.driver.proofs.Turns.{back_works}
use Rattle.driver.proofs.back.back_work.Goals as goal

pub returns-clause-says : goal.returns-clause-says
returns-clause-says c = λ ms. back_works ms c.args.work.now c.add_answer.new.work c.args.r c.args.f c.args.n c.args.told c.requires.reads c.add_answer.ensures.adds (c.add_answer.ensures.above (c.args.f - 7) (omega arith))
