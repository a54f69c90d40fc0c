-- What is proved by hand of does.
use Rattle.std.proofs.Common.{sym, subst}
use Rattle.trials.specs.Small.{step, NextSays}
use Rattle.trials.proofs.small.does.Goals as goal

pub returns-in-4 : goal.returns-in-4
returns-in-4 c = subst (λ m. NextSays (step m c.args.k.now.a c.args.k.now.b c.args.n c.args.row.now) c.switch.result) (sym c.in-4.is) (c.switch.ensures c.args.k.now.a c.args.k.now.b)
