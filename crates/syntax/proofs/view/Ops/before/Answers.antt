use Rattle.std.proofs.Common.{refl}
use Rattle.syntax.proofs.Views.{ops_take}
use Rattle.syntax.proofs.view.Ops.before.Goals as goal

pub returns : goal.returns
returns c = record { line = refl; code = λ line. ops_take line c.args.self.now.code.now c.args.n c.requires }
