use Rattle.std.proofs.Common.{◌≡◌, ℕ, arith}
use Rattle.syntax.proofs.Views.{nth_none}
use Rattle.syntax.proofs.view.Ops.result_at.Goals as goal

pub returns-in_err-s : goal.returns-in_err-s
returns-in_err-s c =
    rw c.from_residual.ensures (λ t e.
    let n = nth_none c.args.self.now.line.now c.args.self.now.code.now c.args.i c.in_err-s.ensures in
    let z : ◌≡◌ {A = ℕ} 0 1 = cc in omega arith)
