use Rattle.std.proofs.Common.{Some, sym, ap, ◌∙◌, zero-add}
use Rattle.syntax.proofs.Views.{ops_nth}
use Rattle.syntax.proofs.view.Ops.op.Goals as goal

pub returns : goal.returns
returns c =
    let line = c.args.self.now.line.now in
    let code = c.args.self.now.code.now in
    let e = c.op_at.ensures line in
    ops_nth line code c.args.i c.requires ∙ ap Some (sym (simp zero-add at e))
