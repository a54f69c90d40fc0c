use Rattle.std.proofs.Common.{◌*◌, refl, ap, ◌∙◌}
use Rattle.std.proofs.lemmas.List.{take_rest}
use Rattle.parser.specs.Rows.{ops}
use Rattle.syntax.proofs.Views.{ops_drop}
use Rattle.syntax.proofs.view.Ops.behind.Goals as goal

pub returns : goal.returns
returns c =
    let code = c.args.self.now.code.now in
    record { line = refl; code = λ line. ap (ops line) (take_rest code (5 * c.args.n)) ∙ ops_drop line code c.args.n c.requires }
