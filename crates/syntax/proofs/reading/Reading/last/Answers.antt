use Rattle.parser.specs.Rows.{op_is}
use Rattle.syntax.proofs.Progress.{fails, ended, not_ended}
use Rattle.syntax.proofs.reading.Reading.last.Goals as goal

pub returns-in_err-end : goal.returns-in_err-end
returns-in_err-end c = fails c.from_residual.result c.from_residual.ensures.1 (not_ended (λ line. op_is line c.args.op) c.in_err-end.ensures)

pub returns : goal.returns
returns c = ended c.in_ok-end.ensures c.emit.ensures
