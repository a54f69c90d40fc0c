use Rattle.std.proofs.Common.{rules}
use Rattle.kaqshune.proofs.Rows.{first_row, fewer}
use Rattle.kaqshune.proofs.lines.LinesIterator.next.Goals as goal

pub returns-clause-steps : goal.returns-clause-steps
returns-clause-steps c = search (rules, first_row)

pub returns-clause-goes : goal.returns-clause-goes
returns-clause-goes c = search (rules, fewer)
