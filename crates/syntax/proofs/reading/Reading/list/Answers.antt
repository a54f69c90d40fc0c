use Rattle.parser.specs.Rows.{span_of}
use Rattle.syntax.proofs.Listing.{begins, goes_wrong, ends_here, goes_on}
use Rattle.syntax.proofs.Progress.{fails}
use Rattle.syntax.proofs.reading.Reading.list.Goals as goal

pub loop-op-init : goal.loop-op-init
loop-op-init c = begins c.args.listed c.args.self c.args.words.now c.requires.few c.requires.within

pub returns-in_err-op-clause-reads : goal.returns-in_err-op-clause-reads
returns-in_err-op-clause-reads c = fails c.from_residual.result c.from_residual.ensures.1 (goes_wrong c.requires.line_in c.loop-op.invariant c.in_err-op.field-0.0 c.in_err-op.ensures)

pub loop-op-preserved : goal.loop-op-preserved
loop-op-preserved c = goes_on c.requires.line_in c.loop-op.invariant c.in_ok-op.ensures c.emit-read.ensures (λ line. span_of line c.in-Ok.field-0-0) c.in-Ok.ensures

pub returns-in-Err-clause-reads : goal.returns-in-Err-clause-reads
returns-in-Err-clause-reads c = ends_here c.requires.line_in c.loop-op.invariant c.in_ok-op.ensures c.emit-read.ensures c.in-Err.field-0 c.in-Err.ensures
