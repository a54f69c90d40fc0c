use Rattle.std.proofs.Common.{ℕ, List}
use Rattle.parser.specs.Rows.{span_of}
use Rattle.syntax.specs.Reads.{head}
use Rattle.syntax.proofs.Progress.{took, emitted}
use Rattle.syntax.proofs.reading.Reading.start.Goals as goal

pub returns-clause-reads : goal.returns-clause-reads
returns-clause-reads c =
    let name = λ (line : List ℕ). span_of line c.in_ok-name.name in
    took _ name c.in_ok-name.ensures (took _ (λ line. span_of line c.in_ok-list.field-0-0) c.in_ok-list.ensures (emitted (λ line. head c.args.listed (name line)) c.head.ensures c.emit.ensures))
