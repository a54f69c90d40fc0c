use Rattle.std.proofs.Common.{ℕ, List, refl}
use Rattle.grammar.specs.Code.{o_result}
use Rattle.parser.specs.Rows.{span_of}
use Rattle.syntax.proofs.Progress.{took, emitted}
use Rattle.syntax.proofs.reading.Reading.def_result.Goals as goal

pub returns-clause-reads : goal.returns-clause-reads
returns-clause-reads c =
    let close = λ (line : List ℕ). span_of line c.in_ok-behind.field-0-0 in
    let ty = λ (line : List ℕ). span_of line c.in_ok-ty.ty in
    let gets = λ (line : List ℕ). span_of line c.in_ok-body.field-0-0 in
    took _ close c.in_ok-behind.ensures (took _ ty c.in_ok-ty.ensures (took _ gets c.in_ok-body.ensures (emitted (λ line. o_result (ty line)) (λ line. refl) c.emit.ensures)))
