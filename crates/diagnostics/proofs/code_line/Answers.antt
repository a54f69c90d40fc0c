use Rattle.std.proofs.Common.{◌∙◌, arith, rules}
use Rattle.diagnostics.proofs.Lengths.{few_in}
use Rattle.diagnostics.proofs.Joins.{wrong_coded}
use Rattle.diagnostics.proofs.code_line.Goals as goal

pub returns-in-Ok : goal.returns-in-Ok
returns-in-Ok c =
    let r = c.if-not-is_roomy.ensures in
    let e = c.in-Ok.ensures.reads.1 in
    record { front = search rules; codes = (few_in c.args.words.now c.args.len c.args.base c.in-Ok.count c.read_line.new.words r.1 (omega (arith, r.2)) e, r.1, omega (arith, r.2), e) }

pub returns-in-Err : goal.returns-in-Err
returns-in-Err c =
    let r = c.if-not-is_roomy.ensures in
    let e = c.in-Err.ensures in
    record {
      front = c.code_wrong.ensures.front ∙ e.front;
      codes = wrong_coded c.in-Err.refusal c.args.words.now c.read_line.new.words c.code_wrong.new.words c.args.len c.args.base c.code_wrong.result r (search rules) e.reads c.code_wrong.ensures.codes;
    }
