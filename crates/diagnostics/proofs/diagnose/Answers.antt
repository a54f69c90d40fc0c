use Rattle.std.proofs.Common.{rules}
use Rattle.std.proofs.lemmas.Result.{err_from_is_err_and}
use Rattle.diagnostics.proofs.Joins.{diagnosed, stopped, stays}
use Rattle.diagnostics.proofs.diagnose.Goals as goal

pub returns-clause-front : goal.returns-clause-front
returns-clause-front g c =
    let f = c.in_ok-ops.ensures in
    stays (g.L.Lookup.book c.args.look.now) c.args.words.now c.code_line.new.words c.check.new.words c.args.len c.args.base c.in_ok-ops.ops f.front f.codes (search rules) c.in_ok-count.ensures.kept

pub returns-clause-says : goal.returns-clause-says
returns-clause-says g c =
    let f = c.in_ok-ops.ensures in
    let k = c.in_ok-count.ensures in
    diagnosed (g.L.Lookup.book c.args.look.now) c.args.words.now c.code_line.new.words c.check.new.words c.args.len c.args.base c.in_ok-ops.ops f.front f.codes (search rules) k.kept c.in_ok-count.count k.says

pub returns-in_err-count-clause-says : goal.returns-in_err-count-clause-says
returns-in_err-count-clause-says g c =
    let f = c.in_ok-ops.ensures in
    let k = c.in_err-count.ensures in
    let p = err_from_is_err_and c.from_residual-in_err-count.result c.from_residual-in_err-count.ensures.1 in
    rw (p.1, p.2) (stopped (g.L.Lookup.book c.args.look.now) c.args.words.now c.code_line.new.words c.check.new.words c.args.len c.args.base c.in_ok-ops.ops f.front f.codes (search rules) k.kept c.in_err-count.field-0.0 k.says (search rules))
