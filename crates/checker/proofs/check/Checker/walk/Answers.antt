use Rattle.std.proofs.Common.{take, ◌∙◌, arith}
use Rattle.std.proofs.lemmas.Result.{err_from_is_err_and}
use Rattle.checker.proofs.Loop.{goes_on, stops, comes_to}
use Rattle.checker.proofs.Whole.{line_ends, line_needs}
use Rattle.checker.proofs.check.Checker.walk.Goals as goal

pub loop-i-preserved : goal.loop-i-preserved
loop-i-preserved g c = goes_on (g.L.Lookup.book c.args.self.now.look.now) c.args.self.now.b c.args.words.now c.requires.line c.requires.room c.loop-i.i c.loop-i.p c.in_ok-p.p c.loop-i.words c.turn.new.words c.op_at-op.result c.loop-i-test.true c.loop-i.invariant c.op_at-op.ensures c.in_ok-p.ensures

pub returns-in_err-p : goal.returns-in_err-p
returns-in_err-p g c =
    let ws = c.args.words.now in
    let G = g.L.Lookup.book c.args.self.now.look.now in
    let b = c.args.self.now.b in
    let w = c.in_err-p.field-0.0 in
    let h = c.in_err-p.ensures in
    let e = stops G b ws c.requires.line c.requires.room c.loop-i.i c.loop-i.p c.loop-i.words c.turn.new.words c.op_at-op.result w c.loop-i-test.true c.loop-i.invariant c.op_at-op.ensures h in
    let p = err_from_is_err_and c.from_residual.result c.from_residual.ensures.1 in
    rw (p.1, p.2) (record { kept = h.1 ∙ c.loop-i.invariant.kept; walks = e; says = line_needs (G (take b.base ws)) (take b.len ws) b ws c.turn.new.words w e })

pub returns : goal.returns
returns g c =
    let ws = c.args.words.now in
    let G = g.L.Lookup.book c.args.self.now.look.now in
    let e = comes_to G c.args.self.now.b ws c.requires.line c.requires.room c.loop-i.i c.loop-i.p c.loop-i.words c.loop-i-test.false c.loop-i.invariant in
    record { kept = c.loop-i.invariant.kept; walks = (e, omega (arith, c.loop-i.invariant.few_said, c.loop-i.auto.i-end)); says = line_ends (G (take c.args.self.now.b.base ws)) (take c.args.self.now.b.len ws) c.args.self.now.b ws c.loop-i.words c.loop-i.p e }
