use Rattle.std.proofs.Common.{take, sym, ◌∙◌, arith}
use Rattle.semantics.specs.Names.{t_bool}
use Rattle.semantics.specs.Check.{wants}
use Rattle.semantics.specs.Walk.{tells}
use Rattle.checker.specs.Rows.{with_said}
use Rattle.checker.proofs.check.Checker.condition.Goals as goal

pub returns : goal.returns
returns g c = λ z.
    let K = g.L.Lookup.book c.args.self.now.look.now (take c.args.self.now.b.base c.args.words.now) in
    let line = take c.args.self.now.b.len c.args.words.now in
    let e = c.newest-v.ensures K line in
    let u = c.below.ensures.under K line c.args.self.now.b c.args.words.now in
    let w = sym (c.clash-wrong.ensures c.newest-v.result.span.from c.newest-v.result.span.to) in
    record {
      before = c.blame.ensures.writes.before;
      frame_more = omega arith;
      name_more = omega arith;
      said_more = omega arith;
      becomes = c.blame.ensures.writes.becomes K line ∙ (λ i. with_said (tells (w i)) (u i)) ∙ (λ i. with_said (tells (wants t_bool (e i).from (e i).to (e i).ty)) (u 1));
    }
