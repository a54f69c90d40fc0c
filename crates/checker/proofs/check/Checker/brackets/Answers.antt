use Rattle.std.proofs.Common.{take, ap, ◌∙◌, arith}
use Rattle.semantics.specs.Walk.{value}
use Rattle.checker.specs.Rows.{with_frame, means}
use Rattle.checker.proofs.check.Checker.brackets.Goals as goal

pub returns : goal.returns
returns g c = λ z.
    let K = g.L.Lookup.book c.args.self.now.look.now (take c.args.self.now.b.base c.args.words.now) in
    let line = take c.args.self.now.b.len c.args.words.now in
    let e = c.newest-v.ensures K line in
    let u = c.below.ensures.under K line c.args.self.now.b c.args.words.now in
    record {
      before = c.push.ensures.writes.before;
      frame_more = omega arith;
      name_more = omega arith;
      said_more = omega arith;
      becomes = c.push.ensures.writes.becomes K line ∙ ap (λ f. with_frame f (means K line c.args.self.now.b c.below.result c.args.words.now)) (c.value.ensures K) ∙ (λ i. with_frame (value (e i).ty c.args.s.from c.args.s.to) (u i));
    }
