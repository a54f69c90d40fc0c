use Rattle.std.proofs.Common.{take, ap, ◌∙◌, arith}
use Rattle.checker.specs.Rows.{valued, without_name}
use Rattle.checker.proofs.check.Checker.end_let.Goals as goal

pub returns : goal.returns
returns g c = λ z.
    let K = g.L.Lookup.book c.args.self.now.look.now (take c.args.self.now.b.base c.args.words.now) in
    let line = take c.args.self.now.b.len c.args.words.now in
    let e = c.newest-v.ensures K line in
    let u = c.unbind.ensures.under K line c.args.self.now.b c.args.words.now ∙ ap without_name (c.below.ensures.under K line c.args.self.now.b c.args.words.now) in
    record {
      before = c.value.ensures.writes.before;
      frame_more = omega arith;
      name_more = omega arith;
      said_more = omega arith;
      becomes = c.value.ensures.writes.becomes K line ∙ (λ i. valued c.args.from (e i).to (e i).ty (u i));
    }
