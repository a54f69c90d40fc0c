use Rattle.std.proofs.Common.{take, ◌∙◌, arith}
use Rattle.parser.specs.Rows.{span_of}
use Rattle.semantics.specs.Walk.{local_of}
use Rattle.checker.specs.Rows.{with_name}
use Rattle.checker.proofs.check.Checker.bound.Goals as goal

pub returns : goal.returns
returns g c = λ z.
    let K = g.L.Lookup.book c.args.self.now.look.now (take c.args.self.now.b.base c.args.words.now) in
    let line = take c.args.self.now.b.len c.args.words.now in
    let e = c.newest-v.ensures K line in
    let u = c.below.ensures.under K line c.args.self.now.b c.args.words.now in
    record {
      before = c.bind.ensures.writes.before;
      frame_more = omega arith;
      name_more = omega arith;
      said_more = omega arith;
      becomes = c.bind.ensures.writes.becomes K line ∙ (λ i. with_name (local_of (span_of line c.args.s) (e i).ty) (u i));
    }
