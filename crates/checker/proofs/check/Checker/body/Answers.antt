use Rattle.std.proofs.Common.{take, sym, ap, ◌∙◌, arith}
use Rattle.semantics.specs.Check.{of_slot}
use Rattle.semantics.specs.Walk.{tells, top}
use Rattle.checker.specs.Rows.{with_said, without_frame, means}
use Rattle.checker.proofs.check.Checker.body.Goals as goal

pub returns : goal.returns
returns g c = λ z.
    let ws = c.args.words.now in
    let b = c.args.self.now.b in
    let K = g.L.Lookup.book c.args.self.now.look.now (take b.base ws) in
    let line = take b.len ws in
    let σ = means K line b c.args.p ws in
    let u = c.below-under.ensures.under K line b ws in
    let r = c.below-rest.ensures.under K line b ws ∙ ap without_frame u in
    let v = c.newest-v.ensures K line in
    let k = c.newest-result.ensures K line ∙ ap (λ τ. top τ.stack) u in
    let w = sym (c.clash-wrong.ensures c.newest-v.result.span.from c.newest-v.result.span.to) in
    record {
      before = c.blame.ensures.writes.before;
      frame_more = omega arith;
      name_more = omega arith;
      said_more = omega arith;
      becomes = c.blame.ensures.writes.becomes K line ∙ (λ i. with_said (tells (w i)) (r i)) ∙ (λ i. with_said (tells (of_slot (k i).ty (v i).from (v i).to (v i).ty)) (without_frame (without_frame σ)));
    }
