use Rattle.std.proofs.Common.{take, sym, ap, ◌∙◌, arith}
use Rattle.semantics.specs.Check.{of_slot}
use Rattle.semantics.specs.Walk.{tells, top, pop, first_slot}
use Rattle.checker.specs.Rows.{with_said, with_frame, without_frame, frame_is, typ, means}
use Rattle.checker.proofs.check.Checker.argument.Goals as goal

pub returns : goal.returns
returns g c = λ z.
    let ws = c.args.words.now in
    let b = c.args.self.now.b in
    let K = g.L.Lookup.book c.args.self.now.look.now (take b.base ws) in
    let line = take b.len ws in
    let σ = means K line b c.args.p ws in
    let u = c.below-under.ensures.under K line b ws in
    let r = c.below-rest.ensures.under K line b ws ∙ ap without_frame u in
    let v = c.newest-v.ensures K line in
    let k = c.newest-call.ensures K line ∙ ap (λ τ. top τ.stack) u in
    let V = c.newest-v.result in
    let C = c.newest-call.result in
    let w = sym (c.clash-wrong.ensures V.span.from V.span.to) in
    let s = c.wanted_by-wanted.ensures in
    let n = c.slots_behind-slots.ensures in
    record {
      before = c.push.ensures.writes.before ∙ c.blame-q.ensures.writes.before;
      frame_more = omega (arith, c.push.ensures.higher, c.blame-q.ensures.few, c.below-rest.ensures.lower, c.below-under.ensures.lower);
      name_more = omega (arith, c.push.ensures.higher, c.blame-q.ensures.few, c.below-rest.ensures.lower, c.below-under.ensures.lower);
      said_more = omega (arith, c.push.ensures.higher, c.blame-q.ensures.few, c.below-rest.ensures.lower, c.below-under.ensures.lower);
      becomes = c.push.ensures.writes.becomes K line
          ∙ ap (with_frame (frame_is K (record { ty = C.ty; span = C.span; slots = c.slots_behind-slots.result }))) (c.blame-q.ensures.writes.becomes K line)
          ∙ (λ i. with_frame (record { ty = typ K C.ty.0; from = C.span.from; to = C.span.to; slots = n i }) (with_said (tells (w i)) (r i)))
          ∙ (λ i. with_frame (record { ty = typ K C.ty.0; from = C.span.from; to = C.span.to; slots = n 1 }) (with_said (tells (of_slot (s i) V.span.from V.span.to (typ K V.ty.0))) (without_frame (without_frame σ))))
          ∙ (λ i. with_frame (record { ty = (k i).ty; from = (k i).from; to = (k i).to; slots = pop (k i).slots }) (with_said (tells (of_slot (first_slot (k i).slots) (v i).from (v i).to (v i).ty)) (without_frame (without_frame σ))));
    }
