use Rattle.std.proofs.Common.{[], take, sym, ap, ◌∙◌, arith}
use mathlib.Core.Option.{none}
use Rattle.base.specs.Base.{opt, or_else}
use Rattle.semantics.specs.Check.{of_slot, wants, said, typed}
use Rattle.semantics.specs.Walk.{tells, top, says, pop}
use Rattle.checker.specs.Rows.{with_said, without_frame, valued, typ, means}
use Rattle.checker.proofs.States.{said_valued, slot_opt}
use Rattle.checker.proofs.check.Checker.choice.Goals as goal

pub returns : goal.returns
returns g c = λ z.
    let ws = c.args.words.now in
    let b = c.args.self.now.b in
    let K = g.L.Lookup.book c.args.self.now.look.now (take b.base ws) in
    let line = take b.len ws in
    let σ = means K line b c.args.p ws in
    let u = c.below-under.ensures.under K line b ws in
    let r = c.below-rest.ensures.under K line b ws ∙ ap without_frame u in
    let y = c.newest-second.ensures K line in
    let x = c.newest-first.ensures K line ∙ ap (λ τ. top τ.stack) u in
    let Y = c.newest-second.result in
    let X = c.newest-first.result in
    let n = c.args.from in
    let w = sym (c.clash-wrong.ensures Y.span.from Y.span.to) in
    let t = c.or.ensures K in
    record {
      before = c.value.ensures.writes.before ∙ c.blame-q.ensures.writes.before;
      frame_more = omega (arith, c.value.ensures.few, c.blame-q.ensures.few, c.below-rest.ensures.lower, c.below-under.ensures.lower);
      name_more = omega (arith, c.value.ensures.few, c.blame-q.ensures.few, c.below-rest.ensures.lower, c.below-under.ensures.lower);
      said_more = omega (arith, c.value.ensures.few, c.blame-q.ensures.few, c.below-rest.ensures.lower, c.below-under.ensures.lower);
      becomes = c.value.ensures.writes.becomes K line
          ∙ ap (valued n Y.span.to (typ K c.or.result.0)) (c.blame-q.ensures.writes.becomes K line)
          ∙ (λ i. valued n Y.span.to (t i) (with_said (tells (w i)) (r i)))
          ∙ said_valued n Y.span.to (or_else (typ K X.ty.0) (typ K Y.ty.0)) none (of_slot (typ K X.ty.0) Y.span.from Y.span.to (typ K Y.ty.0)) [] (without_frame (without_frame σ))
          ∙ ap (λ fs. says n Y.span.to (typed n Y.span.to (said (or_else (typ K X.ty.0) (typ K Y.ty.0)) fs [] [])) (pop (pop σ.stack)) σ.bound σ.out) (slot_opt (typ K X.ty.0) Y.span.from Y.span.to (typ K Y.ty.0))
          ∙ (λ i. says n (y i).to (typed n (y i).to (said (or_else (x i).ty (y i).ty) (opt (x i).ty [] (λ v. wants v (y i).from (y i).to (y i).ty)) [] [])) (pop (pop σ.stack)) σ.bound σ.out);
    }
