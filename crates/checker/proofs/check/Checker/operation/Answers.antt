use Rattle.std.proofs.Common.{ℕ, List, [], ◌++◌, take, sym, ap, ◌∙◌, subst, arith}
use mathlib.Core.Option.{none, some}
use Rattle.base.specs.Base.{opt}
use Rattle.lexer.specs.Kinds.{operator}
use Rattle.grammar.specs.Code.{o_op}
use Rattle.semantics.specs.Names.{t_bool}
use Rattle.semantics.specs.Check.{Fault, of_slot, wants, said, typed, op_type}
use Rattle.semantics.specs.Walk.{tells, top, says, pop}
use Rattle.checker.specs.Rows.{with_said, without_frame, valued, typ, means}
use Rattle.checker.specs.Turns.{Steps, operand_word}
use Rattle.checker.proofs.States.{said_valued, slot_opt, operands_are}
use Rattle.checker.proofs.check.Checker.operation.Goals as goal

pub returns-in-Equal : goal.returns-in-Equal
returns-in-Equal g c = λ z.
    let ws = c.args.words.now in
    let b = c.args.self.now.b in
    let K = g.L.Lookup.book c.args.self.now.look.now (take b.base ws) in
    let line = take b.len ws in
    let σ = means K line b c.args.p ws in
    let u = c.below-under.ensures.under K line b ws in
    let r = c.below-rest.ensures.under K line b ws ∙ ap without_frame u in
    let y = c.newest-right.ensures K line in
    let x = c.newest-left.ensures K line ∙ ap (λ τ. top τ.stack) u in
    let Y = c.newest-right.result in
    let X = c.newest-left.result in
    let w = sym (c.clash-wrong.ensures Y.span.from Y.span.to) in
    subst (λ o. Steps K line b c.args.p ws c.value.result c.value.new.words z (o_op (operator o))) (sym c.in-Equal.is) (record {
      before = c.value.ensures.writes.before ∙ c.blame-q.ensures.writes.before;
      frame_more = omega (arith, c.value.ensures.few, c.blame-q.ensures.few, c.below-rest.ensures.lower, c.below-under.ensures.lower);
      name_more = omega (arith, c.value.ensures.few, c.blame-q.ensures.few, c.below-rest.ensures.lower, c.below-under.ensures.lower);
      said_more = omega (arith, c.value.ensures.few, c.blame-q.ensures.few, c.below-rest.ensures.lower, c.below-under.ensures.lower);
      becomes = c.value.ensures.writes.becomes K line
          ∙ ap (valued X.span.from Y.span.to (some t_bool)) (c.blame-q.ensures.writes.becomes K line)
          ∙ (λ i. valued X.span.from Y.span.to (some t_bool) (with_said (tells (w i)) (r i)))
          ∙ said_valued X.span.from Y.span.to (some t_bool) none (of_slot (typ K X.ty.0) Y.span.from Y.span.to (typ K Y.ty.0)) [] (without_frame (without_frame σ))
          ∙ ap (λ fs. says X.span.from Y.span.to (typed X.span.from Y.span.to (said (some t_bool) fs [] [])) (pop (pop σ.stack)) σ.bound σ.out) (slot_opt (typ K X.ty.0) Y.span.from Y.span.to (typ K Y.ty.0))
          ∙ (λ i. says (x i).from (y i).to (typed (x i).from (y i).to (said (some t_bool) (opt (x i).ty [] (λ v. wants v (y i).from (y i).to (y i).ty)) [] [])) (pop (pop σ.stack)) σ.bound σ.out);
    })

pub returns-in_default : goal.returns-in_default
returns-in_default g c = λ z.
    let ws = c.args.words.now in
    let b = c.args.self.now.b in
    let K = g.L.Lookup.book c.args.self.now.look.now (take b.base ws) in
    let line = take b.len ws in
    let σ = means K line b c.args.p ws in
    let u = c.below-under.ensures.under K line b ws in
    let r = c.below-rest.ensures.under K line b ws ∙ ap without_frame u in
    let y = c.newest-right.ensures K line in
    let x = c.newest-left.ensures K line ∙ ap (λ τ. top τ.stack) u in
    let Y = c.newest-right.result in
    let X = c.newest-left.result in
    let o = c.args.o in
    let t = c.result_type.ensures K in
    let wd = c.operand_type.ensures in
    let fs : ℕ → List Fault = λ w. of_slot (typ K w) X.span.from X.span.to (typ K X.ty.0) ++ of_slot (typ K w) Y.span.from Y.span.to (typ K Y.ty.0) in
    record {
      before = c.value-in_default.ensures.writes.before ∙ c.operands-q.ensures.before;
      frame_more = omega (arith, c.value-in_default.ensures.few, c.operands-q.ensures.few, c.below-rest.ensures.lower, c.below-under.ensures.lower);
      name_more = omega (arith, c.value-in_default.ensures.few, c.operands-q.ensures.few, c.below-rest.ensures.lower, c.below-under.ensures.lower);
      said_more = omega (arith, c.value-in_default.ensures.few, c.operands-q.ensures.few, c.below-rest.ensures.lower, c.below-under.ensures.lower);
      becomes = c.value-in_default.ensures.writes.becomes K line
          ∙ ap (valued X.span.from Y.span.to (typ K c.result_type.result.0)) (c.operands-q.ensures.becomes line)
          ∙ (λ i. valued X.span.from Y.span.to (t i) (with_said (tells (fs (wd i))) (r i)))
          ∙ said_valued X.span.from Y.span.to (some (op_type (operator o))) none (fs (operand_word (operator o))) [] (without_frame (without_frame σ))
          ∙ (λ i. says (x i).from (y i).to (typed (x i).from (y i).to (said (some (op_type (operator o))) (of_slot (typ K (operand_word (operator o))) (x i).from (x i).to (x i).ty ++ of_slot (typ K (operand_word (operator o))) (y i).from (y i).to (y i).ty) [] [])) (pop (pop σ.stack)) σ.bound σ.out)
          ∙ ap (λ l. says (top (pop σ.stack)).from (top σ.stack).to (typed (top (pop σ.stack)).from (top σ.stack).to (said (some (op_type (operator o))) l [] [])) (pop (pop σ.stack)) σ.bound σ.out) (operands_are K o (top (pop σ.stack)) (top σ.stack) c.in_default.not-Equal);
    }
