-- The i-th field has the i-th operation.
use Rattle.std.proofs.Common.{Some, sym, ap, ◌∙◌}
use Rattle.std.specs.List.{slice_get}
use Rattle.grammar.specs.Code.{o_slot}
use Rattle.parser.specs.Rows.{op_is}
use Rattle.syntax.specs.View.{piece_of}
use Rattle.syntax.proofs.Views.{nth_none}
use Rattle.declarations.proofs.Found.{slots_is, slots_at, slots_past}
use Rattle.declarations.proofs.fields.field_at.Goals as goal

pub returns-in_err-get : goal.returns-in_err-get
returns-in_err-get c =
    rw c.from_residual.ensures (λ fs e.
    let i = c.args.i in
    slots_past fs i (ap (λ os. slice_get os i) (sym e) ∙ nth_none c.args.fields.line.now c.args.fields.code.now i c.in_err-get.ensures))

pub returns-in_err-name : goal.returns-in_err-name
returns-in_err-name c =
    rw c.from_residual-in_err-name.ensures (λ fs e.
    let i = c.args.i in
    let line = c.args.fields.line.now in
    let d = slots_is fs i (op_is line c.in_ok-get.field-0) (ap (λ os. slice_get os i) (sym e) ∙ c.in_ok-get.ensures.1) in
    absurd (c.in_err-name.ensures line d.0 d.1))

pub returns : goal.returns
returns c = λ fs e.
    let i = c.args.i in
    let line = c.args.fields.line.now in
    let name = c.piece.result in
    let ty = c.piece-2.result in
    slots_at fs i (record { name = piece_of name; ty = piece_of ty }) (ap (λ os. slice_get os i) (sym e) ∙ c.in_ok-get.ensures.1 ∙ ap (λ o. Some (op_is line o)) c.in_ok-name.ensures ∙ (λ j. Some (o_slot (record { name = sym c.piece.ensures j; ty = sym c.piece-2.ensures j }))))
