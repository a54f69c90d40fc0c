-- A constant of a kind, found by its operation.
use Rattle.std.proofs.Common.{[], Some, None, refl, ap, ◌∙◌}
use Rattle.grammar.specs.Code.{consts_code, o_const}
use Rattle.semantics.specs.Names.{decl}
use Rattle.parser.specs.Rows.{op_is}
use Rattle.syntax.specs.View.{piece_of}
use Rattle.syntax.proofs.Views.{nth_none}
use Rattle.declarations.proofs.Found.{moved, const_is, consts_is, consts_at, consts_past}
use Rattle.declarations.proofs.declare.constant.Goals as goal

pub returns-in_err-get : goal.returns-in_err-get
returns-in_err-get c =
    rw c.from_residual.ensures (λ line cs e p.
    let i = c.args.i in
    let own = c.args.names.line.now in
    let code = c.args.names.code.now in
    consts_past c.args.kind.text.now cs i (moved line own code (consts_code cs) i None e p (nth_none own code i c.in_err-get.ensures)))

pub returns-in_err-name : goal.returns-in_err-name
returns-in_err-name c =
    rw c.from_residual-in_err-name.ensures (λ line cs e p.
    let i = c.args.i in
    let own = c.args.names.line.now in
    let o = op_is own c.in_ok-get.field-0 in
    let d = consts_is cs i o (moved line own c.args.names.code.now (consts_code cs) i (Some o) e p c.in_ok-get.ensures.1) in
    absurd (c.in_err-name.ensures own d.0 d.1))

pub returns : goal.returns
returns c = λ line cs e p.
    let i = c.args.i in
    let own = c.args.names.line.now in
    let k = c.args.kind.text.now in
    let t = piece_of c.piece.result in
    let is = const_is own c.in_ok-get.field-0 c.in_ok-name.name t c.in_ok-name.ensures c.piece.ensures in
    let found = moved line own c.args.names.code.now (consts_code cs) i (Some (o_const t)) e p (c.in_ok-get.ensures.1 ∙ ap Some is) in
    (decl 0 t 1 k [], consts_at k cs i t found, ([], refl, c.empty.ensures.code line, c.empty.ensures.line ∙ p))
