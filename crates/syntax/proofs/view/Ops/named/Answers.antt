use Rattle.std.proofs.Common.{drop, Some, sym, refl, ap, ◌∙◌, add-one}
use Rattle.grammar.specs.Code.{o_result}
use Rattle.parser.specs.Rows.{ops}
use Rattle.syntax.specs.View.{piece_of}
use Rattle.syntax.proofs.Views.{rec_view, def_view}
use Rattle.syntax.proofs.view.Ops.named.Goals as goal

pub returns-in-Some : goal.returns-in-Some
returns-in-Some c = λ i e.
    let line = c.args.self.now.line.now in
    let os = ops line c.args.self.now.code.now in
    let n = c.slots-n.result in
    let found = c.in-Some.ensures.1 ∙ ap (λ t. Some (o_result t)) (sym c.piece.ensures) in
    let d = def_view (piece_of c.args.name) (piece_of c.piece.result) os n c.slots-n.ensures.leads found i e in
    (d.0, d.1, d.2, c.before-in-Some.ensures.code line ∙ d.3, c.before-in-Some.ensures.line, c.behind.ensures.code line ∙ ap (λ m. drop m os) (add-one n) ∙ d.4, c.behind.ensures.line)

pub returns-in-None : goal.returns-in-None
returns-in-None c = λ i e.
    let os = ops c.args.self.now.line.now c.args.self.now.code.now in
    let d = rec_view (piece_of c.args.name) os c.slots-n.result c.slots-n.ensures.leads c.in-None.ensures i e in
    (d.0, d.1, d.2, refl)
