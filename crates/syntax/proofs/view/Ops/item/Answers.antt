use Rattle.std.proofs.Common.{◌∷◌, Some, sym, ap, ◌∙◌, subst}
use Rattle.grammar.specs.Code.{o_new}
use Rattle.parser.specs.Rows.{ops, op_is, span_of}
use Rattle.syntax.specs.View.{ViewSays}
use Rattle.syntax.proofs.Views.{first_is}
use Rattle.syntax.proofs.view.Ops.item.Goals as goal

pub returns-in-New : goal.returns-in-New
returns-in-New c = λ i e.
    let line = c.args.self.now.line.now in
    let os = ops line c.args.self.now.code.now in
    let rest = c.behind-in-New.result in
    let o = o_new (span_of line c.in-New.s) in
    let first = first_is os o (c.in-Some.ensures.1 ∙ ap (λ p. Some (op_is line p)) c.in-New.is) in
    let same = c.behind-in-New.ensures.line in
    subst (λ l. ViewSays l i c.named.result) same (c.named.ensures i
    (ap (λ t. o_new t ∷ ops rest.line.now rest.code.now) c.piece-in-New.ensures ∙ ap (λ l. o ∷ ops l rest.code.now) same ∙ ap (λ l. o ∷ l) (c.behind-in-New.ensures.code line) ∙ sym first ∙ e))
