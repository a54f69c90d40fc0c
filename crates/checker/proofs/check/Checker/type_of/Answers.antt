use Rattle.std.proofs.Common.{take, sym, ap, ◌∙◌}
use Rattle.base.specs.Base.{same}
use Rattle.lexer.specs.Words.{k_num, k_bool}
use Rattle.parser.specs.Rows.{span_of}
use Rattle.checker.specs.Rows.{meaning_is, verdict_said}
use Rattle.checker.proofs.Asks.{type_num, type_bool, type_here}
use Rattle.checker.proofs.check.Checker.type_of.Goals as goal

pub returns-then-spells : goal.returns-then-spells
returns-then-spells g c =
    let K = g.L.Lookup.book c.args.self.now.look.now (take c.args.self.now.b.base c.args.words.now) in
    let line = take c.args.self.now.b.len c.args.words.now in
    let t = span_of line c.args.s in
    type_num K line t c.typed.result (sym (c.spells.ensures ∙ ap (λ x. same x k_num) c.word_of-word.ensures) ∙ c.if-spells.true) (ap (verdict_said K t) c.typed.ensures)

pub returns-then-spells-2 : goal.returns-then-spells-2
returns-then-spells-2 g c =
    let K = g.L.Lookup.book c.args.self.now.look.now (take c.args.self.now.b.base c.args.words.now) in
    let line = take c.args.self.now.b.len c.args.words.now in
    let t = span_of line c.args.s in
    type_bool K line t c.typed-then-spells-2.result (sym (c.spells.ensures ∙ ap (λ x. same x k_num) c.word_of-word.ensures) ∙ c.if-spells.false) (sym (c.spells-2.ensures ∙ ap (λ x. same x k_bool) c.word_of-word.ensures) ∙ c.if-spells-2.true) (ap (verdict_said K t) c.typed-then-spells-2.ensures)

pub returns : goal.returns
returns g c =
    let K = g.L.Lookup.book c.args.self.now.look.now (take c.args.self.now.b.base c.args.words.now) in
    let line = take c.args.self.now.b.len c.args.words.now in
    let t = span_of line c.args.s in
    let m = c.in_ok-m.m in
    type_here K line t (meaning_is K m) c.judge.result (sym (c.spells.ensures ∙ ap (λ x. same x k_num) c.word_of-word.ensures) ∙ c.if-spells.false) (sym (c.spells-2.ensures ∙ ap (λ x. same x k_bool) c.word_of-word.ensures) ∙ c.if-spells-2.false) c.in_ok-m.ensures (c.judge.ensures t)
