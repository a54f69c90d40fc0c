use Rattle.std.proofs.Common.{take, sym, ap, ◌∙◌}
use mathlib.Core.Option.{some}
use Rattle.parser.specs.Rows.{span_of}
use Rattle.checker.specs.Rows.{meaning_is, verdict_said}
use Rattle.checker.specs.Types.{type_is}
use Rattle.checker.proofs.Asks.{meaning_known, field_none, field_plain, field_there}
use Rattle.checker.proofs.check.Checker.field_of.Goals as goal

pub returns-in_default : goal.returns-in_default
returns-in_default g c =
    let K = g.L.Lookup.book c.args.self.now.look.now (take c.args.self.now.b.base c.args.words.now) in
    let line = take c.args.self.now.b.len c.args.words.now in
    let t = span_of line c.args.x in
    field_none K line t c.typed.result _ (c.in_default.ensures.is K) (ap (verdict_said K t) c.typed.ensures)

pub returns-in_default-ty : goal.returns-in_default-ty
returns-in_default-ty g c =
    let K = g.L.Lookup.book c.args.self.now.look.now (take c.args.self.now.b.base c.args.words.now) in
    let line = take c.args.self.now.b.len c.args.words.now in
    let t = span_of line c.args.x in
    field_plain K line t c.wrong.result _ c.in-Some.ty (c.in-Some.ensures.is K) c.in_default-ty.not-Of (ap (verdict_said K t) c.wrong.ensures)

pub returns : goal.returns
returns g c =
    let K = g.L.Lookup.book c.args.self.now.look.now (take c.args.self.now.b.base c.args.words.now) in
    let line = take c.args.self.now.b.len c.args.words.now in
    let t = span_of line c.args.x in
    let m = c.in_ok-m.m in
    let o = K.types c.in-Of.of.0 in
    field_there K line t c.member.result _ o (meaning_is K m) (ap (λ x. some (type_is K x)) (sym c.in-Of.is) ∙ c.in-Some.ensures.is K) (meaning_known K _ c.there.result _ m c.there.ensures (sym c.ok_or.ensures.value ∙ c.in_ok-m.was)) c.member.ensures
