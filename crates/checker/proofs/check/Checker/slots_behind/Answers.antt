use Rattle.std.proofs.Common.{take, sym, ap, ◌∙◌, arith}
use Rattle.semantics.specs.Walk.{pop}
use Rattle.checker.specs.Rows.{slots_is}
use Rattle.checker.proofs.Ahead.{next_left, none_left}
use Rattle.checker.proofs.check.Checker.slots_behind.Goals as goal

pub returns-then-next-slots : goal.returns-then-next-slots
returns-then-next-slots g c =
    let K = g.L.Lookup.book c.args.self.now.look.now (take c.args.self.now.b.base c.args.words.now) in
    let s = c.in_ok-sig.field-0 in
    none_left K s.sig.0 s.next (omega arith) ∙ ap (λ o. pop (slots_is K o)) (sym c.in_ok-sig.was)

pub returns : goal.returns
returns g c =
    let K = g.L.Lookup.book c.args.self.now.look.now (take c.args.self.now.b.base c.args.words.now) in
    let s = c.in_ok-sig.field-0 in
    next_left K s.sig.0 s.next ∙ ap (λ o. pop (slots_is K o)) (sym c.in_ok-sig.was)
