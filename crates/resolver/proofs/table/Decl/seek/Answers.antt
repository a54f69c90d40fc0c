use Rattle.std.proofs.Common.{◌+◌, ◌-◌, ◌*◌, sym, ap, ◌∙◌, arith}
use Rattle.base.specs.Base.{same}
use Rattle.resolver.specs.Resolve.{seek}
use Rattle.resolver.proofs.Loops.{seek_miss}
use Rattle.resolver.proofs.table.Decl.seek.Goals as goal

pub loop-i-preserved : goal.loop-i-preserved
loop-i-preserved c =
    let left = c.args.n - (c.loop-i._i + 1) in
    c.loop-i.invariant ∙ (seek_miss c.args.self.words.now c.args.name.now (c.args.n - c.loop-i._i) left c.loop-i.«at» (omega arith) (omega arith) (sym (c.same_word.ensures ∙ ap (λ x. same x c.args.name.now) c.name.ensures) ∙ c.if-same_word.false)
    ∙ ap (λ n. seek c.args.self.words.now c.args.name.now left (c.loop-i.«at» + (9 + 4 * n))) (sym c.field_count.ensures))
