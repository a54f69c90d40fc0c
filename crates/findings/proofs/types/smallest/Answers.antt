use Rattle.std.proofs.Common.{ap, ◌∙◌}
use Rattle.checker.specs.Rows.{events_of}
use Rattle.findings.proofs.Closest.{all_ahead}
use Rattle.findings.proofs.types.smallest.Goals as goal

pub loop-span-init : goal.loop-span-init
loop-span-init c = all_ahead c.args.words.now c.args.f.at c.args.f.count c.args.place _ (ap (λ s. events_of s.0.now) c.into_iter-span-iterator.ensures.into_iter_gives ∙ c.all_said-span-items.ensures)
