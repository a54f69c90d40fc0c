use Rattle.checker.specs.Rows.{events_of}
use Rattle.findings.specs.Smallest.{Closing}
use Rattle.findings.proofs.types.smallest.Given as goal

abbrev pub invariant-loop-span : goal.invariant-loop-span
invariant-loop-span l = Closing l.words l.fn.f.at l.fn.f.count l.place (events_of l.span-iterator.0.now) l.best
