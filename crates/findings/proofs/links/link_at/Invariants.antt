use Rattle.checker.specs.Rows.{events_of}
use Rattle.findings.specs.Linking.{StillAhead}
use Rattle.findings.proofs.links.link_at.Given as goal

abbrev pub invariant-loop-span : goal.invariant-loop-span
invariant-loop-span l = StillAhead l.words l.fn.f.at l.fn.f.count l.place (events_of l.span-iterator.0.now)
