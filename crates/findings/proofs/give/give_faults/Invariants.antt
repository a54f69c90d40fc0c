use Rattle.findings.specs.Giving.{Giving}
use Rattle.findings.proofs.give.give_faults.Given as goal

abbrev pub invariant-loop-i : goal.invariant-loop-i
invariant-loop-i l = Giving l.words l.q l.i l.initial.out l.out
