use Rattle.findings.specs.Gathered.{Gathering}
use Rattle.findings.proofs.faults.gather.Given as goal

abbrev pub invariant-loop-i : goal.invariant-loop-i
invariant-loop-i l = Gathering l.fn.words l.fn.f.at l.start l.q l.n l.out l.m l.i
