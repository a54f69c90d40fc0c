use Rattle.std.proofs.Common.{take}
use Rattle.findings.specs.Giving.{Put}
use Rattle.findings.proofs.give.give_words.Given as goal

abbrev pub invariant-loop-i : goal.invariant-loop-i
invariant-loop-i l = Put (take l.i l.words) l.k l.initial.out l.out
