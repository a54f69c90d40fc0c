use Rattle.std.proofs.Common.{take}
use Rattle.grammar.specs.Machine.{effort}
use Rattle.parser.proofs.Loop.{state, Holds}
use Rattle.parser.proofs.parse.parse.Given as goal

abbrev pub invariant-loop-m : goal.invariant-loop-m
invariant-loop-m l = Holds l.initial.p l.initial.words l.words l.phase l.p

abbrev pub decreases-loop-m : goal.decreases-loop-m
decreases-loop-m l = effort (state (take l.len l.initial.words) l.words l.phase l.p)
