use Rattle.checker.specs.Whole.{WentOn}
use Rattle.checker.proofs.check.Checker.walk.Given as goal

abbrev pub invariant-loop-i : goal.invariant-loop-i
invariant-loop-i g l = WentOn (g.L.Lookup.book l.self.look.now) l.self.b l.initial.words l.i l.p l.words
