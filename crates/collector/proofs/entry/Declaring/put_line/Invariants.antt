use Rattle.collector.proofs.Lined.{Partly}
use Rattle.collector.proofs.entry.Declaring.put_line.Given as goal

-- the first i declarations stand
abbrev pub invariant-loop-i : goal.invariant-loop-i
invariant-loop-i l = Partly l.self.l l.initial.words l.self.line l.self.origin l.at l.i l.to l.words
