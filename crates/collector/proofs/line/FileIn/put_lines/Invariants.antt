use Rattle.symbols.specs.Rows.{texts_in}
use Rattle.collector.proofs.Filed.{Done}
use Rattle.collector.proofs.line.FileIn.put_lines.Given as goal

-- the lines before the i-th are done
abbrev pub invariant-loop-i : goal.invariant-loop-i
invariant-loop-i g l = Done (g.S.Source.holds l.source (texts_in l.self.l l.initial.words)) l.self.l l.self.file l.initial.words l.at l.i l.start l.count l.to l.words
