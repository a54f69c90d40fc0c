use Rattle.symbols.specs.Rows.{texts_in}
use Rattle.collector.proofs.Listing.{Listing}
use Rattle.collector.proofs.line.FileIn.put_uses.Given as goal

-- what the lines before the i-th use is listed
abbrev pub invariant-loop-i : goal.invariant-loop-i
invariant-loop-i g l = Listing (g.S.Source.holds l.source (texts_in l.self.l l.initial.words)) l.self.l l.self.file l.initial.words l.at l.i l.to l.words
