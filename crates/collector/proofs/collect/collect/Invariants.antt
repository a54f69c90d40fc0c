use Rattle.symbols.specs.Rows.{texts_in}
use Rattle.collector.proofs.Tables.{Tabling}
use Rattle.collector.proofs.collect.collect.Given as goal

-- the files before the k-th are done
abbrev pub invariant-loop-k : goal.invariant-loop-k
invariant-loop-k g l = Tabling (g.S.Source.holds l.source (texts_in l.l l.initial.words)) l.l l.initial.words l.k l.at l.words
