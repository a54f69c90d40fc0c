-- Invariant of drop_named.
use Rattle.interner.proofs.Places.{Dropping}
use Rattle.interner.proofs.records.drop_named.Given as goal

abbrev pub invariant-loop-k : goal.invariant-loop-k
invariant-loop-k l = Dropping l.initial.table l.words l.name l.table l.k l.j
