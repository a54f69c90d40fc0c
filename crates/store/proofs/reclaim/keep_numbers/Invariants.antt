-- Invariant of keep_numbers.
use Rattle.std.proofs.Common.{take}
use Rattle.store.specs.Reclaim.{AllKept}
use Rattle.store.proofs.reclaim.keep_numbers.Given as goal

abbrev pub invariant-loop-n : goal.invariant-loop-n
invariant-loop-n l = AllKept l.from.sizes.buckets l.from.sizes.cap l.from.words.now l.initial.row l.row (take l.n-index l.ns)
