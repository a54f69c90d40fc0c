-- Invariant of move_all.
use Rattle.store.proofs.Keeps.{Moving}
use Rattle.store.proofs.reclaim.move_all.Given as goal

abbrev pub invariant-loop-p : goal.invariant-loop-p
invariant-loop-p l = Moving l.from.sizes.buckets l.from.sizes.cap l.from.files.now l.from.words.now l.table l.row l.p-index
