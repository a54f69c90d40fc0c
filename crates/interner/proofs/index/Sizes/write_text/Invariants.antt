-- Invariant of write_text.
use Rattle.std.proofs.Common.{get_or}
use Rattle.interner.proofs.Writing.{Writing}
use Rattle.interner.proofs.index.Sizes.write_text.Given as goal

abbrev pub invariant-loop-n : goal.invariant-loop-n
invariant-loop-n l = Writing l.self.buckets l.words (get_or l.ns 0 0) l.others l.out l.end l.n-index
