-- Invariant of free_number.
use Rattle.std.proofs.Common.{ℕ, ◌<◌}
use Rattle.interner.specs.Index.{place}
use Rattle.interner.proofs.index.Sizes.free_number.Given as goal

abbrev pub invariant-loop-n : goal.invariant-loop-n
invariant-loop-n l = (k : ℕ) → k < l.n → 0 < k → 0 < place l.self.buckets l.words k
