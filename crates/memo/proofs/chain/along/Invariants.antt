-- Invariant and measure of along.
use Rattle.std.proofs.Common.{ℕ, List}
use Rattle.memo.specs.Chain.{Chained}
use Rattle.memo.proofs.chain.along.Given as goal

abbrev pub invariant-loop-depth : goal.invariant-loop-depth
invariant-loop-depth l = ((m : ℕ) × (q : List ℕ) × Chained l.words m q l.k l.depth) × ((m : ℕ) (q : List ℕ) → Chained l.words m q l.k l.from → Chained l.words m q l.k l.depth)

abbrev pub decreases-loop-depth : goal.decreases-loop-depth
decreases-loop-depth l = l.depth
