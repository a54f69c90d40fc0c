-- Invariant and measure of gather.
use Rattle.memo.proofs.Repacks.{Gather}
use Rattle.memo.proofs.repack.gather.Given as goal

abbrev pub invariant-loop-d : goal.invariant-loop-d
invariant-loop-d l = Gather l.words l.work l.d l.g l.n

abbrev pub decreases-loop-d : goal.decreases-loop-d
decreases-loop-d l = l.d
