-- Invariant and measure of find_in.
use Rattle.interner.specs.Index.{place}
use Rattle.interner.proofs.Chains.{Walk}
use Rattle.interner.proofs.index.Sizes.find_in.Given as goal

abbrev pub invariant-chain : goal.invariant-chain
invariant-chain l = Walk l.self.buckets l.words l.key l.n

abbrev pub decreases-chain : goal.decreases-chain
decreases-chain l = place l.self.buckets l.words l.n
