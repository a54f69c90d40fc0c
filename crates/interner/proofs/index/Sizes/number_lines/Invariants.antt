-- Invariant and measure of number_lines.
use Rattle.std.proofs.Common.{◌+◌, ◌-◌, length}
use Rattle.interner.proofs.Numbering.{Going}
use Rattle.interner.proofs.index.Sizes.number_lines.Given as goal

abbrev pub invariant-lines : goal.invariant-lines
invariant-lines l = Going l.self.buckets l.self.cap l.initial.words l.text l.words l.out l.from l.k

abbrev pub decreases-lines : goal.decreases-lines
decreases-lines l = length l.text + 1 - l.from
