-- Invariant of add_up.
use Rattle.std.proofs.Common.{◌≡◌, ◌<◌}
use Rattle.trials.specs.Small.{sum}
use Rattle.trials.proofs.small.add_up.Given as goal

abbrev pub invariant-loop-i : goal.invariant-loop-i
invariant-loop-i l = (l.s ≡ sum l.i l.row) × (l.s < 65536)
