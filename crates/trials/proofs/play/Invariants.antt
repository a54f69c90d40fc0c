-- Invariant of play.
use Rattle.trials.specs.Desk.{Ready}
use Rattle.trials.proofs.play.Given as goal

abbrev pub invariant-loop-s : goal.invariant-loop-s
invariant-loop-s g l = Ready l.row
