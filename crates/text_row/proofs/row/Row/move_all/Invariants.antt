-- Invariant of move_all.
use Rattle.std.proofs.Common.{◌*◌}
use Rattle.text_row.proofs.Moving.{Moving}
use Rattle.text_row.proofs.row.Row.move_all.Given as goal

abbrev pub invariant-loop-k : goal.invariant-loop-k
invariant-loop-k l = Moving l.self.unit l.self.unit (2 * l.self.unit) (11 * l.self.unit) l.self.work l.initial.mem l.mem l.k
