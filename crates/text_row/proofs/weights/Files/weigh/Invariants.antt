-- Invariant of weigh.
use Rattle.std.proofs.Common.{◌+◌, min}
use Rattle.text_row.specs.Files.{texts}
use Rattle.text_row.proofs.Loads.{Weighing}
use Rattle.text_row.proofs.weights.Files.weigh.Given as goal

abbrev pub invariant-loop-p : goal.invariant-loop-p
invariant-loop-p l = Weighing (texts l.self.unit l.self.table.now l.self.words.now) l.from l.to l.total l.largest (min l.from l.to + l.p-index)
