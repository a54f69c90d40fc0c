-- Invariant and measure of run.
use Rattle.std.proofs.Common.{◌≡◌, suc, take, drop}
use Rattle.engine.specs.Machine.{left}
use Rattle.memo.specs.Log.{kept_entries, spare}
use Rattle.driver.specs.Says.{memo_in}
use Rattle.driver.proofs.Decode.{decoded}
use Rattle.driver.proofs.Going.{Going}
use Rattle.driver.proofs.state.Desk.run.Given as goal

abbrev pub invariant-loop-n : goal.invariant-loop-n
invariant-loop-n g l =
    Going (g.R.Rules.book l.initial.rules) (g.I.Inputs.given l.inputs (take l.self.known l.initial.mem)) l.k (kept_entries (memo_in l.self.known l.self.memo l.initial.mem)) l.mark l.self.known l.self.memo l.initial.mem (g.R.Rules.runs l.initial.rules) (spare (memo_in l.self.known l.self.memo l.initial.mem)) l.mem (g.R.Rules.runs l.rules) l.at
    × (g.R.Rules.book l.rules ≡ g.R.Rules.book l.initial.rules)

abbrev pub decreases-loop-n : goal.decreases-loop-n
decreases-loop-n g l =
    left (g.R.Rules.book l.initial.rules) (g.I.Inputs.given l.inputs (take l.self.known l.initial.mem)) (suc ((g.R.Rules.book l.initial.rules).rank l.k)) (decoded (memo_in l.self.known l.self.memo l.mem) (drop l.self.memo l.mem) l.at.rows l.at.frames l.at.now)
