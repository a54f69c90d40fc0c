-- Invariant of put_in_order.
use Rattle.std.proofs.Common.{◌≡◌, List, ◌++◌, take, drop}
use Rattle.engine.specs.Engine.{Got}
use Rattle.memo.specs.Rows.{keys}
use Rattle.driver.proofs.Asked.{backwards}
use Rattle.driver.proofs.stack.put_in_order.Given as goal

abbrev pub invariant-loop-i : goal.invariant-loop-i
invariant-loop-i l = (gs : List Got) → l.initial.asked ≡ backwards gs → l.asked ≡ keys (take l.i gs) ++ backwards (drop l.i gs)
