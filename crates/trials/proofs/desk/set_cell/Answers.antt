-- What is proved by hand of set_cell.
use Rattle.std.proofs.Common.{set, ap, length-set}
use Rattle.memo.specs.Log.{kept_entries}
use Rattle.trials.proofs.Desks.{cell_set, still_ready}
use Rattle.trials.proofs.desk.set_cell.Goals as goal

pub returns : goal.returns
returns c =
    let ws = c.args.row.now in
    let e = cell_set ws c.args.a c.args.v c.requires.1 in
    record { ready = still_ready ws (set ws c.args.a c.args.v) e (length-set ws c.args.a c.args.v) c.requires.0; entries = ap kept_entries e }
