-- What is proved by hand of got_at.
use Rattle.std.proofs.Common.{◌+◌, ◌*◌, sym, arith}
use Rattle.std.proofs.lemmas.List.{get_or_past}
use Rattle.trials.proofs.small.got_at.Goals as goal

pub returns : goal.returns
returns c = sym (get_or_past c.args.row.now (2 * c.args.i + 1) 0 (omega arith))
