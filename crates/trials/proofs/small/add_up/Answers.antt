-- What is proved by hand of add_up.
use Rattle.std.proofs.Common.{◌+◌, ◌%◌, sym, ap, ◌∙◌, add-one, arith}
use Rattle.trials.specs.Small.{sum}
use Rattle.trials.proofs.small.add_up.Goals as goal

pub loop-i-preserved : goal.loop-i-preserved
loop-i-preserved c =
    ((λ t. (c.loop-i.invariant.0 t + c.got_at.ensures t) % 65536) ∙ ap (λ n. sum n c.args.row.now) (sym (add-one c.loop-i.i)), omega arith)
