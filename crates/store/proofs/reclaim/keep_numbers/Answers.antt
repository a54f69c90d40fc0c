-- What is proved by hand of keep_numbers.
use Rattle.interner.specs.Index.{Live}
use Rattle.interner.proofs.Lists.{every_at}
use Rattle.store.proofs.Keeps.{all_begin, all_more}
use Rattle.store.proofs.reclaim.keep_numbers.Goals as goal

pub loop-n-init : goal.loop-n-init
loop-n-init c = all_begin _ _ _ _ c.args.ns.now c.requires.1.1

pub keep_number-requires : goal.keep_number-requires
keep_number-requires c = (c.requires.0, (every_at (Live c.args.from.sizes.buckets c.args.from.words.now) c.args.ns.now c.loop-n.n-index c.loop-n-test.true c.requires.1.0, c.loop-n.invariant.part))

pub loop-n-preserved : goal.loop-n-preserved
loop-n-preserved c = all_more _ _ _ _ _ _ _ _ c.loop-n-test.true c.loop-n.invariant c.in_ok-keep_number.ensures
