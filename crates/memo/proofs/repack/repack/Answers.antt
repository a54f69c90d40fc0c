-- What is proved by hand of repack.
use Rattle.memo.proofs.Repacks.{gathered_rebuilds}
use Rattle.std.proofs.Common.{arith}
use Rattle.memo.proofs.repack.repack.Goals as goal

pub rebuild-requires : goal.rebuild-requires
rebuild-requires c = let k = c.gather.auto.work in let a = c.requires.1.0 in let b = c.requires.1.1 in record { says = gathered_rebuilds c.args.words.now c.gather.new.work c.in_ok-m.m c.requires.0 c.in_ok-m.ensures; small = (a, omega arith) }
