use Rattle.std.proofs.Common.{arith}
use Rattle.findings.proofs.Puts.{put_next, put_all}
use Rattle.findings.proofs.give.give_words.Goals as goal

pub loop-i-preserved : goal.loop-i-preserved
loop-i-preserved c = rw c.from.ensures (put_next c.args.words.now c.loop-i.i c.args.k c.args.out.now c.loop-i.out (omega arith) (omega (arith, c.loop-i.invariant.long)) c.loop-i.invariant)

pub returns : goal.returns
returns c = put_all c.args.words.now c.loop-i.i c.args.k c.args.out.now c.loop-i.out (omega arith) c.loop-i.invariant
