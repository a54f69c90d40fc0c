use Rattle.std.proofs.Common.{sym, refl, arith}
use Rattle.findings.proofs.Puts.{gathered_length, gives_more}
use Rattle.findings.proofs.give.give_faults.Goals as goal

pub returns-then-n-out : goal.returns-then-n-out
returns-then-n-out c = (sym (gathered_length c.args.words.now c.args.q c.args.n), omega arith, refl)

pub loop-i-preserved : goal.loop-i-preserved
loop-i-preserved c = gives_more c.args.words.now c.args.q c.loop-i.i c.args.out.now c.loop-i.out c.put_three.new.out c.loop-i.invariant c.put_three.ensures
