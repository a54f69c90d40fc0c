use Rattle.std.proofs.Common.{vec_items}
use Rattle.protocol.proofs.Written.{number_more, numbers_whole}
use Rattle.protocol.proofs.reply.push_spaced.Goals as goal

pub loop-w-preserved : goal.loop-w-preserved
loop-w-preserved c = number_more (vec_items c.loop-w.out) (vec_items c.push_count.new.out) c.args.words.now _ c.loop-w.w-index c.loop-w-test.true c.in_ok-push_count.ensures c.loop-w.invariant

pub returns : goal.returns
returns c = numbers_whole (vec_items c.loop-w.out) c.args.words.now _ c.loop-w.w-index c.loop-w-test.false c.loop-w.invariant
