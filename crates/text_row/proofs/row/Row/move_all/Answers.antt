-- What is proved by hand of move_all.
use Rattle.std.proofs.Common.{arith}
use Rattle.text_row.proofs.Moving.{w_in, many_in, many_is, move_begins, can_move, moves_on, move_ends}
use Rattle.text_row.proofs.row.Row.move_all.Goals as goal

pub loop-k-init : goal.loop-k-init
loop-k-init c = move_begins _ _ _ _ _ _ c.requires.0 c.requires.1

pub move_file-r-requires : goal.move_file-r-requires
move_file-r-requires c = let e = many_is _ _ _ _ _ _ c.requires.0 in can_move _ _ _ _ _ _ c.requires.0 _ _ c.loop-k.invariant (omega (arith, c.loop-k-test.true))

pub loop-k-preserved : goal.loop-k-preserved
loop-k-preserved c = let e = many_is _ _ _ _ _ _ c.requires.0 in moves_on _ _ _ _ _ _ c.requires.0 _ _ c.loop-k.invariant (omega (arith, c.loop-k-test.true)) _ _ c.move_file-r.auto.mem c.move_file-r.ensures

pub returns : goal.returns
returns c = let e = many_is _ _ _ _ _ _ c.requires.0 in move_ends _ _ _ _ _ _ c.requires.0 _ _ c.loop-k.invariant (omega (arith, c.loop-k-test.false))

pub bounds-mem-unit-in-loop-k : goal.bounds-mem-unit-in-loop-k
bounds-mem-unit-in-loop-k c = let e = many_is _ _ _ _ _ _ c.requires.0 in omega (arith, many_in _ _ _ _ _ _ c.requires.0, w_in _ _ _ _ _ _ c.requires.0, c.loop-k.invariant.long, c.requires.0.table_below, c.requires.0.apart, c.requires.0.above)

pub bounds-mem-unit-in-loop-k-2 : goal.bounds-mem-unit-in-loop-k-2
bounds-mem-unit-in-loop-k-2 c = let e = many_is _ _ _ _ _ _ c.requires.0 in omega (arith, many_in _ _ _ _ _ _ c.requires.0, w_in _ _ _ _ _ _ c.requires.0, c.move_file-r.auto.mem, c.loop-k.invariant.long, c.requires.0.table_below, c.requires.0.apart, c.requires.0.above)
