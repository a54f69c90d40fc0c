-- What is proved by hand of add.
use Rattle.std.proofs.Common.{refl, arith}
use Rattle.text_row.proofs.Changing.{no_change, add_refused, add_make, add_work, add_intern, add_can, add_changed, add_says}
use Rattle.text_row.proofs.row.Row.add.Goals as goal

pub room_with-requires : goal.room_with-requires
room_with-requires c = record { row = c.requires.row; there = omega arith; short = (omega (arith, c.requires.short.0, c.requires.row.small), omega (arith, c.requires.short.1, c.requires.row.small)) }

pub returns-then-room_with-mem : goal.returns-then-room_with-mem
returns-then-room_with-mem c = record { kept = no_change _ _ _ c.requires.row; says = (refl, add_refused _ _ c.args.name.now c.args.text.now _ c.requires.row c.requires.missing c.room_with.result (rw c.count-k.ensures at c.room_with.ensures) c.if-room_with-mem.true) }

pub make_room-requires : goal.make_room-requires
make_room-requires c = add_make _ _ c.args.name.now c.args.text.now _ c.requires.row c.requires.missing c.room_with.result (rw c.count-k.ensures at c.room_with.ensures) c.if-room_with-mem.false

pub widen-requires : goal.widen-requires
widen-requires c = omega (arith, (add_work _ _ c.args.name.now c.args.text.now _ c.requires.row c.requires.missing c.room_with.result (rw c.count-k.ensures at c.room_with.ensures) c.if-room_with-mem.false).0, c.make_room.auto.mem)

pub intern-f-requires : goal.intern-f-requires
intern-f-requires c = rw c.here.ensures (add_intern _ _ c.args.name.now c.args.text.now _ c.requires.row c.requires.missing c.room_with.result (rw c.count-k.ensures at c.room_with.ensures) c.if-room_with-mem.false _ c.make_room.auto.mem c.make_room.ensures _ c.widen.auto.mem c.widen.ensures)

pub widen-requires-2 : goal.widen-requires-2
widen-requires-2 c = omega (arith, (add_work _ _ c.args.name.now c.args.text.now _ c.requires.row c.requires.missing c.room_with.result (rw c.count-k.ensures at c.room_with.ensures) c.if-room_with-mem.false).1, c.make_room.auto.mem, c.widen.auto.mem, c.intern-f.auto.mem)

pub put_text-requires : goal.put_text-requires
put_text-requires c = rw c.count-k.ensures (add_can _ _ c.args.name.now c.args.text.now _ c.requires.row c.requires.missing c.room_with.result (rw c.count-k.ensures at c.room_with.ensures) c.if-room_with-mem.false _ c.make_room.auto.mem c.make_room.ensures _ c.widen.auto.mem c.widen.ensures _ _ c.intern-f.auto.mem (rw c.here.ensures at c.intern-f.ensures) _ c.widen-2.auto.mem c.widen-2.ensures)

pub returns : goal.returns
returns c = record { kept = add_changed _ _ c.args.name.now c.args.text.now _ c.requires.row c.requires.missing c.room_with.result (rw c.count-k.ensures at c.room_with.ensures) c.if-room_with-mem.false _ c.make_room.auto.mem c.make_room.ensures _ c.widen.auto.mem c.widen.ensures _ _ c.intern-f.auto.mem (rw c.here.ensures at c.intern-f.ensures) _ c.widen-2.auto.mem c.widen-2.ensures _ c.put_text.auto.mem (rw c.count-k.ensures at c.put_text.ensures); says = add_says _ _ c.args.name.now c.args.text.now _ c.requires.row c.requires.missing c.room_with.result (rw c.count-k.ensures at c.room_with.ensures) c.if-room_with-mem.false _ c.make_room.auto.mem c.make_room.ensures _ c.widen.auto.mem c.widen.ensures _ _ c.intern-f.auto.mem (rw c.here.ensures at c.intern-f.ensures) _ c.widen-2.auto.mem c.widen-2.ensures _ c.put_text.auto.mem (rw c.count-k.ensures at c.put_text.ensures) }
