-- What is proved by hand of replace.
use Rattle.std.proofs.Common.{refl, arith}
use Rattle.text_row.proofs.Changing.{no_change, files_there, replace_refused, replace_make, replace_work, replace_record, replace_can, replace_changed, replace_says}
use Rattle.text_row.proofs.row.Row.replace.Goals as goal

pub room_with-requires : goal.room_with-requires
room_with-requires c = record { row = c.requires.row; there = files_there _ _ _ c.requires.row _ _ c.requires.found; short = (omega (arith, c.requires.short.0, c.requires.row.small), omega (arith, c.requires.short.1, c.requires.row.small)) }

pub returns-then-room_with-mem : goal.returns-then-room_with-mem
returns-then-room_with-mem c = record { kept = no_change _ _ _ c.requires.row; says = (refl, replace_refused _ _ _ _ _ c.args.text.now _ refl c.requires.row c.requires.found c.room_with.result c.room_with.ensures c.if-room_with-mem.true) }

pub make_room-requires : goal.make_room-requires
make_room-requires c = replace_make _ _ _ _ _ c.args.text.now _ refl c.requires.row c.requires.found c.room_with.result c.room_with.ensures c.if-room_with-mem.false

pub widen-requires : goal.widen-requires
widen-requires c = omega (arith, replace_work _ _ _ _ _ c.args.text.now _ refl c.requires.row c.requires.found c.room_with.result c.room_with.ensures c.if-room_with-mem.false, c.make_room.auto.mem)

pub name_of-f-requires : goal.name_of-f-requires
name_of-f-requires c = replace_record _ _ _ _ _ c.args.text.now _ refl c.requires.row c.requires.found c.room_with.result c.room_with.ensures c.if-room_with-mem.false _ c.make_room.auto.mem c.make_room.ensures _ c.widen.auto.mem c.widen.ensures.below

pub put_text-requires : goal.put_text-requires
put_text-requires c = rw c.name_of-f.ensures.2 (replace_can _ _ _ _ _ c.args.text.now _ refl c.requires.row c.requires.found c.room_with.result c.room_with.ensures c.if-room_with-mem.false _ c.make_room.auto.mem c.make_room.ensures _ c.widen.auto.mem c.widen.ensures.below _ c.name_of-f.ensures.1)

pub returns : goal.returns
returns c = record { kept = replace_changed _ _ _ _ _ c.args.text.now _ refl c.requires.row c.requires.found c.room_with.result c.room_with.ensures c.if-room_with-mem.false _ c.make_room.auto.mem c.make_room.ensures _ c.widen.auto.mem c.widen.ensures.below _ c.name_of-f.ensures.1 c.widen.ensures.there _ c.put_text.auto.mem (rw c.name_of-f.ensures.2 at c.put_text.ensures); says = replace_says _ _ _ _ _ c.args.text.now _ refl c.requires.row c.requires.found c.room_with.result c.room_with.ensures c.if-room_with-mem.false _ c.make_room.auto.mem c.make_room.ensures _ c.widen.auto.mem c.widen.ensures.below _ c.name_of-f.ensures.1 c.widen.ensures.there _ c.put_text.auto.mem (rw c.name_of-f.ensures.2 at c.put_text.ensures) }
