-- What is proved by hand of edit_at.
use Rattle.std.proofs.Common.{refl, inl, inr, arith}
use Rattle.semantics.specs.Answers.{edits}
use Rattle.text_row.proofs.Changing.{long_in, no_change, files_there, old_long, name_short, old_short, edit_long, edit_large, can_lay, laid_there, replace_refused, replace_make, replace_work, replace_record, replace_can, replace_changed, replace_says}
use Rattle.text_row.proofs.row.Row.edit_at.Goals as goal

pub record_of-q-requires : goal.record_of-q-requires
record_of-q-requires c = (c.requires.row.order.fits, (c.requires.found.there, long_in _ _ _ c.requires.row))

pub returns-then-to-from : goal.returns-then-to-from
returns-then-to-from c = let e = old_long _ _ _ c.args.edit.from c.args.edit.to c.args.name.now c.args.edit.new.now _ c.requires.row c.requires.found _ c.record_of-q.ensures in record { kept = no_change _ _ _ c.requires.row; says = (c.requires.found.file, refl, c.requires.found.first, elim c.then-to-from.either [ inl h ↦ inl h | inr h ↦ inr (omega (arith, h.1)) ]) }

pub returns-then-new-mem : goal.returns-then-new-mem
returns-then-new-mem c = let e = old_long _ _ _ c.args.edit.from c.args.edit.to c.args.name.now c.args.edit.new.now _ c.requires.row c.requires.found _ c.record_of-q.ensures in record { kept = no_change _ _ _ c.requires.row; says = (c.requires.found.file, refl, c.requires.found.first, c.if-to-from.false, omega (arith, c.if-old-to.false), edit_large _ _ _ _ _ c.args.name.now c.args.edit.new.now _ c.requires.row c.requires.found _ c.record_of-q.ensures c.if-to-from.false c.if-old-to.false c.if-new-mem.true) }

pub overflow_add-len : goal.overflow_add-len
overflow_add-len c = let s = old_short _ _ _ c.args.edit.from c.args.edit.to c.args.name.now c.args.edit.new.now _ c.requires.row c.requires.found _ c.record_of-q.ensures in omega (arith, c.if-to-from.false, c.if-old-to.false, c.if-new-mem.false, c.requires.row.small)

pub overflow_add-len-2 : goal.overflow_add-len-2
overflow_add-len-2 c = let s = old_short _ _ _ c.args.edit.from c.args.edit.to c.args.name.now c.args.edit.new.now _ c.requires.row c.requires.found _ c.record_of-q.ensures in omega (arith, c.if-to-from.false, c.if-old-to.false, c.if-new-mem.false, c.requires.row.small)

pub room_with-requires : goal.room_with-requires
room_with-requires c = let s = old_short _ _ _ c.args.edit.from c.args.edit.to c.args.name.now c.args.edit.new.now _ c.requires.row c.requires.found _ c.record_of-q.ensures in record { row = c.requires.row; there = files_there _ _ _ c.requires.row _ _ c.requires.found; short = (name_short _ _ _ c.args.edit.from c.args.edit.to c.args.name.now c.args.edit.new.now _ c.requires.row c.requires.found _ c.record_of-q.ensures, omega (arith, c.if-to-from.false, c.if-old-to.false, c.if-new-mem.false, c.requires.row.small)) }

pub returns-then-room_with-mem : goal.returns-then-room_with-mem
returns-then-room_with-mem c = let e = old_long _ _ _ c.args.edit.from c.args.edit.to c.args.name.now c.args.edit.new.now _ c.requires.row c.requires.found _ c.record_of-q.ensures in record { kept = no_change _ _ _ c.requires.row; says = (c.requires.found.file, refl, c.requires.found.first, c.if-to-from.false, omega (arith, c.if-old-to.false), replace_refused _ _ _ _ _ (edits c.args.edit.from c.args.edit.to c.args.edit.new.now c.requires.found.file.text) _ (edit_long _ _ _ _ _ c.args.name.now c.args.edit.new.now _ c.requires.row c.requires.found _ c.record_of-q.ensures c.if-to-from.false c.if-old-to.false) c.requires.row c.requires.found c.room_with.result c.room_with.ensures c.if-room_with-mem.true) }

pub make_room-requires : goal.make_room-requires
make_room-requires c = replace_make _ _ _ _ _ (edits c.args.edit.from c.args.edit.to c.args.edit.new.now c.requires.found.file.text) _ (edit_long _ _ _ _ _ c.args.name.now c.args.edit.new.now _ c.requires.row c.requires.found _ c.record_of-q.ensures c.if-to-from.false c.if-old-to.false) c.requires.row c.requires.found c.room_with.result c.room_with.ensures c.if-room_with-mem.false

pub lay_edited-requires : goal.lay_edited-requires
lay_edited-requires c = can_lay _ _ _ _ _ c.args.name.now c.args.edit.new.now _ c.requires.row c.requires.found _ c.record_of-q.ensures c.if-to-from.false c.if-old-to.false _ c.make_room.auto.mem c.make_room.ensures (replace_work _ _ _ _ _ (edits c.args.edit.from c.args.edit.to c.args.edit.new.now c.requires.found.file.text) _ (edit_long _ _ _ _ _ c.args.name.now c.args.edit.new.now _ c.requires.row c.requires.found _ c.record_of-q.ensures c.if-to-from.false c.if-old-to.false) c.requires.row c.requires.found c.room_with.result c.room_with.ensures c.if-room_with-mem.false)

pub name_of-f-requires : goal.name_of-f-requires
name_of-f-requires c = replace_record _ _ _ _ _ (edits c.args.edit.from c.args.edit.to c.args.edit.new.now c.requires.found.file.text) _ (edit_long _ _ _ _ _ c.args.name.now c.args.edit.new.now _ c.requires.row c.requires.found _ c.record_of-q.ensures c.if-to-from.false c.if-old-to.false) c.requires.row c.requires.found c.room_with.result c.room_with.ensures c.if-room_with-mem.false _ c.make_room.auto.mem c.make_room.ensures _ c.lay_edited.auto.mem c.lay_edited.ensures.below

pub put_text-requires : goal.put_text-requires
put_text-requires c = rw c.name_of-f.ensures.2 (replace_can _ _ _ _ _ (edits c.args.edit.from c.args.edit.to c.args.edit.new.now c.requires.found.file.text) _ (edit_long _ _ _ _ _ c.args.name.now c.args.edit.new.now _ c.requires.row c.requires.found _ c.record_of-q.ensures c.if-to-from.false c.if-old-to.false) c.requires.row c.requires.found c.room_with.result c.room_with.ensures c.if-room_with-mem.false _ c.make_room.auto.mem c.make_room.ensures _ c.lay_edited.auto.mem c.lay_edited.ensures.below _ c.name_of-f.ensures.1)

pub returns : goal.returns
returns c = let e = old_long _ _ _ c.args.edit.from c.args.edit.to c.args.name.now c.args.edit.new.now _ c.requires.row c.requires.found _ c.record_of-q.ensures in record { kept = replace_changed _ _ _ _ _ (edits c.args.edit.from c.args.edit.to c.args.edit.new.now c.requires.found.file.text) _ (edit_long _ _ _ _ _ c.args.name.now c.args.edit.new.now _ c.requires.row c.requires.found _ c.record_of-q.ensures c.if-to-from.false c.if-old-to.false) c.requires.row c.requires.found c.room_with.result c.room_with.ensures c.if-room_with-mem.false _ c.make_room.auto.mem c.make_room.ensures _ c.lay_edited.auto.mem c.lay_edited.ensures.below _ c.name_of-f.ensures.1 (laid_there _ _ _ _ _ c.args.name.now c.args.edit.new.now _ c.requires.row c.requires.found _ c.record_of-q.ensures c.if-to-from.false c.if-old-to.false _ c.make_room.auto.mem c.make_room.ensures (replace_work _ _ _ _ _ (edits c.args.edit.from c.args.edit.to c.args.edit.new.now c.requires.found.file.text) _ (edit_long _ _ _ _ _ c.args.name.now c.args.edit.new.now _ c.requires.row c.requires.found _ c.record_of-q.ensures c.if-to-from.false c.if-old-to.false) c.requires.row c.requires.found c.room_with.result c.room_with.ensures c.if-room_with-mem.false) _ c.lay_edited.ensures) _ c.put_text.auto.mem (rw c.name_of-f.ensures.2 at c.put_text.ensures); says = (c.requires.found.file, c.requires.found.first, c.if-to-from.false, omega (arith, c.if-old-to.false), replace_says _ _ _ _ _ (edits c.args.edit.from c.args.edit.to c.args.edit.new.now c.requires.found.file.text) _ (edit_long _ _ _ _ _ c.args.name.now c.args.edit.new.now _ c.requires.row c.requires.found _ c.record_of-q.ensures c.if-to-from.false c.if-old-to.false) c.requires.row c.requires.found c.room_with.result c.room_with.ensures c.if-room_with-mem.false _ c.make_room.auto.mem c.make_room.ensures _ c.lay_edited.auto.mem c.lay_edited.ensures.below _ c.name_of-f.ensures.1 (laid_there _ _ _ _ _ c.args.name.now c.args.edit.new.now _ c.requires.row c.requires.found _ c.record_of-q.ensures c.if-to-from.false c.if-old-to.false _ c.make_room.auto.mem c.make_room.ensures (replace_work _ _ _ _ _ (edits c.args.edit.from c.args.edit.to c.args.edit.new.now c.requires.found.file.text) _ (edit_long _ _ _ _ _ c.args.name.now c.args.edit.new.now _ c.requires.row c.requires.found _ c.record_of-q.ensures c.if-to-from.false c.if-old-to.false) c.requires.row c.requires.found c.room_with.result c.room_with.ensures c.if-room_with-mem.false) _ c.lay_edited.ensures) _ c.put_text.auto.mem (rw c.name_of-f.ensures.2 at c.put_text.ensures)) }
