-- What is proved by hand of move_file.
use Rattle.text_row.proofs.Moves.{can_name, can_intern, can_write, can_number, can_append, moved}
use Rattle.text_row.proofs.row.Row.move_file.Goals as goal

pub copy_line-end-requires : goal.copy_line-end-requires
copy_line-end-requires c = rw c.here-here.ensures (can_name _ _ _ _ _ _ c.requires)

pub intern-f-requires : goal.intern-f-requires
intern-f-requires c = rw c.there-there.ensures (can_intern _ _ _ _ _ _ c.requires _ _ c.copy_line-end.auto.mem (rw c.here-here.ensures at c.copy_line-end.ensures))

pub write_text-requires : goal.write_text-requires
write_text-requires c = rw c.here-here.ensures (can_write _ _ _ _ _ _ c.requires _ _ c.copy_line-end.auto.mem (rw c.here-here.ensures at c.copy_line-end.ensures) _ _ c.intern-f.auto.mem (rw c.there-there.ensures at c.intern-f.ensures))

pub number_lines-n-requires : goal.number_lines-n-requires
number_lines-n-requires c = rw c.there-there.ensures (can_number _ _ _ _ _ _ c.requires _ _ c.copy_line-end.auto.mem (rw c.here-here.ensures at c.copy_line-end.ensures) _ _ c.intern-f.auto.mem (rw c.there-there.ensures at c.intern-f.ensures) _ c.write_text.auto.mem (rw c.here-here.ensures at c.write_text.ensures))

pub append-requires : goal.append-requires
append-requires c = rw c.there-there.ensures (can_append _ _ _ _ _ _ c.requires _ _ c.copy_line-end.auto.mem (rw c.here-here.ensures at c.copy_line-end.ensures) _ _ c.intern-f.auto.mem (rw c.there-there.ensures at c.intern-f.ensures) _ c.write_text.auto.mem (rw c.here-here.ensures at c.write_text.ensures) _ _ c.number_lines-n.auto.mem (rw c.there-there.ensures at c.number_lines-n.ensures))

pub returns : goal.returns
returns c = moved _ _ _ _ _ _ c.requires _ _ c.copy_line-end.auto.mem (rw c.here-here.ensures at c.copy_line-end.ensures) _ _ c.intern-f.auto.mem (rw c.there-there.ensures at c.intern-f.ensures) _ c.write_text.auto.mem (rw c.here-here.ensures at c.write_text.ensures) _ _ c.number_lines-n.auto.mem (rw c.there-there.ensures at c.number_lines-n.ensures) _ _ c.append.auto.mem (rw c.there-there.ensures at c.append.ensures)
