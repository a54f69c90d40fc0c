-- What is proved by hand of lay_edited.
use Rattle.std.proofs.Common.{arith}
use Rattle.text_row.proofs.Changing.{can_write, can_splice, lay_says}
use Rattle.text_row.proofs.row.Row.lay_edited.Goals as goal

pub record_of-p-requires : goal.record_of-p-requires
record_of-p-requires c = (c.requires.fits, (c.requires.there, omega (arith, c.requires.above, c.requires.work)))

pub write_text-requires : goal.write_text-requires
write_text-requires c = rw c.here.ensures (can_write _ _ _ _ _ _ _ c.requires _ c.record_of-p.ensures)

pub splice-requires : goal.splice-requires
splice-requires c = can_splice _ _ _ _ _ _ _ c.requires _ c.record_of-p.ensures _ c.write_text.auto.mem (rw c.here.ensures at c.write_text.ensures)

pub returns : goal.returns
returns c = lay_says _ _ _ _ _ _ _ c.requires _ c.record_of-p.ensures _ c.write_text.auto.mem (rw c.here.ensures at c.write_text.ensures) _ c.splice.ensures
