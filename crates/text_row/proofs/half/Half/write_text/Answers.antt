-- What is proved by hand of write_text.
use Rattle.text_row.proofs.Writes.{numbers_in, can_lines, write_says}
use Rattle.text_row.proofs.half.Half.write_text.Goals as goal

pub bytes_from-requires : goal.bytes_from-requires
bytes_from-requires c = numbers_in _ _ _ _ _ _ _ c.requires c.split_at_mut-low.ensures.front c.split_at_mut-low.ensures.back

pub write_text-requires : goal.write_text-requires
write_text-requires c = rw c.sizes-sizes.ensures (can_lines _ _ _ _ _ _ _ c.requires c.split_at_mut-low.ensures.front c.split_at_mut-low.ensures.back _ c.bytes_from.ensures)

pub returns : goal.returns
returns c = write_says _ _ _ _ _ _ _ c.requires c.split_at_mut-low.ensures.front c.split_at_mut-low.ensures.back _ _ _ c.bytes_from.ensures (rw c.sizes-sizes.ensures at c.in-Ok.ensures)
