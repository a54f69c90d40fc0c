-- What is proved by hand of number_lines.
use Rattle.text_row.proofs.Numbering.{sound_in, roomy, number_says}
use Rattle.text_row.proofs.half.Half.number_lines.Goals as goal

pub number_lines-requires : goal.number_lines-requires
number_lines-requires c = rw c.sizes-sizes.ensures (sound_in _ _ _ _ _ _ _ _ _ _ c.requires c.split_at_mut-low.ensures.front c.split_at_mut-low.ensures.back c.split_at_mut-front.ensures.front c.split_at_mut-front.ensures.back)

pub returns : goal.returns
returns c = number_says _ _ _ _ _ _ _ _ _ _ c.requires c.split_at_mut-low.ensures.front c.split_at_mut-low.ensures.back c.split_at_mut-front.ensures.front c.split_at_mut-front.ensures.back _ _ _ c.number_lines.auto.out (rw c.sizes-sizes.ensures at c.in-Ok.ensures)

pub unreachable-requires : goal.unreachable-requires
unreachable-requires c = c.in_default.ensures.1 (rw c.sizes-sizes.ensures (roomy _ _ _ _ _ _ _ _ _ _ c.requires c.split_at_mut-low.ensures.front c.split_at_mut-low.ensures.back c.split_at_mut-front.ensures.front c.split_at_mut-front.ensures.back _ c.number_lines.auto.out))
