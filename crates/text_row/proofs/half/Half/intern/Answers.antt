-- What is proved by hand of intern.
use Rattle.text_row.proofs.Interning.{intern_says}
use Rattle.text_row.proofs.half.Half.intern.Goals as goal

pub returns : goal.returns
returns c = intern_says _ _ _ _ _ _ _ _ _ c.requires c.split_at_mut-low.ensures.front c.split_at_mut-low.ensures.back (rw c.sizes-sizes.ensures at c.number.ensures)
