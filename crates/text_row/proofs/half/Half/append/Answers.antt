-- What is proved by hand of append.
use Rattle.text_row.proofs.Records.{append_says}
use Rattle.text_row.proofs.half.Half.append.Goals as goal

pub returns : goal.returns
returns c = append_says _ _ _ _ _ _ _ _ _ _ _ c.requires c.split_at_mut-low.ensures.front c.split_at_mut-low.ensures.back (rw c.sizes-sizes.ensures at c.append.ensures)
