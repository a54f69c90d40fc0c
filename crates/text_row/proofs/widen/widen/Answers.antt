-- What is proved by hand of widen.
use Rattle.text_row.proofs.Writes.{widen_says}
use Rattle.text_row.proofs.widen.widen.Goals as goal

pub returns : goal.returns
returns c = widen_says _ _ _ _ c.requires c.write.ensures
