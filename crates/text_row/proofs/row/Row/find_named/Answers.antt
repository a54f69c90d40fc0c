-- What is proved by hand of find_named.
use Rattle.text_row.proofs.Places.{not_named, fits_still, named_says}
use Rattle.text_row.proofs.row.Row.find_named.Goals as goal

pub returns-then-name-mem : goal.returns-then-name-mem
returns-then-name-mem c = not_named _ _ _ c.requires _ c.if-name-mem.true

pub file_of-requires : goal.file_of-requires
file_of-requires c = rw c.files.ensures.0 (rw c.files.ensures.1 (rw c.files.ensures.2 (fits_still _ _ _ c.requires _ c.widen.auto.mem c.widen.ensures.below)))

pub returns : goal.returns
returns c = named_says _ _ _ c.requires _ _ c.widen.auto.mem c.widen.ensures c.file_of.result (rw c.files.ensures.2 at (rw c.files.ensures.1 at (rw c.files.ensures.0 at c.file_of.ensures)))
