-- What is proved by hand of file_of.
use Rattle.interner.proofs.Places.{first_says}
use Rattle.text_row.proofs.Tables.{in_words}
use Rattle.text_row.proofs.Drops.{file_unknown, file_of_says}
use Rattle.text_row.proofs.weights.Files.file_of.Goals as goal

pub returns-in_err-f : goal.returns-in_err-f
returns-in_err-f c = rw c.from_residual.ensures (file_unknown _ _ _ _ c.requires _ (rw c.sizes-sizes.ensures at c.in_err-f.ensures))

pub position_of-requires : goal.position_of-requires
position_of-requires c = in_words _ _ _ _ c.requires

pub returns : goal.returns
returns c = let f = rw c.sizes-sizes.ensures at c.in_ok-f.ensures in file_of_says _ _ _ _ c.requires _ _ f.0 f.1 c.position_of.result (first_says _ _ _ _ c.requires.in_table c.position_of.ensures)
