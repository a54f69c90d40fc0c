-- What is proved by hand of file_of.
use Rattle.store.proofs.Drops.{file_unknown, file_of_says}
use Rattle.store.proofs.view.View.file_of.Goals as goal

pub returns-in_err-f : goal.returns-in_err-f
returns-in_err-f c = rw c.from_residual.ensures (file_unknown _ _ _ _ c.requires _ c.in_err-f.ensures)

pub returns : goal.returns
returns c = file_of_says _ _ _ _ c.requires _ _ c.in_ok-f.ensures.0 c.in_ok-f.ensures.1 c.file_named.result c.file_named.ensures
