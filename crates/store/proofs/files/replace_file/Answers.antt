-- What is proved by hand of replace_file.
use Rattle.store.proofs.Tables.{replaced}
use Rattle.store.proofs.files.replace_file.Goals as goal

pub returns : goal.returns
returns c = let x = replaced _ _ _ _ c.requires.0 _ _ _ _ _ c.requires.1.0 c.requires.1.1.0 c.requires.1.1.1 c.in_ok-files.ensures in record { filed = x.0; says = x.1 }
