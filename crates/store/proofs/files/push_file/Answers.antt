-- What is proved by hand of push_file.
use Rattle.std.proofs.Common.{arith}
use Rattle.store.proofs.Tables.{pushed}
use Rattle.store.proofs.files.push_file.Goals as goal

pub returns : goal.returns
returns c = let x = pushed _ _ _ _ c.requires.0 _ _ _ _ (omega arith) c.requires.1.0 c.requires.1.1 c.in_ok-files.ensures in record { filed = x.0; more = c.in_ok-files.ensures.no_more; says = x.1 }
