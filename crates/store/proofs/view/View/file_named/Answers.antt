-- What is proved by hand of file_named.
use Rattle.interner.proofs.Places.{first_says}
use Rattle.store.proofs.Tables.{in_words}
use Rattle.store.proofs.view.View.file_named.Goals as goal

pub position_of-requires : goal.position_of-requires
position_of-requires c = in_words _ _ _ _ c.requires

pub returns : goal.returns
returns c = first_says _ _ _ _ c.requires.in_table c.position_of.ensures
