-- What is proved by hand of append.
use Rattle.store.proofs.Records.{appended}
use Rattle.store.proofs.files.append.Goals as goal

pub returns : goal.returns
returns c = appended _ _ _ _ _ _ _ c.append.ensures
