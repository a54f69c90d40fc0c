-- What is proved by hand of same_at.
use Rattle.std.proofs.lemmas.Slice.Eq.{slice_eq-Decides}
use Rattle.std.proofs.lemmas.Bool.Decides.{Decides-eqb}
use Rattle.interner.proofs.index.same_at.Goals as goal

pub returns : goal.returns
returns c = rw c.bytes_from.ensures at (slice_eq-Decides Decides-eqb c.bytes_from.result.now c.args.key.now c.eq.result c.eq.ensures)
