-- What is proved by hand of splice.
use Rattle.std.proofs.Common.{arith}
use Rattle.text_row.proofs.Places.{spliced}
use Rattle.text_row.proofs.place.splice.Goals as goal

pub returns : goal.returns
returns c = spliced _ _ _ _ _ _ c.copy_within.new.self c.widen.new.mem c.requires.0 c.requires.1.0 c.requires.1.1.0 c.requires.1.1.1 c.copy_within.ensures.len c.widen.auto.mem (λ k p q. c.copy_within.ensures.by_index.0 k 0 p (omega arith)) (λ k p. c.copy_within.ensures.by_index.1 k 0 p) c.widen.ensures
