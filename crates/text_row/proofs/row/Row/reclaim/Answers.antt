-- What is proved by hand of reclaim.
use Rattle.std.proofs.Common.{arith}
use Rattle.text_row.proofs.Moving.{still_can, blank_there, back_again}
use Rattle.text_row.proofs.row.Row.reclaim.Goals as goal

pub move_all-requires : goal.move_all-requires
move_all-requires c = let b = rw c.sizes-sizes.ensures at c.clear.ensures in (still_can _ _ _ _ _ _ c.requires _ c.clear.auto.words, blank_there _ _ _ _ _ _ c.requires _ c.clear.auto.words b)

pub returns : goal.returns
returns c = back_again _ _ _ _ _ _ c.requires _ c.clear.auto.words _ c.move_all.auto.mem c.move_all.ensures c.copy_within.new.self c.copy_within.ensures.len (λ k p q. c.copy_within.ensures.by_index.0 k 0 p (omega arith)) (λ k p. c.copy_within.ensures.by_index.1 k 0 p) (λ k p. c.copy_within.ensures.by_index.2 k 0 (omega arith))
