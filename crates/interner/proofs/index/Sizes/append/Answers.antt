-- What is proved by hand of append.
use Rattle.std.proofs.Common.{refl, arith}
use Rattle.interner.proofs.Recording.{below_head, head_there, recorded}
use Rattle.interner.proofs.index.Sizes.append.Goals as goal

pub returns : goal.returns
returns c =
    let l = c.requires.room in
    recorded _ _ _ c.lay.new.words _ _ c.requires.sound (omega arith) c.requires.room
    (below_head _ _ _ _ _ _ refl (omega arith) c.copy_from_slice.ensures.after c.lay.ensures.front)
    (head_there _ _ _ _ _ _ refl (omega arith) c.copy_from_slice.ensures.after c.lay.ensures.front)
    c.lay.ensures.size c.lay.ensures.laid
