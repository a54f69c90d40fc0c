-- What is proved by hand of reclaim.
use Rattle.store.proofs.Keeps.{blank_part, empty_fits}
use Rattle.store.proofs.reclaim.reclaim.Goals as goal

pub move_all-requires : goal.move_all-requires
move_all-requires c = let x = empty_fits _ _ c.args.table.now _ c.clear.ensures.sound c.in_ok-roomy.ensures.some_table in (c.requires, (blank_part _ _ _ _ c.clear.ensures, (x.0, x.1)))
