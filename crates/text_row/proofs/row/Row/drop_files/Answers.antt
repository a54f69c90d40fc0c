-- What is proved by hand of drop_files.
use Rattle.std.proofs.Common.{arith}
use Rattle.text_row.proofs.Drops.{lent_placed, drop_says}
use Rattle.text_row.proofs.row.Row.drop_files.Goals as goal

pub drop_named-requires : goal.drop_named-requires
drop_named-requires c = lent_placed _ _ _ c.args.name _ _ _ c.requires.0 (omega arith) (omega (arith, c.requires.1)) c.split_at_mut-low.ensures.front c.split_at_mut-low.ensures.back

pub returns : goal.returns
returns c = drop_says _ _ _ _ _ _ _ c.requires.0 (omega arith) (omega (arith, c.requires.1)) c.split_at_mut-low.ensures.front c.split_at_mut-low.ensures.back c.drop_named.new.table c.drop_named.auto.table c.drop_named.ensures
