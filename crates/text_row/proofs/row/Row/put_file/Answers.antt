-- What is proved by hand of put_file.
use Rattle.text_row.proofs.Tables.{can_enlist, put_says}
use Rattle.text_row.proofs.row.Row.put_file.Goals as goal

pub enlist-requires : goal.enlist-requires
enlist-requires c = can_enlist _ _ _ _ _ _ _ _ _ c.requires _ c.append-p.auto.mem _ (rw c.here.ensures at c.append-p.ensures)

pub returns : goal.returns
returns c = put_says _ _ _ _ _ _ _ _ _ c.requires _ c.append-p.auto.mem _ (rw c.here.ensures at c.append-p.ensures) c.enlist.new.files c.enlist.auto.files c.enlist.ensures
