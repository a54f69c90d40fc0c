-- What is proved by hand of put_text.
use Rattle.text_row.proofs.Places.{can_put, put_text_says}
use Rattle.text_row.proofs.row.Row.put_text.Goals as goal

pub put_file-requires : goal.put_file-requires
put_file-requires c = can_put _ _ _ _ _ _ c.requires _ _ c.number_lines-n.auto.mem (rw c.here.ensures at c.number_lines-n.ensures)

pub returns : goal.returns
returns c = put_text_says _ _ _ _ _ _ c.requires _ _ c.number_lines-n.auto.mem (rw c.here.ensures at c.number_lines-n.ensures) _ c.put_file.auto.mem c.put_file.ensures
