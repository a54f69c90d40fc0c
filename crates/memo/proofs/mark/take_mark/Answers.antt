-- What is proved by hand of take_mark.
use Rattle.std.proofs.Common.{get_or, refl, arith}
use Rattle.memo.specs.Log.{here, kept_entries, entries_at}
use Rattle.memo.proofs.Places.{deep_long}
use Rattle.memo.proofs.mark.take_mark.Goals as goal

pub returns : goal.returns
unfolding kept_entries entries_at
returns c = let r = c.requires.room in record { marked = record { reached = here; long = deep_long c.args.words.now (get_or c.args.words.now 0 0) (omega arith) }; is = refl }
