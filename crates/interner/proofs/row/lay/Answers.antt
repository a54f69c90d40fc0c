-- What is proved by hand of lay.
use Rattle.std.proofs.Common.{rules}
use Rattle.std.proofs.lemmas.List.{take-set-le, drop-set-lt, get_or-set_same, places}
use Rattle.std.proofs.lemmas.Slice.{overwrites}
use Rattle.interner.proofs.row.lay.Goals as goal

pub returns : goal.returns
returns c = record { front = search (rules, overwrites, take-set-le); size = search (rules, places, get_or-set_same); laid = search (rules, overwrites, drop-set-lt) }
