-- What is proved by hand of room_with.
use Rattle.std.proofs.Common.{arith}
use Rattle.text_row.proofs.Changing.{p_light}
use Rattle.text_row.proofs.row.Row.room_with.Goals as goal

pub room_with-requires : goal.room_with-requires
room_with-requires c = rw c.files.ensures.0 (rw c.files.ensures.1 (rw c.files.ensures.2 (record { fits = c.requires.row.order.fits; there = c.requires.there; light = omega (arith, p_light _ _ _ c.requires.row, c.requires.row.small); short = c.requires.short })))

pub returns : goal.returns
returns c = rw c.files.ensures.2 at (rw c.files.ensures.1 at (rw c.files.ensures.0 at c.room_with.ensures))
