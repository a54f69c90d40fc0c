use Rattle.helper.proofs.Rooms.{room_le}
use Rattle.helper.proofs.theorems.room_linear.Goals as goal

pub returns : goal.returns
returns c = room_le
