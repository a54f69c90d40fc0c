-- What is proved by hand of slot.
use Rattle.std.proofs.Common.{refl}
use Rattle.memo.proofs.Slots.{slots}
use Rattle.memo.proofs.slot.slot.Goals as goal

pub returns : goal.returns
returns c = record { is = refl; apart = λ ws e f x y h. slots ws c.args.d e f x y h }
