use Rattle.std.proofs.Common.{◌-◌}
use Rattle.syntax.proofs.Listing.{Listing}
use Rattle.syntax.proofs.reading.Reading.list.Given as goal

abbrev pub invariant-loop-op : goal.invariant-loop-op
invariant-loop-op l = Listing l.listed l.initial.here l.initial.words l.words l.here

abbrev pub decreases-loop-op : goal.decreases-loop-op
decreases-loop-op l = l.initial.here.len - l.here.at
