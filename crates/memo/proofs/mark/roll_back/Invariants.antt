-- Invariant and measure of roll_back.
use Rattle.std.proofs.Common.{◌≡◌, get_or}
use Rattle.memo.specs.Log.{Fits, Marked, entries_at}
use Rattle.memo.proofs.mark.roll_back.Given as goal

abbrev pub invariant-loop-words : goal.invariant-loop-words
invariant-loop-words l = Fits l.words × Marked l.words l.mark × (entries_at l.words l.mark ≡ entries_at l.initial.words l.mark) × (get_or l.words 2 0 ≡ get_or l.initial.words 2 0)

abbrev pub decreases-loop-words : goal.decreases-loop-words
decreases-loop-words l = get_or l.words 0 0
