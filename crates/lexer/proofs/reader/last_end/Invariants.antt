use Rattle.std.proofs.Common.{◌≡◌, ◌-◌, length}
use Rattle.lexer.specs.Tokens.{left, end_of}
use Rattle.lexer.proofs.Ends.{last_from}
use Rattle.lexer.proofs.reader.last_end.Given as goal

abbrev pub invariant-loop-p : goal.invariant-loop-p
invariant-loop-p l =
    (l.reader.line.now ≡ l.line) ×
    (end_of (left l.line 0) ≡ last_from l.end (left l.line l.reader.at))

abbrev pub decreases-loop-p : goal.decreases-loop-p
decreases-loop-p l = length l.line - l.reader.at
