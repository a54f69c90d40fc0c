use Rattle.std.proofs.Common.{◌≡◌, take}
use Rattle.parser.specs.Rows.{span_of}
use Rattle.semantics.specs.Check.{find}
use Rattle.checker.specs.Rows.{Book, names_in, names_at}
use Rattle.checker.proofs.rows.Bounds.find.Given as goal

abbrev pub invariant-loop-n : goal.invariant-loop-n
invariant-loop-n l = (k : Book) → find (names_in k (take l.self.len l.words) (names_at l.self) l.fn.p.names l.words) (span_of (take l.self.len l.words) l.name).w ≡ find (names_in k (take l.self.len l.words) (names_at l.self) l.n l.words) (span_of (take l.self.len l.words) l.name).w
