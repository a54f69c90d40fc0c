use Rattle.std.proofs.Common.{refl}
use Rattle.parser.specs.Rows.{span_of, line_of}
use Rattle.parser.proofs.Ways.{piece_of, through, wrote, refused, bound_no, bound_in}
use Rattle.parser.proofs.turn.Cursor.bound.Goals as goal

pub returns-in_err-s : goal.returns-in_err-s
returns-in_err-s c = refused c.from_residual.result c.from_residual.ensures.1 c.in_err-s.ensures c.requires.at_in (λ us fs co. bound_no us fs co c.args.n (span_of (line_of c.args.self c.args.words.now) c.args.x))

pub returns : goal.returns
returns c = through c.in_ok-s.ensures.1 c.in_ok-s.ensures.0 refl (bound_in (piece_of c.args.self c.args.words.now c.in_ok-s.s) c.args.n (span_of (line_of c.args.self c.args.words.now) c.args.x)) (wrote c.emit-q.ensures c.wait.ensures)
