use Rattle.std.proofs.Common.{refl}
use Rattle.parser.proofs.Ways.{piece_of, through, wrote, refused, cond_no, cond_then}
use Rattle.parser.proofs.turn.Cursor.condition.Goals as goal

pub returns-in_err-s : goal.returns-in_err-s
returns-in_err-s c = refused c.from_residual.result c.from_residual.ensures.1 c.in_err-s.ensures c.requires.at_in (λ us fs co. cond_no us fs co c.args.n)

pub returns : goal.returns
returns c = through c.in_ok-s.ensures.1 c.in_ok-s.ensures.0 refl (cond_then (piece_of c.args.self c.args.words.now c.in_ok-s.s) c.args.n) (wrote c.emit-q.ensures c.wait.ensures)
