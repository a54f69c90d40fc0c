use Rattle.std.proofs.Common.{refl}
use Rattle.parser.proofs.Ways.{piece_of, through, refused, par_no, par_close}
use Rattle.parser.proofs.turn.Cursor.close.Goals as goal

pub returns-in_err-s : goal.returns-in_err-s
returns-in_err-s c = refused c.from_residual.result c.from_residual.ensures.1 c.in_err-s.ensures c.requires.at_in (λ us fs co. par_no us fs co c.args.n)

pub returns : goal.returns
returns c = through c.in_ok-s.ensures.1 c.in_ok-s.ensures.0 refl (par_close (piece_of c.args.self c.args.words.now c.in_ok-s.s) c.args.n) c.put.ensures
