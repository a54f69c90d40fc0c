use Rattle.std.proofs.Common.{refl}
use Rattle.parser.proofs.Ways.{piece_of, through, field_yes}
use Rattle.parser.proofs.turn.Cursor.field.Goals as goal

pub returns : goal.returns
returns c = through c.in_ok-s.ensures.1 c.in_ok-s.ensures.0 refl (field_yes (piece_of c.args.self c.args.words.now c.in_ok-s.s)) c.put.ensures
