use Rattle.std.proofs.Common.{refl}
use Rattle.lexer.specs.Tokens.{left}
use Rattle.parser.specs.Rows.{ops_of, frames_of, span_of, line_of}
use Rattle.parser.proofs.Ways.{piece_of, through, onto, name_call, name_only}
use Rattle.parser.proofs.turn.Cursor.named.Goals as goal

pub returns-in-Open : goal.returns-in-Open
returns-in-Open c = through c.look-s.ensures c.in-Open.is refl (name_call (piece_of c.args.self c.args.words.now c.look-s.result) (span_of (line_of c.args.self c.args.words.now) c.args.f)) c.call.ensures

pub returns-in_default : goal.returns-in_default
returns-in_default c = onto (name_only (left (line_of c.args.self c.args.words.now) c.args.self.at) (frames_of (line_of c.args.self c.args.words.now) c.args.self.depth c.args.words.now) (ops_of (line_of c.args.self c.args.words.now) c.args.self.base c.args.self.count c.args.words.now) c.look-s.result.token c.look-s.ensures.token_is (span_of (line_of c.args.self c.args.words.now) c.args.f) c.in_default.not-Open) c.put.ensures
