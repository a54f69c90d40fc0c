use Rattle.std.proofs.Common.{refl, arith}
use Rattle.lexer.specs.Tokens.{left}
use Rattle.parser.specs.Rows.{ops_of, frames_of, span_of, line_of}
use Rattle.parser.proofs.Words.{ops_long}
use Rattle.parser.proofs.Ways.{piece_of, through, onto, wrote, call_closed, call_open}
use Rattle.parser.proofs.turn.Cursor.call.Goals as goal

pub returns-in-Close : goal.returns-in-Close
returns-in-Close c = through c.look-s.ensures c.in-Close.is refl (call_closed (piece_of c.args.self c.args.words.now c.look-s.result) (span_of (line_of c.args.self c.args.words.now) c.args.f)) (wrote c.emit-q.ensures c.put.ensures)

pub returns-in_default : goal.returns-in_default
returns-in_default c =
    let room = c.requires.room in
    let long = ops_long (line_of c.args.self c.args.words.now) c.args.self.base c.args.self.count c.args.words.now (omega arith) in
    onto (call_open (left (line_of c.args.self c.args.words.now) c.args.self.at) (frames_of (line_of c.args.self c.args.words.now) c.args.self.depth c.args.words.now) (ops_of (line_of c.args.self c.args.words.now) c.args.self.base c.args.self.count c.args.words.now) c.look-s.result.token c.look-s.ensures.token_is (span_of (line_of c.args.self c.args.words.now) c.args.f) c.args.self.count c.in_default.not-Close long) (wrote c.emit-q-in_default.ensures c.wait.ensures)
