use Rattle.std.proofs.Common.{◌+◌, refl, arith}
use Rattle.lexer.specs.Tokens.{left}
use Rattle.parser.specs.Rows.{ops_of, frames_of, line_of}
use Rattle.parser.proofs.Ways.{piece_of, through, stops, wrote, counted, arg_comma, arg_close, arg_no}
use Rattle.parser.proofs.turn.Cursor.argument.Goals as goal

pub returns-in-Comma : goal.returns-in-Comma
returns-in-Comma c = through c.look-s.ensures c.in-Comma.is refl (arg_comma (piece_of c.args.self c.args.words.now c.look-s.result) c.args.f c.args.k) (wrote c.emit-q.ensures c.wait.ensures)

pub returns-in-Close : goal.returns-in-Close
returns-in-Close c =
    let q = c.emit-q-in-Close.result in
    let e = c.emit-q-in-Close.ensures in
    let r = c.requires.0.room in
    let n = c.patch_count.ensures in
    let put = counted c.emit-q-in-Close.new.words c.args.f (c.args.k + 1) (omega arith) (n.below q.base (omega arith)) (n.above _ q.depth (omega arith)) (n.counts _) c.put.ensures in
    through c.look-s.ensures c.in-Close.is refl (arg_close (piece_of c.args.self c.args.words.now c.look-s.result) c.args.f c.args.k) (wrote e put)

pub returns-in_default : goal.returns-in_default
returns-in_default c = stops _ refl c.requires.0.at_in (arg_no (left (line_of c.args.self c.args.words.now) c.args.self.at) (frames_of (line_of c.args.self c.args.words.now) c.args.self.depth c.args.words.now) (ops_of (line_of c.args.self c.args.words.now) c.args.self.base c.args.self.count c.args.words.now) c.look-s.result.token c.look-s.ensures.token_is c.args.f c.args.k c.in_default.not-Comma c.in_default.not-Close)
