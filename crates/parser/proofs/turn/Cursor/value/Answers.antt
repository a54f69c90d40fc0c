use Rattle.lexer.specs.Tokens.{left}
use Rattle.parser.specs.Rows.{ops_of, frames_of, line_of}
use Rattle.parser.proofs.Ways.{onto, value_low, value_dot, value_op}
use Rattle.parser.proofs.turn.Cursor.value.Goals as goal

pub returns : goal.returns
returns c = onto (value_op (left (line_of c.args.self c.args.words.now) c.args.self.at) (frames_of (line_of c.args.self c.args.words.now) c.args.self.depth c.args.words.now) (ops_of (line_of c.args.self c.args.words.now) c.args.self.base c.args.self.count c.args.words.now) c.lowest.result (c.lowest.ensures (line_of c.args.self c.args.words.now)) c.args.l c.if-l-lowest.false c.if-j-eq-FIELDS.false) c.operation.ensures

pub returns-then-l-lowest : goal.returns-then-l-lowest
returns-then-l-lowest c = onto (value_low (left (line_of c.args.self c.args.words.now) c.args.self.at) (frames_of (line_of c.args.self c.args.words.now) c.args.self.depth c.args.words.now) (ops_of (line_of c.args.self c.args.words.now) c.args.self.base c.args.self.count c.args.words.now) c.lowest.result (c.lowest.ensures (line_of c.args.self c.args.words.now)) c.args.l c.if-l-lowest.true) c.deliver.ensures

pub returns-then-j-eq-FIELDS : goal.returns-then-j-eq-FIELDS
returns-then-j-eq-FIELDS c = onto (value_dot (left (line_of c.args.self c.args.words.now) c.args.self.at) (frames_of (line_of c.args.self c.args.words.now) c.args.self.depth c.args.words.now) (ops_of (line_of c.args.self c.args.words.now) c.args.self.base c.args.self.count c.args.words.now) c.lowest.result (c.lowest.ensures (line_of c.args.self c.args.words.now)) c.args.l c.if-l-lowest.false c.if-j-eq-FIELDS.true) c.dot.ensures
