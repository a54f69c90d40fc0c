use Rattle.std.proofs.Common.{refl}
use Rattle.lexer.specs.Tokens.{left}
use Rattle.parser.specs.Rows.{ops_of, frames_of, line_of}
use Rattle.parser.specs.declared.turn.Phase.TheVariants.{Value as PhaseValue}
use Rattle.parser.proofs.Ways.{piece_of, through, moves, dot_yes, dot_no}
use Rattle.parser.proofs.turn.Cursor.dot.Goals as goal

pub returns-in-Dot : goal.returns-in-Dot
returns-in-Dot c = through c.look-s.ensures c.in-Dot.is refl (dot_yes (piece_of c.args.self c.args.words.now c.look-s.result)) c.field.ensures

pub returns-in_default : goal.returns-in_default
returns-in_default c = moves (PhaseValue 6) (dot_no (left (line_of c.args.self c.args.words.now) c.args.self.at) (frames_of (line_of c.args.self c.args.words.now) c.args.self.depth c.args.words.now) (ops_of (line_of c.args.self c.args.words.now) c.args.self.base c.args.self.count c.args.words.now) c.look-s.result.token c.look-s.ensures.token_is c.in_default.not-Dot) c.requires
