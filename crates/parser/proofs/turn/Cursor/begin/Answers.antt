use Rattle.std.proofs.Common.{refl}
use Rattle.lexer.specs.Tokens.{left}
use Rattle.parser.specs.Rows.{ops_of, frames_of, line_of}
use Rattle.parser.specs.declared.turn.Phase.TheVariants.{Atom as PhaseAtom}
use Rattle.parser.proofs.Ways.{piece_of, through, moves, begin_let, begin_if, begin_other}
use Rattle.parser.proofs.turn.Cursor.begin.Goals as goal

pub returns-in-Let : goal.returns-in-Let
returns-in-Let c = through c.look-s.ensures c.in-Let.is refl (begin_let (piece_of c.args.self c.args.words.now c.look-s.result)) c.name_bound.ensures

pub returns-in-If : goal.returns-in-If
returns-in-If c = through c.look-s.ensures c.in-If.is refl (begin_if (piece_of c.args.self c.args.words.now c.look-s.result)) c.wait.ensures

pub returns-in_default : goal.returns-in_default
returns-in_default c = moves PhaseAtom (begin_other (left (line_of c.args.self c.args.words.now) c.args.self.at) (frames_of (line_of c.args.self c.args.words.now) c.args.self.depth c.args.words.now) (ops_of (line_of c.args.self c.args.words.now) c.args.self.base c.args.self.count c.args.words.now) c.look-s.result.token c.look-s.ensures.token_is c.in_default.not-Let c.in_default.not-If) c.requires
