use Rattle.std.proofs.Common.{sym, refl, ◌∙◌}
use Rattle.lexer.specs.Tokens.{left}
use Rattle.parser.specs.Rows.{ops_of, frames_of, line_of}
use Rattle.parser.specs.declared.turn.Phase.TheVariants.{Value as PhaseValue}
use Rattle.parser.proofs.Ways.{piece_of, through, moves, op_some, op_none, op_other}
use Rattle.parser.proofs.turn.Cursor.operation.Goals as goal

pub returns-in_default : goal.returns-in_default
returns-in_default c = moves (PhaseValue c.args.j) (op_none (left (line_of c.args.self c.args.words.now) c.args.self.at) (frames_of (line_of c.args.self c.args.words.now) c.args.self.depth c.args.words.now) (ops_of (line_of c.args.self c.args.words.now) c.args.self.base c.args.self.count c.args.words.now) c.look-s.result.token c.look-s.ensures.token_is c.args.j c.in_default.not-Sign) c.requires

pub returns-then-level-j : goal.returns-then-level-j
returns-then-level-j c = moves (PhaseValue c.args.j) (op_other (left (line_of c.args.self c.args.words.now) c.args.self.at) (frames_of (line_of c.args.self c.args.words.now) c.args.self.depth c.args.words.now) (ops_of (line_of c.args.self c.args.words.now) c.args.self.base c.args.self.count c.args.words.now) c.look-s.result.token c.look-s.ensures.token_is c.args.j c.in-Sign.o c.in-Sign.is (λ h. c.if-level-j.true (c.level.ensures ∙ h))) c.requires

pub returns : goal.returns
returns c = through c.look-s.ensures c.in-Sign.is refl (op_some (piece_of c.args.self c.args.words.now c.look-s.result) c.args.j c.in-Sign.o (sym c.level.ensures ∙ c.if-level-j.false)) c.wait.ensures
