use Rattle.std.proofs.Common.{refl}
use Rattle.lexer.specs.Tokens.{left}
use Rattle.parser.specs.Rows.{ops_of, frames_of, line_of}
use Rattle.parser.proofs.Ways.{piece_of, through, stops, atom_open, atom_number, atom_name, atom_lost}
use Rattle.parser.proofs.turn.Cursor.atom.Goals as goal

pub returns-in-Open : goal.returns-in-Open
returns-in-Open c = through c.look-s.ensures c.in-Open.is refl (atom_open (piece_of c.args.self c.args.words.now c.look-s.result)) c.wait.ensures

pub returns-in-Number : goal.returns-in-Number
returns-in-Number c = through c.look-s.ensures c.in-Number.is refl (atom_number (piece_of c.args.self c.args.words.now c.look-s.result)) c.put.ensures

pub returns-in-Name : goal.returns-in-Name
returns-in-Name c = through c.look-s.ensures c.in-Name.is refl (atom_name (piece_of c.args.self c.args.words.now c.look-s.result)) c.named.ensures

pub returns-in_default : goal.returns-in_default
returns-in_default c = stops _ refl c.requires.at_in (atom_lost (left (line_of c.args.self c.args.words.now) c.args.self.at) (frames_of (line_of c.args.self c.args.words.now) c.args.self.depth c.args.words.now) (ops_of (line_of c.args.self c.args.words.now) c.args.self.base c.args.self.count c.args.words.now) c.look-s.result.token c.look-s.ensures.token_is c.in_default.not-Open c.in_default.not-Number c.in_default.not-Name)
