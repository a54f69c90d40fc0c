use Rattle.lexer.proofs.Rises.{pieces_rise}
use Rattle.lexer.proofs.theorems.pieces_rise.Goals as goal

pub returns : goal.returns
returns c = pieces_rise
