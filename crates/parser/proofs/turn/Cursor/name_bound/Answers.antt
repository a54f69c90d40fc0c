use Rattle.std.proofs.Common.{refl, arith}
use Rattle.parser.specs.Rows.{span_of, NextSays}
use Rattle.parser.proofs.Ways.{Act, piece_of, through, refused, gets_in, let_no_gets, let_name, let_gets}
use Rattle.parser.proofs.turn.Cursor.name_bound.Goals as goal

pub returns-in_err-g : goal.returns-in_err-g
returns-in_err-g c =
    let ws = c.args.words.now in
    let n = c.args.n in
    let x = c.in_ok-x.x in
    let is : NextSays c.args.self ws x = c.in_ok-x.ensures.1 in
    let behind : Act = λ line. gets_in n (span_of line x.span) in
    through {G = behind} is c.in_ok-x.ensures.0 refl (let_name (piece_of c.args.self ws x) n)
    (refused c.from_residual-in_err-g.result c.from_residual-in_err-g.ensures.1 c.in_err-g.ensures (omega arith) (λ us fs co. let_no_gets us fs co n (piece_of x.behind ws x)))

pub returns : goal.returns
returns c =
    let ws = c.args.words.now in
    let n = c.args.n in
    let x = c.in_ok-x.x in
    let behind : Act = λ line. gets_in n (span_of line x.span) in
    through {G = behind} c.in_ok-x.ensures.1 c.in_ok-x.ensures.0 refl (let_name (piece_of c.args.self ws x) n)
    (through c.in_ok-g.ensures.1 c.in_ok-g.ensures.0 refl (let_gets (piece_of x.behind ws c.in_ok-g.g) n (piece_of x.behind ws x)) c.wait.ensures)
