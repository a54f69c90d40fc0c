use Rattle.std.proofs.Common.{ap, ◌∙◌}
use Rattle.lexer.specs.Kinds.{token_of}
use Rattle.lexer.proofs.Looks.{token_there, stands_there}
use Rattle.lexer.proofs.reader.peek.Goals as goal

pub returns-in-Some : goal.returns-in-Some
returns-in-Some c =
    let line = c.args.line.now in
    let p = c.in-Some.p in
    let n = c.in-Some.ensures.reads in
    let e = c.token_of.ensures ∙ ap token_of c.in-Some.ensures.text in
    record {
      token = e ∙ token_there line c.args.at p.from p.to n;
      place = stands_there line c.args.at p.from p.to c.token_of.result n e;
    }
