use Rattle.std.proofs.Common.{take, arith}
use Rattle.std.proofs.lemmas.List.{length-take-le}
use Rattle.syntax.proofs.Whole.{end_within}
use Rattle.syntax.proofs.read.place_of.Goals as goal

pub overflow_cast-end : goal.overflow_cast-end
overflow_cast-end c =
    let line = take c.args.len c.args.words.now in
    let h = end_within line in
    let k = length-take-le c.args.len c.args.words.now c.requires.0 in
    omega (arith, c.last_end-end.ensures, h, k, c.requires)
