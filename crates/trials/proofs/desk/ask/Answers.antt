-- What is proved by hand of ask.
use Rattle.std.proofs.Common.{length, get_or, ap, ◌∙◌, arith, lit<, lit≤}
use Rattle.trials.proofs.Falling.{small_falls}
use Rattle.trials.proofs.Desks.{answered}
use Rattle.trials.proofs.desk.ask.Goals as goal

pub bring-requires : goal.bring-requires
bring-requires c = record { row = (lit≤ tt, c.requires.long, c.requires.small1, c.requires.fit); falls = small_falls; honest = c.requires.honest; runs1 = lit< tt }

pub returns : goal.returns
returns c =
    let e = c.in_ok-words.ensures in
    let l = e.row.0 in
    let a = c.requires.long in
    let b = c.requires.small1 in
    let x = answered c.args.row.now c.args.k.now c.requires in
    let n = e.says.3 in
    let g = x.1 in
    record {
      ready = record { long = omega (arith, l, a); small1 = omega (arith, l, b); fit = e.row.1; honest = e.honest };
      says = (e.says.0 ∙ ap length x.0, c.first_word.ensures ∙ ap (λ q. get_or q 0 0) (e.says.1 ∙ x.0), omega (arith, n, g));
    }
