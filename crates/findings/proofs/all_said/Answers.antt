use Rattle.std.proofs.Common.{◌≡◌, ◌+◌, ◌-◌, ◌*◌, take, drop, ap, ◌∙◌, arith}
use Rattle.checker.specs.Rows.{events_of}
use Rattle.checker.proofs.Events.{events_in}
use Rattle.findings.proofs.all_said.Goals as goal

pub returns : goal.returns
returns c =
    let ws = c.args.words.now in
    let f = c.args.f in
    let e : f.at + 4 * f.count - f.at ≡ 4 * f.count = omega arith in
    ap (λ m. events_of (take m (drop f.at ws))) e ∙ events_in ws f.at f.count c.requires
