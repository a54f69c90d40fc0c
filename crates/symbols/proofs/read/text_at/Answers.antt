use Rattle.std.proofs.Common.{◌≡◌, ◌+◌, ◌-◌, take, drop, ap, ◌∙◌, arith}
use Rattle.symbols.proofs.Partial.{text_is}
use Rattle.symbols.proofs.read.text_at.Goals as goal

pub returns : goal.returns
returns c =
    let e : (c.min-from.result + c.min-len.result) - c.min-from.result ≡ c.min-len.result = omega arith in
    ap (λ n. take n (drop c.min-from.result c.args.words.now)) e ∙ text_is c.args.words.now c.args.from c.args.len c.min-from.result c.min-len.result c.min-from.ensures c.min-len.ensures
