use Rattle.std.proofs.Common.{◌≡◌, length, rules}
use Rattle.parser.specs.Rows.{op_is}
use Rattle.parser.proofs.Words.{emits}
use Rattle.parser.proofs.code.emit.Goals as goal

pub returns : goal.returns
returns c =
    let l : length c.copy_from_slice.new.self ≡ 5 = search rules in
    let e = emits c.args.words.now c.copy_from_slice.new.self c.from.result c.args.base c.args.n (λ line. op_is line c.args.op) c.copy_from_slice.ensures.after l c.from.ensures c.requires in
    record { adds = e.adds; below = e.below; above = e.above }
