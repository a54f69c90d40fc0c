-- What is proved by hand of create.
use Rattle.std.proofs.Common.{◌+◌, ◌-◌, ◌/◌, length, arith}
use Rattle.memo.proofs.Pops.{empty, empty_buckets}
use Rattle.memo.proofs.Tests.{ready_from}
use Rattle.memo.proofs.log.create.Goals as goal

pub returns-clause-says : goal.returns-clause-says
returns-clause-says c =
    let ws = c.args.words.now in
    empty ws (1 + (length ws - 4) / 16) (omega arith) (omega arith) c.empty.new.words c.empty.ensures

pub returns-clause-ready : goal.returns-clause-ready
returns-clause-ready c =
    let ws = c.args.words.now in
    let b = 1 + (length ws - 4) / 16 in
    let vs = c.empty.new.words in
    let x = empty ws b (omega arith) (omega arith) vs c.empty.ensures in
    let n = empty_buckets ws b (omega arith) vs c.empty.ensures in
    let k = c.empty.auto.words in
    ready_from vs (omega arith) x.0
