-- What is proved by hand of forget.
use Rattle.std.proofs.Common.{get_or, arith}
use Rattle.memo.proofs.Pops.{empty_buckets}
use Rattle.memo.proofs.Repacks.{reset}
use Rattle.memo.proofs.log.forget.Goals as goal

pub returns : goal.returns
returns c =
    let ws = c.args.words.now in
    let f = c.requires.0 in
    let r = f.room in
    let x = reset ws c.empty.new.words f c.empty.ensures in
    record { fits = x.0; is = x.1; room = x.2; buckets = empty_buckets ws (get_or ws 2 0) (omega arith) c.empty.new.words c.empty.ensures }
