use Rattle.parser.proofs.Words.{counts_call, counts_none, counts_past}
use Rattle.parser.proofs.code.patch_count.Goals as goal

pub returns-then-words-i-eq-CALL : goal.returns-then-words-i-eq-CALL
returns-then-words-i-eq-CALL c =
    let e = counts_call c.args.words.now c.args.base c.args.n c.args.p c.args.k c.requires c.if-p-n.true c.if-words-i-eq-CALL.true in
    record { counts = e.counts; below = e.below; above = e.above }

pub returns-else-words-i-eq-CALL : goal.returns-else-words-i-eq-CALL
returns-else-words-i-eq-CALL c =
    let e = counts_none c.args.words.now c.args.base c.args.n c.args.p c.args.k c.if-p-n.true c.if-words-i-eq-CALL.false in
    record { counts = e.counts; below = e.below; above = e.above }

pub returns-else-p-n : goal.returns-else-p-n
returns-else-p-n c =
    let e = counts_past c.args.words.now c.args.base c.args.n c.args.p c.args.k c.requires c.if-p-n.false in
    record { counts = e.counts; below = e.below; above = e.above }
