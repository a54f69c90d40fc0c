-- What is proved by hand of find.
use Rattle.std.proofs.Common.{◌+◌, get_or, sym, subst}
use Rattle.memo.specs.Log.{log}
use Rattle.memo.specs.Chain.{Chained}
use Rattle.memo.proofs.Along.{head_chained, along_find}
use Rattle.memo.proofs.index.Memo.find.Goals as goal

pub along-requires : goal.along-requires
along-requires c =
    let ws = c.args.self.words.now in
    let k = c.args.k.now in
    (c.requires, get_or ws 1 0, log ws, subst (λ i. Chained ws (get_or ws 1 0) (log ws) k (get_or ws (3 + i) 0)) (sym c.bucket_of-b.ensures.is) (head_chained ws k c.requires))

pub returns-clause-is : goal.returns-clause-is
returns-clause-is c =
    let ws = c.args.self.words.now in
    let k = c.args.k.now in
    let h = subst (λ i. Chained ws (get_or ws 1 0) (log ws) k (get_or ws (3 + i) 0)) (sym c.bucket_of-b.ensures.is) (head_chained ws k c.requires) in
    along_find ws k c.along.result (c.along.ensures.is (get_or ws 1 0) (log ws) h)
