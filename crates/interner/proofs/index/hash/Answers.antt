-- What is proved by hand of hash.
use Rattle.std.proofs.Common.{◌≡◌, ◌+◌, ◌*◌, ◌%◌, ◌∙◌, fold, rules}
use Rattle.interner.proofs.Hash.{hash_fold}
use Rattle.interner.proofs.index.hash.Goals as goal

pub returns : goal.returns
returns c =
    let e : c.fold.result ≡ fold (λ h x. (h * 31 + x) % 16777213) 0 c.args.key.now = search rules in
    e ∙ hash_fold 0 c.args.key.now
