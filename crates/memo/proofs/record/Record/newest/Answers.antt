-- What is proved by hand of newest.
use Rattle.std.proofs.Common.{sym, ◌∙◌, subst, arith}
use Rattle.memo.specs.Record.{deep}
use Rattle.memo.specs.Log.{entry_at}
use Rattle.memo.proofs.Places.{stands}
use Rattle.memo.specs.Says.{NewestSays}
use Rattle.memo.proofs.Chains.{key_in}
use Rattle.memo.proofs.Along.{along_newest}
use Rattle.memo.proofs.record.Record.newest.Goals as goal

pub key-requires : goal.key-requires
key-requires c = let s = stands c.args.self.words.now c.args.self.depth c.requires.0 c.requires.1 in (omega arith, omega arith)

pub returns-clause-is : goal.returns-clause-is
unfolding entry_at
returns-clause-is c =
    let ws = c.args.self.words.now in
    let e = c.key.ensures ∙ sym (key_in (deep c.args.self.depth ws)) in
    subst (λ r. NewestSays ws c.args.self.depth r.depth) (sym c.unwrap_or.ensures) (along_newest ws c.key.result c.args.self c.find.result c.requires.1 e c.find.ensures.is)
