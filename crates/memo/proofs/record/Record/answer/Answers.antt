-- What is proved by hand of answer.
use Rattle.std.proofs.Common.{take, drop, ap, ◌∙◌, arith}
use Rattle.memo.specs.Record.{entry_of, deep}
use Rattle.memo.specs.Log.{entry_at}
use Rattle.memo.proofs.Places.{stands}
use Rattle.memo.proofs.record.Record.answer.Goals as goal

pub word-requires : goal.word-requires
word-requires c = let s = stands c.args.self.words.now c.args.self.depth c.requires.0 c.requires.1 in (omega arith, omega arith)

pub part-requires : goal.part-requires
part-requires c = let s = stands c.args.self.words.now c.args.self.depth c.requires.0 c.requires.1 in let e = c.word.ensures in (omega arith, omega arith)

pub returns : goal.returns
unfolding entry_at entry_of
returns c = c.part.ensures ∙ ap (λ n. take n (drop 7 (deep c.args.self.depth c.args.self.words.now))) c.word.ensures
