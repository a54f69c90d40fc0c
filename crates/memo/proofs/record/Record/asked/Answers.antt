-- What is proved by hand of asked.
use Rattle.std.proofs.Common.{sym, ◌∙◌, arith}
use Rattle.memo.proofs.Places.{stands}
use Rattle.memo.proofs.Gots.{asked_count}
use Rattle.memo.proofs.record.Record.asked.Goals as goal

pub word-requires : goal.word-requires
word-requires c = let s = stands c.args.self.words.now c.args.self.depth c.requires.0 c.requires.1 in (omega arith, omega arith)

pub returns : goal.returns
returns c = c.word.ensures ∙ sym (asked_count c.args.self.words.now c.args.self.depth)
