-- What is proved by hand of enlist.
use Rattle.std.proofs.Common.{◌+◌, arith}
use Rattle.std.proofs.lemmas.List.{get_or-set_other}
use Rattle.text_row.proofs.Tables.{enlists, enlists_last}
use Rattle.text_row.proofs.place.enlist.Goals as goal

pub returns-then-files-k : goal.returns-then-files-k
returns-then-files-k c = enlists c.args.files.now c.args.k c.args.p c.requires.1.0 c.requires.1.1.0 (let e = get_or-set_other c.args.files.now (1 + c.args.k) 0 c.args.p 0 (omega arith) in omega (arith, c.if-files-k.true))

pub returns : goal.returns
returns c = enlists_last c.args.files.now c.args.k c.args.p c.requires.1.0 c.requires.1.1.0 (let e = get_or-set_other c.args.files.now (1 + c.args.k) 0 c.args.p 0 (omega arith) in omega (arith, c.if-files-k.false, c.requires.0))
