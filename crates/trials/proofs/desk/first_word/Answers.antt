-- What is proved by hand of first_word.
use Rattle.std.proofs.Common.{drop, inl, inr}
use Rattle.trials.proofs.Desks.{no_first, no_work, a_first}
use Rattle.trials.proofs.desk.first_word.Goals as goal

pub returns-then-n-eq0 : goal.returns-then-n-eq0
returns-then-n-eq0 c = elim c.then-n-eq0.either [ inl e ↦ no_first c.args.n (drop 8208 c.args.row.now) e | inr e ↦ no_work c.args.n c.args.row.now e.1 ]

pub returns : goal.returns
returns c = a_first c.args.n c.args.row.now c.if-n-eq0.false
