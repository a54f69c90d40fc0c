use Rattle.symbols.specs.Rows.{texts_in}
use Rattle.answers.specs.Reviews.{Going}
use Rattle.answers.proofs.inspect.FileAt.review.Given as goal

abbrev pub invariant-loop-i : goal.invariant-loop-i
invariant-loop-i g l = Going (g.S.Source.holds l.source (texts_in l.self.l l.initial.words)) l.self.l l.self.file l.self.base l.initial.words l.words l.i l.at
