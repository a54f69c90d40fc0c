-- WordsOnly.
use Rattle.grammar.proofs.Bare.{words_only}
use Rattle.grammar.proofs.theorems.words_only.Goals as goal

pub returns : goal.returns
returns c = words_only
