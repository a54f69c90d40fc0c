-- WrongPlace.
use Rattle.grammar.proofs.Places.{wrong_place}
use Rattle.grammar.proofs.theorems.wrong_place.Goals as goal

pub returns : goal.returns
returns c = wrong_place
