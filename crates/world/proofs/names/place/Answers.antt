use Rattle.std.proofs.Common.{◌∙◌, rules, tests}
use Rattle.std.proofs.lemmas.Iterator.{YieldsList-from_slice}
use Rattle.std.proofs.lemmas.Iterator.Adapters.{position_from-zero}
use Rattle.std.proofs.lemmas.Iterator.Search.{position_from_yields_List}
use Rattle.base.specs.Base.{same}
use Rattle.world.proofs.Fit.{called_from}
use Rattle.world.proofs.names.place.Goals as goal

pub returns : goal.returns
returns c = position_from_yields_List (λ x. same c.args.word.now x.name.now) _ _ _ c.position.ensures.ran (YieldsList-from_slice c.args.cards.now cc) (λ x b q k. search (rules, tests)) ∙ position_from-zero (λ x. same c.args.word.now x.name.now) c.args.cards.now ∙ called_from c.args.word.now 0 c.args.cards.now
