use Rattle.std.proofs.Common.{eqb, rules, tests}
use Rattle.std.proofs.lemmas.Iterator.{YieldsList-from_slice}
use Rattle.std.proofs.lemmas.Iterator.Search.{position_from_yields_List}
use Rattle.protocol.proofs.Cuts.{first_blank}
use Rattle.protocol.proofs.header.blank.Goals as goal

pub returns : goal.returns
returns c = first_blank c.args.bytes.now _ (position_from_yields_List (λ x. eqb x 32) _ _ _ c.position.ensures.ran (YieldsList-from_slice c.args.bytes.now cc) (λ x b q k. search (rules, tests)))
