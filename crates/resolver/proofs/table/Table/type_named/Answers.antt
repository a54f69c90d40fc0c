use Rattle.std.proofs.Common.{sym, ap, ◌∙◌, subst}
use Rattle.checker.specs.Types.{SomeSmall}
use Rattle.resolver.specs.Resolve.{found_type}
use Rattle.resolver.proofs.Loops.{found_small}
use Rattle.resolver.proofs.table.Table.type_named.Goals as goal

pub returns-else-spells-2-clause-small : goal.returns-else-spells-2-clause-small
returns-else-spells-2-clause-small c =
    let ws = c.args.self.words.now in
    subst SomeSmall (sym (c.found_type.ensures ∙ ap (found_type ws) c.meaning.ensures)) (found_small ws c.args.self.index c.args.k c.args.name.now)
