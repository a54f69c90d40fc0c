use Rattle.std.proofs.Common.{◌≡◌, sym, refl, subst, rules}
use Rattle.checker.specs.declared.lookup.Meaning.TheVariants.{Several}
use Rattle.world.specs.World.{n_Sund, here_is}
use Rattle.world.proofs.Fit.{same_true}
use Rattle.world.proofs.names.name_here.Goals as goal

pub returns-then-spells : goal.returns-then-spells
returns-then-spells c = subst (λ w. Several ≡ here_is w) (sym (same_true c.args.word.now n_Sund (search rules))) refl
