use Rattle.std.proofs.Common.{◌≡◌, drop}
use Rattle.checker.specs.declared.lookup.Meaning.TheVariants.{Unknown}
use Rattle.symbols.specs.Table.{used_in}
use Rattle.resolver.specs.Resolve.{among_used}
use Rattle.resolver.proofs.table.Table.among_used.Given as goal

abbrev pub invariant-loop-g : goal.invariant-loop-g
invariant-loop-g l = among_used l.self.words.now l.self.index l.name (drop l.g-index (used_in l.self.words.now l.self.index l.k)) l.m ≡ among_used l.self.words.now l.self.index l.name (used_in l.self.words.now l.self.index l.k) Unknown
