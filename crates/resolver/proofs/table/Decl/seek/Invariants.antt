use Rattle.std.proofs.Common.{◌≡◌, ◌-◌}
use Rattle.resolver.specs.Resolve.{seek}
use Rattle.resolver.proofs.table.Decl.seek.Given as goal

abbrev pub invariant-loop-i : goal.invariant-loop-i
invariant-loop-i l = seek l.self.words.now l.name l.n l.self.handle ≡ seek l.self.words.now l.name (l.n - l._i) l.«at»
