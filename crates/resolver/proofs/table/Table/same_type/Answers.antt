use Rattle.resolver.proofs.Fields.{same_handle}
use Rattle.resolver.proofs.table.Table.same_type.Goals as goal

pub returns-then-a-b : goal.returns-then-a-b
returns-then-a-b c = same_handle c.args.self.words.now c.args.self.index c.args.a c.args.b c.if-a-b.true
