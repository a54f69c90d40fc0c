use Rattle.std.proofs.Common.{◌∙◌, ne_eqb, rules}
use Rattle.base.proofs.Same.{other_length, same_length}
use Rattle.base.proofs.same_word.Goals as goal

pub returns-then-a-b : goal.returns-then-a-b
returns-then-a-b c = c.bytes_agree.ensures ∙ same_length c.args.a.now c.args.b.now (search rules)

pub returns-else-a-b : goal.returns-else-a-b
returns-else-a-b c = ne_eqb _ _ c.if-a-b.false ∙ other_length c.args.a.now c.args.b.now c.if-a-b.false
