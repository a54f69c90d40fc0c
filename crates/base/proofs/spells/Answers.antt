use Rattle.std.proofs.Common.{◌∙◌, ne_eqb, rules}
use Rattle.base.proofs.Same.{other_length, same_length}
use Rattle.base.proofs.spells.Goals as goal

pub returns-then-word-bytes : goal.returns-then-word-bytes
returns-then-word-bytes c = c.agrees.ensures ∙ same_length c.args.word.now c.args.bytes.now (search rules)

pub returns-else-word-bytes : goal.returns-else-word-bytes
returns-else-word-bytes c = ne_eqb _ _ c.if-word-bytes.false ∙ other_length c.args.word.now c.args.bytes.now c.if-word-bytes.false
