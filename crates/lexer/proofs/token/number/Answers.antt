use Rattle.std.proofs.Common.{ap, ◌∙◌, Bool}
use Rattle.base.specs.Base.{pick}
use Rattle.lexer.specs.declared.token.Token.TheVariants.{Number, BadNumber}
use Rattle.lexer.proofs.Facts.{digits_all}
use Rattle.lexer.proofs.token.number.Goals as goal

pub returns-then-all_digits : goal.returns-then-all_digits
returns-then-all_digits c = ap (λ (b : Bool). pick b Number BadNumber) (c.if-all_digits.ensures ∙ digits_all c.args.w.now)

pub returns-else-all_digits : goal.returns-else-all_digits
returns-else-all_digits c = ap (λ (b : Bool). pick b Number BadNumber) (c.if-all_digits.ensures ∙ digits_all c.args.w.now)
