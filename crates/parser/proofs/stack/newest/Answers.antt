use Rattle.std.proofs.Common.{◌-◌, ◌∷◌, sym, ap, ◌∙◌, arith}
use Rattle.parser.specs.Rows.{frames_of}
use Rattle.parser.proofs.Words.{newest_is}
use Rattle.parser.proofs.stack.newest.Goals as goal

pub returns : goal.returns
returns c = (omega arith, λ line. newest_is line c.args.words.now c.args.d (omega arith) c.requires ∙ ap (λ f. f ∷ frames_of line (c.args.d - 1) c.args.words.now) (sym (c.from.ensures line)))
