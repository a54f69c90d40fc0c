use Rattle.std.proofs.Common.{◌≡◌, take, sym, ap, ◌∙◌, subst}
use Rattle.std.proofs.lemmas.List.{take-take}
use Rattle.lexer.specs.Tokens.{left}
use Rattle.grammar.specs.Grammar.{bad, settled, i_bad}
use Rattle.syntax.proofs.read.read_line.Goals as goal

pub returns-in-Err-clause-reads : goal.returns-in-Err-clause-reads
returns-in-Err-clause-reads c =
    let len = c.args.len in
    let base = c.args.base in
    let at_end = c.place_of.result in
    let h = c.in-Err.ensures in
    let e : take len c.read_item.new.words ≡ take len c.args.words.now = sym (take-take len base _ c.if-len-base.false) ∙ ap (take len) h.front ∙ take-take len base _ c.if-len-base.false in
    h.reads ∙ subst (λ l. settled (left l 0) (bad (left l c.in-Err.wrong.at)) ≡ i_bad at_end.from at_end.to) e c.place_of.ensures
