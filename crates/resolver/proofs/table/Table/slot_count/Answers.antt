use Rattle.std.proofs.Common.{◌+◌, sym, ◌∙◌}
use Rattle.symbols.specs.Table.{word}
use Rattle.resolver.proofs.Fields.{slots_long}
use Rattle.resolver.proofs.table.Table.slot_count.Goals as goal

pub returns : goal.returns
returns c = λ x.
    let ws = c.args.self.words.now in
    let d = c.args.d in
    c.field_count.ensures ∙ (λ i. word (c.decl.ensures.words i) (c.decl.ensures.handle i + 8)) ∙ sym (slots_long ws x (word ws d) (word ws (d + 2)) (word ws (d + 8)) (d + 9))
