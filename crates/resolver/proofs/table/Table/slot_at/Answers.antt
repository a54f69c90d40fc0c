use Rattle.std.proofs.Common.{◌+◌, ◌*◌, sym, ◌∙◌, arith}
use Rattle.symbols.specs.Table.{word, tok_at}
use Rattle.resolver.proofs.Fields.{named_is, slot_there, slot_past}
use Rattle.resolver.proofs.table.Table.slot_at.Goals as goal

pub returns-then-index-field_count-clause-is : goal.returns-then-index-field_count-clause-is
returns-then-index-field_count-clause-is c =
    let ws = c.args.self.words.now in
    let x = c.args.self.index in
    let d = c.args.d in
    let e = c.decl-decl.ensures in
    named_is ws x c.file.result (word ws d) c.field_type.result.now (tok_at ws (word ws (d + 2)) (d + 9 + 4 * c.args.index + 2)).w c.type_named.result c.type_named.ensures.is
    (c.file.ensures ∙ (λ i. word (e.words i) (e.handle i))) (c.field_type.ensures ∙ (λ i. (tok_at (e.words i) (word (e.words i) (e.handle i + 2)) (e.handle i + 9 + 4 * c.args.index + 2)).w)) ∙ sym (slot_there ws x (word ws d) (word ws (d + 2)) (word ws (d + 8)) (d + 9) c.args.index (omega (arith, c.field_count.ensures ∙ (λ i. word (e.words i) (e.handle i + 8)))))

pub returns-else-index-field_count-clause-is : goal.returns-else-index-field_count-clause-is
returns-else-index-field_count-clause-is c =
    let ws = c.args.self.words.now in
    let d = c.args.d in
    let e = c.decl-decl.ensures in
    sym (slot_past ws c.args.self.index (word ws d) (word ws (d + 2)) (word ws (d + 8)) (d + 9) c.args.index (omega (arith, c.field_count.ensures ∙ (λ i. word (e.words i) (e.handle i + 8)))))
