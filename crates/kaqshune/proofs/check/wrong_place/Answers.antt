use Rattle.std.proofs.Common.{◌≡◌, length, Err, vec_items, ◌∙◌, subst}
use Rattle.grammar.specs.Grammar.{i_bad}
use Rattle.syntax.specs.Line.{item_in, Understood, LineSays}
use Rattle.kaqshune.proofs.Laid.{laid}
use Rattle.kaqshune.proofs.check.wrong_place.Goals as goal

pub returns-in-Ok : goal.returns-in-Ok
returns-in-Ok c =
    let e = laid c.args.line.now (vec_items c.clear.new.self) (vec_items c.extend_from_slice.new.self) c.deref_mut.result.now _ c.row_len.result c.clear.ensures.items c.in_ok-extend_from_slice.ensures.items (c.deref_mut.ensures.value ∙ c.in_ok-resize.ensures.items) c.row_len.ensures in
    subst (λ l. Understood (item_in l)) e c.in-Ok.ensures.reads.0

pub returns-in-Err-Wrong : goal.returns-in-Err-Wrong
returns-in-Err-Wrong c =
    let e = laid c.args.line.now (vec_items c.clear.new.self) (vec_items c.extend_from_slice.new.self) c.deref_mut.result.now _ c.row_len.result c.clear.ensures.items c.in_ok-extend_from_slice.ensures.items (c.deref_mut.ensures.value ∙ c.in_ok-resize.ensures.items) c.row_len.ensures in
    let n = length c.args.line.now in
    let h = subst (λ r. LineSays c.deref_mut.result.now n n c.read_line.new.words (Err r)) c.in-Err-Wrong.field-0-is c.in-Err-Wrong.ensures.reads in
    subst (λ l. item_in l ≡ i_bad c.in-Err-Wrong.place.from c.in-Err-Wrong.place.to) e h
