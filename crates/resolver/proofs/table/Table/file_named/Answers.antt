-- The first file that has the name.
use Rattle.std.proofs.Common.{◌≡◌, true, false, ap, ◌∙◌, rules, tests}
use Rattle.std.proofs.lemmas.Iterator.{first_from_Range}
use Rattle.base.specs.Base.{same}
use Rattle.symbols.specs.Table.{file_name}
use Rattle.resolver.specs.Resolve.{named_from}
use Rattle.resolver.proofs.Loops.{named_found}
use Rattle.resolver.proofs.table.Table.file_named.Goals as goal

pub returns : goal.returns
returns c =
    let ws = c.args.self.words.now in
    let x = c.args.self.index in
    let w = c.args.name.now in
    named_found ws x w c.word_at-files.result c.find.result (first_from_Range _ _ _ _ (λ k. same (file_name ws x k) w ≡ true) (λ k. same (file_name ws x k) w ≡ false) c.find.ensures.ran (λ k q h. search (rules, tests)) (λ k q h. search (rules, tests))) ∙ ap (λ n. named_from ws x w n 0) c.word_at-files.ensures
