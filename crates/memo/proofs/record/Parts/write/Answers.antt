-- What is proved by hand of write.
use Rattle.std.proofs.Common.{[], ◌∷◌, length, get_or, ap, ◌∙◌}
use Rattle.memo.specs.Record.{puts}
use Rattle.memo.proofs.Puts.{four_puts}
use Rattle.memo.proofs.record.Parts.write.Goals as goal

pub returns : goal.returns
returns c =
    let p = c.args.self in
    let t = c.args.prev ∷ length p.ans.now ∷ p.count ∷ length p.row.now ∷ [] in
    let hs = p.key.kind ∷ p.key.a ∷ p.key.b ∷ t in
    four_puts c.args.p hs p.ans.now p.keys.now p.row.now c.args.words.now c.put.new.words c.put-2.new.words c.put-3.new.words c.put-4.new.words
    (c.put.ensures ∙ ap (λ k. puts c.args.p (get_or k 0 0 ∷ get_or k 1 0 ∷ get_or k 2 0 ∷ t) c.args.words.now) c.from.ensures)
    c.put-2.ensures c.put-3.ensures c.put-4.ensures c.requires.0
