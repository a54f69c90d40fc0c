-- What is proved by hand of clear.
use Rattle.std.proofs.Common.{◌≡◌, ℕ, ◌+◌, ◌*◌, ◌<◌, length, get_or, drop, ◌∙◌, arith, length-append, length-drop, length-take, rules}
use Rattle.std.proofs.lemmas.List.{get_or_append_left}
use Rattle.interner.proofs.Blank.{blank}
use Rattle.interner.proofs.index.Sizes.clear.Goals as goal

pub returns : goal.returns
returns c =
    let n = length-take (2 + c.args.self.buckets + 2 * c.args.total) c.args.words.now in
    let l = length-append c.fill.new.self (drop (2 + c.args.self.buckets + 2 * c.args.total) c.args.words.now) in
    let d = length-drop (2 + c.args.self.buckets + 2 * c.args.total) c.args.words.now in
    let e = c.fill.ensures.len in
    let zs : (k : ℕ) → k < length c.fill.new.self → get_or c.fill.new.self k 0 ≡ 0 = λ k h. search rules in
    blank _ _ _ _ (λ k h. get_or_append_left c.fill.new.self (drop (2 + c.args.self.buckets + 2 * c.args.total) c.args.words.now) 0 k (omega arith) ∙ zs k (omega arith)) c.requires.0 c.requires.1.0 c.requires.1.1.0 (omega (arith, c.requires.1.1.1.0)) (omega (arith, c.requires.1.1.1.1))
