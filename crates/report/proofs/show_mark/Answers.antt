use Rattle.std.proofs.Common.{◌≡◌, ℕ, rules, append_assoc}
use Rattle.std.proofs.lemmas.Iterator.Adapters.{items_from_extend, YieldsList-from_repeat_n}
use Rattle.report.specs.Shown.{wide}
use Rattle.report.proofs.show_mark.Goals as goal

pub returns : goal.returns
returns c =
    let blanks = items_from_extend c.extend.result c.extend.ensures.ran (YieldsList-from_repeat_n {A = ℕ} {s = c.repeat_n.result} (λ a b. b ≡ a) c.args.from 32 (cc) (cc) (λ y e. e)) in
    let marks = items_from_extend c.extend-2.result c.extend-2.ensures.ran (YieldsList-from_repeat_n {A = ℕ} {s = c.repeat_n-2.result} (λ a b. b ≡ a) (wide c.args.from c.args.to) 94 (cc) (cc) (λ y e. e)) in
    search (rules, append_assoc)
