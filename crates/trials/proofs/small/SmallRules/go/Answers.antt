-- What is proved by hand of go.
use Rattle.std.proofs.Common.{◌≡◌, [], ◌∷◌, take, refl, ◌∙◌, arith, length-drop, length-set}
use Rattle.engine.specs.Engine.{done}
use Rattle.std.proofs.lemmas.List.{take-set}
use Rattle.trials.specs.Small.{step}
use Rattle.trials.proofs.Words.{one_word}
use Rattle.trials.proofs.small.SmallRules.go.Goals as goal

pub returns-then-at-words : goal.returns-then-at-words
returns-then-at-words c =
    let d = length-drop c.args.at c.args.words.now in
    let t = c.if-at-words.true in
    (refl, (refl, (refl, (refl, λ as₁ l e. omega (arith, d, t)))))

pub returns-else-at-words : goal.returns-else-at-words
returns-else-at-words c =
    let ws = c.args.words.now in
    let p = c.args.at in
    let v = c.in-Done.v in
    let k = c.args.k.now in
    let x : step k.kind k.a k.b c.args.count (take p ws) ≡ done (v ∷ []) = c.in-Done.ensures in
    (refl, (refl, (length-set ws p v, (take-set ws p v, λ as₁ l e. (v ∷ [], (λ t. step k.kind k.a k.b (l t) (e t)) ∙ x, refl, one_word ws p v (omega arith))))))
