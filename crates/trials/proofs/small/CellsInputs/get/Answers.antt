-- What is proved by hand of get.
use Rattle.std.proofs.Common.{eqb, [], ◌∷◌, length, sym, refl, ap, ◌∙◌, arith, length-drop, length-set}
use Rattle.std.proofs.lemmas.List.{take-set}
use Rattle.base.specs.Base.{pick}
use Rattle.trials.proofs.Words.{one_word, full}
use Rattle.trials.proofs.small.CellsInputs.get.Goals as goal

pub returns-then-at-words : goal.returns-then-at-words
returns-then-at-words c =
    let v = c.cell-v.result in
    let e = ap (λ w. pick (eqb w 0) [] (w ∷ [])) (sym c.cell-v.ensures) ∙ full v c.if-v-eq0.false in
    let l = ap length e in
    let d = length-drop c.args.at c.args.words.now in
    let t = c.if-at-words.true in
    (refl, (refl, omega (arith, l, d, t)))

pub returns : goal.returns
returns c =
    let v = c.cell-v.result in
    let ws = c.args.words.now in
    let p = c.args.at in
    let e = ap (λ w. pick (eqb w 0) [] (w ∷ [])) (sym c.cell-v.ensures) ∙ full v c.if-v-eq0.false in
    (length-set ws p v, (take-set ws p v, (sym (ap length e), one_word ws p v (omega arith) ∙ sym e)))
