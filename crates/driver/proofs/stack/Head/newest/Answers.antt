-- What is proved by hand of newest.
use Rattle.std.proofs.Common.{◌≡◌, ◌+◌, ◌-◌, ◌∷◌, length, get_or, drop, take, sym, ap, ◌∙◌, subst, arith}
use Rattle.std.proofs.lemmas.List.{take_rest}
use Rattle.memo.specs.Record.{deep}
use Rattle.memo.proofs.Places.{deep_word}
use Rattle.driver.specs.Rows.{key_words}
use Rattle.driver.proofs.Words.{heads}
use Rattle.driver.proofs.stack.Head.newest.Goals as goal

pub returns : goal.returns
returns c =
    let f = c.args.f in
    let ws = c.args.work.now in
    let h = take (length ws - (length ws - f)) (drop (length ws - f) ws) in
    let e = ap (λ l. get_or l 4 0) (take_rest ws (length ws - f)) ∙ sym (deep_word ws f 4) in
    let s = subst (λ l. deep f ws ≡ get_or l 0 0 ∷ get_or l 1 0 ∷ get_or l 2 0 ∷ get_or l 3 0 ∷ get_or l 4 0 ∷ get_or l 5 0 ∷ get_or l 6 0 ∷ deep (f - 7) ws) (sym (take_rest ws (length ws - f))) (heads f ws c.requires.0 c.requires.1) in
    (_, get_or h 6 0, c.if-h-eq-LOOKS.false, omega (arith, e, c.type_inv.work (length ws - f + 4)), s ∙ ap (λ k. get_or h 0 0 ∷ key_words k (get_or h 4 0 ∷ get_or h 5 0 ∷ get_or h 6 0 ∷ deep (f - 7) ws)) (sym c.from-key.ensures))
