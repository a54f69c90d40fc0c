-- What is proved by hand of put_in_order.
use Rattle.std.proofs.Common.{◌≤◌, [], ◌++◌, length, ap, ◌∙◌, append-nil, reverse, arith}
use Rattle.std.proofs.lemmas.List.{drop_all, take_all}
use Rattle.memo.specs.Rows.{keys}
use Rattle.driver.proofs.Asked.{backwards, backwards_long, stacked_long, stacked_reverse, turn_one}
use Rattle.driver.proofs.stack.put_in_order.Goals as goal

pub loop-i-preserved : goal.loop-i-preserved
loop-i-preserved c = λ gs e.
    let l = ap length e in
    let b = backwards_long gs in
    let k = c.reverse.ensures.len in
    let n = c.requires in
    turn_one gs c.loop-i.i c.loop-i.asked c.reverse-in-loop-i.new.self (omega arith) (c.loop-i.invariant gs e) c.reverse-in-loop-i.ensures.after

pub returns : goal.returns
returns c = λ gs e.
    let l = ap length e in
    let b = stacked_long gs [] in
    let n = c.requires in
    let all : length gs ≤ c.loop-i.i = omega arith in
    c.loop-i.invariant gs (c.reverse.ensures.after ∙ ap reverse e ∙ stacked_reverse gs []) ∙ (λ t. keys (take_all c.loop-i.i gs all t) ++ backwards (drop_all c.loop-i.i gs all t)) ∙ append-nil (keys gs)
