use Rattle.std.proofs.Common.{◌≡◌, ◌∙◌, sym, ap, arith, rules, tests}
use Rattle.std.specs.List.{range_with_len, prefix_len}
use Rattle.std.specs.List.{slice_get}
use Rattle.std.proofs.lemmas.Iterator.{YieldsList-from_range}
use Rattle.std.proofs.lemmas.Iterator.Consumers.{count_from_yields_List}
use Rattle.std.proofs.lemmas.Iterator.Search.{YieldsList-from_take_while}
use Rattle.std.proofs.lemmas.List.Folds.{length-prefix_len}
use Rattle.std.proofs.lemmas.List.Sums.{prefix_len-le-length}
use Rattle.std.proofs.lemmas.List.FromFn.{length-range_with_len}
use Rattle.parser.specs.Rows.{ops}
use Rattle.syntax.specs.View.{slot_in}
use Rattle.syntax.proofs.Views.{ops_length, lead_is}
use Rattle.syntax.proofs.view.Ops.slots.Goals as goal

-- how many of the numbers of operations lead
count_is : (c : goal.After-count) → c.count.result ≡ prefix_len (λ i. slot_in (slice_get (ops c.args.self.now.line.now c.args.self.now.code.now) i)) (range_with_len 0 c.len.result)
count_is c =
    let os = ops c.args.self.now.line.now c.args.self.now.code.now in
    let n = c.len.result in
    count_from_yields_List c.take_while.result _ c.count.ensures.ran
    (YieldsList-from_take_while _ (λ i. slot_in (slice_get os i)) (YieldsList-from_range 0 n n (cc) (omega arith)) c.take_while.ensures.closure c.take_while.ensures.done (λ x b q k. search (rules, tests)))
    ∙ length-prefix_len (λ i. slot_in (slice_get os i)) (range_with_len 0 n)

pub returns : goal.returns
returns c =
    let line = c.args.self.now.line.now in
    let code = c.args.self.now.code.now in
    let os = ops line code in
    let n = c.len.result in
    let is = count_is c in
    let few = prefix_len-le-length (λ i. slot_in (slice_get os i)) (range_with_len 0 n) in
    let long = length-range_with_len 0 n in
    let len = c.len.ensures in
    record { within = omega arith; leads = lead_is os ∙ ap (λ n. prefix_len (λ i. slot_in (slice_get os i)) (range_with_len 0 n)) (ops_length line code ∙ sym len) ∙ sym is }
