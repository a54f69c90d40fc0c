-- What is proved by hand of write_text.
use Rattle.std.proofs.Common.{◌≡◌, [], ◌∷◌, length, get_or, ap, arith, rules}
use Rattle.std.proofs.lemmas.Result.{err_from_is_err_and}
use Rattle.interner.proofs.Writing.{write_more, first_long, longer, whole_long}
use Rattle.interner.proofs.index.Sizes.write_text.Goals as goal

pub loop-n-preserved : goal.loop-n-preserved
loop-n-preserved c = write_more _ _ _ _ c.loop-n.out c.extend-in-loop-n.new.out _ _ _ _ _ _ c.loop-n-test.true c.line_of-in-loop-n.ensures c.loop-n.invariant c.in_ok-end-2.ensures.1 c.in_ok-end-3.ensures

pub returns-in_err-end : goal.returns-in_err-end
returns-in_err-end c =
    let p = err_from_is_err_and c.from_residual.result c.from_residual.ensures.1 in
    let e : c.args.ns.now ≡ c.in-Some.first.now ∷ c.in-Some.others.now = search rules in
    let l = ap length c.line_of.ensures in
    let f = first_long c.args.self.buckets c.args.words.now _ _ _ e in
    rw p.1 (omega (arith, l, f, c.in_err-end.ensures))

pub returns-in_err-end-2 : goal.returns-in_err-end-2
returns-in_err-end-2 c =
    let p = err_from_is_err_and c.from_residual-in_err-end-2.result c.from_residual-in_err-end-2.ensures.1 in
    let e : c.args.ns.now ≡ get_or c.args.ns.now 0 0 ∷ c.in-Some.others.now = search rules in
    let f = whole_long _ _ _ _ _ _ _ _ e c.loop-n-test.true c.loop-n.invariant in
    rw p.1 (omega (arith, f, c.in_err-end-2.ensures, c.extend-in-loop-n.auto.out))

pub returns-in_err-end-3 : goal.returns-in_err-end-3
returns-in_err-end-3 c =
    let p = err_from_is_err_and c.from_residual-in_err-end-3.result c.from_residual-in_err-end-3.ensures.1 in
    let e : c.args.ns.now ≡ get_or c.args.ns.now 0 0 ∷ c.in-Some.others.now = search rules in
    let f = whole_long _ _ _ _ _ _ _ _ e c.loop-n-test.true c.loop-n.invariant in
    let a = longer _ _ c.loop-n.end _ (10 ∷ []) c.in_ok-end-2.ensures.0 c.loop-n.invariant.in_out c.in_ok-end-2.ensures.1 in
    rw p.1 (omega (arith, f, a, ap length c.line_of-in-loop-n.ensures, c.in_err-end-3.ensures, c.extend-in-loop-n.auto.out, c.extend-in-loop-n-2.auto.out))
