use Rattle.std.proofs.Common.{ℕ, ◌+◌, List, sym, subst, arith}
use Rattle.findings.specs.Gathered.{Gathering}
use Rattle.findings.proofs.Gathers.{none_yet, none_more, one_more, all_in}
use Rattle.findings.proofs.faults.gather.Goals as goal

pub loop-i-init : goal.loop-i-init
loop-i-init c = none_yet c.args.words.now c.args.f.at c.args.start c.args.q c.args.n _ (omega (arith, c.requires.apart)) (omega (arith, c.requires.apart)) (omega (arith, c.requires.within)) c.split_at_mut-out.ensures.front

pub loop-i-preserved-in_default : goal.loop-i-preserved-in_default
loop-i-preserved-in_default c = none_more c.args.words.now c.args.f.at c.args.start c.args.q c.args.n c.loop-i.out c.loop-i.m c.loop-i.i c.loop-i.invariant _ c.split_at_mut-out.ensures.back c.in_default.ensures

pub loop-i-preserved : goal.loop-i-preserved
loop-i-preserved c =
    let P : List ℕ → Type 0 = λ us. Gathering c.args.words.now c.args.f.at c.args.start c.args.q c.args.n us (c.loop-i.m + 1) (c.loop-i.i + 1) in
    subst P (sym c.put_fault.ensures) (one_more c.args.words.now c.args.f.at c.args.start c.args.q c.args.n c.loop-i.out c.loop-i.m c.loop-i.i c.loop-i.invariant _ c.split_at_mut-out.ensures.back c.in-Some.x.span.from c.in-Some.x.span.to c.in-Some.x.number (omega (arith, c.requires.apart, c.loop-i.invariant.few)) c.in-Some.ensures)

pub returns-clause-adds : goal.returns-clause-adds
returns-clause-adds c = all_in c.args.words.now c.args.f.at c.args.start c.args.q c.args.n c.loop-i.out _ c.loop-i.m c.loop-i.i c.args.f.count c.loop-i.invariant (omega arith) c.requires.apart
