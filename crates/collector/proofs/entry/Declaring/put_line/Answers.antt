-- All that a line declares.
use Rattle.std.proofs.Common.{◌≡◌, sym, subst, arith}
use Rattle.std.proofs.lemmas.Result.{err_from_is_err_and}
use Rattle.collector.specs.Entries.{Declared}
use Rattle.collector.specs.Says.{LineSays}
use Rattle.collector.proofs.Lined.{said, many, partly_more, partly_stops, partly_all, still_loads}
use Rattle.collector.proofs.entry.Declaring.put_line.Goals as goal

pub put_entry-requires : goal.put_entry-requires
put_entry-requires c = record {
  loads = still_loads c.args.self.l c.args.words.now c.args.self.line c.args.self.origin c.args.at c.requires.loads c.requires.place.0 c.loop-i.i c.loop-i.to c.loop-i.words c.loop-i.invariant;
  place = (omega (arith, c.requires.place.0, c.loop-i.invariant.wrote.onward), c.loop-i.invariant.wrote.within, c.requires.place.2);
}

pub loop-i-preserved : goal.loop-i-preserved
loop-i-preserved c =
    let n = many c.args.words.now c.args.self.line c.args.self.origin c.item.result c.declared-count.result c.item.ensures c.declared-count.ensures in
    partly_more c.args.self.l c.args.words.now c.args.self.line c.args.self.origin c.args.at c.requires.loads c.requires.place.0 c.loop-i.i c.loop-i.to c.in_ok-to.to c.loop-i.words c.put_entry.new.words (omega (arith, n, c.loop-i-test.true)) c.loop-i.invariant c.in_ok-to.ensures

pub returns-in_err-to : goal.returns-in_err-to
returns-in_err-to c =
    let p = err_from_is_err_and c.from_residual.result c.from_residual.ensures.1 in
    subst (LineSays c.args.self.l c.args.words.now c.args.self.line c.args.self.origin c.args.at c.put_entry.new.words) (sym p.1) (partly_stops c.args.self.l c.args.words.now c.args.self.line c.args.self.origin c.args.at c.requires.loads c.requires.place.0 c.loop-i.i c.loop-i.to c.loop-i.words c.put_entry.new.words p.0 c.loop-i.invariant c.in_err-to.ensures)

pub returns : goal.returns
returns c =
    let n = many c.args.words.now c.args.self.line c.args.self.origin c.item.result c.declared-count.result c.item.ensures c.declared-count.ensures in
    let e : c.loop-i.i ≡ c.declared-count.result = omega (arith, c.loop-i.auto.i-end, c.loop-i-test.false) in
    let r = partly_all c.args.self.l c.args.words.now c.args.self.line c.args.self.origin c.args.at c.requires.loads c.requires.place.0 c.loop-i.i c.loop-i.to c.loop-i.words (omega (arith, n, e)) c.loop-i.invariant in
    (r.0, λ m q. subst (λ k. Declared m c.args.self.l.texts c.args.self.origin.file c.loop-i.words c.args.at c.loop-i.to k (said c.args.words.now c.args.self.line c.args.self.origin)) e (r.1 m q))
