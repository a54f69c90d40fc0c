-- The lines of a file.
use Rattle.std.proofs.Common.{Ok, Err, sym, subst, arith}
use Rattle.std.proofs.lemmas.Result.{err_from_is_err_and}
use Rattle.source.specs.Source.{CountSays}
use Rattle.symbols.specs.Rows.{texts_in}
use Rattle.collector.specs.Says.{There, BeginsAt, NthSays, LinesSays}
use Rattle.collector.proofs.Filed.{done_none, done_order, done_texts, done_few, put_few, done_more, done_stops}
use Rattle.collector.proofs.line.FileIn.put_lines.Goals as goal

pub loop-i-init : goal.loop-i-init
loop-i-init g c =
    let ws = c.args.words.now in
    done_none (g.S.Source.holds c.args.source.now (texts_in c.args.self.l ws)) c.args.self.l c.args.self.file ws c.args.at c.requires.lent.order c.requires.place.0 c.requires.place.1

pub put_nth-requires : goal.put_nth-requires
put_nth-requires g c =
    let s = c.args.source.now in
    let ws = c.args.words.now in
    let l = c.args.self.l in
    let p = g.S.Source.holds s (texts_in l ws) in
    let e = done_texts p l c.args.self.file ws c.args.at c.requires.lent.order c.requires.place.0 c.loop-i.i c.loop-i.start c.loop-i.count c.loop-i.to c.loop-i.words c.loop-i.invariant in
    let n = subst (λ m. CountSays (g.S.Source.holds s m) c.args.self.file c.lines-lines.result) c.texts_of.ensures c.lines-lines.ensures in
    let t = c.requires.there in
    record {
      lent = record { order = done_order p l c.args.self.file ws c.args.at c.requires.lent.order c.requires.place.0 c.loop-i.i c.loop-i.start c.loop-i.count c.loop-i.to c.loop-i.words c.loop-i.invariant; fits = subst (g.S.Source.fits s) (sym e) c.requires.lent.fits };
      there = subst (λ m. There (g.S.Source.holds s m) c.args.self.file c.loop-i.i) (sym e) (t.0, t.1, omega (arith, n.0 t.0 t.1, c.loop-i-test.true));
      begins = subst (λ m. BeginsAt (g.S.Source.holds s m) c.args.self.file c.loop-i.i c.loop-i.start) (sym e) c.loop-i.invariant.begins;
      place = (omega (arith, c.requires.place.0, c.loop-i.invariant.went.onward), c.loop-i.invariant.went.within, c.requires.place.2);
    }

pub returns-in_err-put : goal.returns-in_err-put
returns-in_err-put g c =
    let s = c.args.source.now in
    let ws = c.args.words.now in
    let l = c.args.self.l in
    let p = g.S.Source.holds s (texts_in l ws) in
    let e = done_texts p l c.args.self.file ws c.args.at c.requires.lent.order c.requires.place.0 c.loop-i.i c.loop-i.start c.loop-i.count c.loop-i.to c.loop-i.words c.loop-i.invariant in
    let r = err_from_is_err_and c.from_residual.result c.from_residual.ensures.1 in
    let n = subst (λ m. NthSays (g.S.Source.holds s m) l c.args.self.file c.loop-i.i c.loop-i.start c.loop-i.words c.loop-i.to c.put_nth.new.words (Err r.0)) e c.in_err-put.ensures in
    subst (LinesSays p l c.args.self.file ws c.args.at c.put_nth.new.words) (sym r.1) (done_stops p l c.args.self.file ws c.args.at c.requires.lent.order c.requires.place.0 c.loop-i.i c.loop-i.start c.loop-i.count c.loop-i.to c.loop-i.words c.loop-i.invariant c.put_nth.new.words r.0 n)

pub overflow_add-count : goal.overflow_add-count
overflow_add-count g c =
    let s = c.args.source.now in
    let ws = c.args.words.now in
    let l = c.args.self.l in
    let p = g.S.Source.holds s (texts_in l ws) in
    let e = done_texts p l c.args.self.file ws c.args.at c.requires.lent.order c.requires.place.0 c.loop-i.i c.loop-i.start c.loop-i.count c.loop-i.to c.loop-i.words c.loop-i.invariant in
    let n = subst (λ m. NthSays (g.S.Source.holds s m) l c.args.self.file c.loop-i.i c.loop-i.start c.loop-i.words c.loop-i.to c.put_nth.new.words (Ok c.in_ok-put.put)) e c.in_ok-put.ensures in
    let t = c.requires.there in
    let few = done_few p l c.args.self.file ws c.args.at c.requires.lent.order c.requires.place.0 c.loop-i.i c.loop-i.start c.loop-i.count c.loop-i.to c.loop-i.words c.loop-i.invariant t.0 t.1 in
    let more = put_few p l c.args.self.file ws c.args.at c.requires.lent.order c.requires.place.0 c.loop-i.i c.loop-i.start c.loop-i.count c.loop-i.to c.loop-i.words c.loop-i.invariant c.put_nth.new.words c.in_ok-put.put t.0 t.1 n in
    omega (arith, few, more, c.loop-i.invariant.went.within, n.0.within, c.requires.lent.order.row, c.requires.lent.order.small)

pub loop-i-preserved : goal.loop-i-preserved
loop-i-preserved g c =
    let s = c.args.source.now in
    let ws = c.args.words.now in
    let l = c.args.self.l in
    let p = g.S.Source.holds s (texts_in l ws) in
    let e = done_texts p l c.args.self.file ws c.args.at c.requires.lent.order c.requires.place.0 c.loop-i.i c.loop-i.start c.loop-i.count c.loop-i.to c.loop-i.words c.loop-i.invariant in
    let n = subst (λ m. NthSays (g.S.Source.holds s m) l c.args.self.file c.loop-i.i c.loop-i.start c.loop-i.words c.loop-i.to c.put_nth.new.words (Ok c.in_ok-put.put)) e c.in_ok-put.ensures in
    done_more p l c.args.self.file ws c.args.at c.requires.lent.order c.requires.place.0 c.loop-i.i c.loop-i.start c.loop-i.count c.loop-i.to c.loop-i.words c.loop-i.invariant c.put_nth.new.words c.in_ok-put.put n
