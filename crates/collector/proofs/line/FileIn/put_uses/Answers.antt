-- The files that a file uses.
use Rattle.std.proofs.Common.{◌<◌, length, Ok, Err, sym, subst, arith}
use Rattle.std.proofs.lemmas.Result.{err_from_is_err_and}
use Rattle.source.specs.Source.{CountSays}
use Rattle.symbols.specs.Rows.{texts_in}
use Rattle.collector.specs.Says.{There, NthUseSays, UsesSays}
use Rattle.collector.proofs.Listing.{listing_none, listing_order, listing_texts, listing_more, listing_stops}
use Rattle.collector.proofs.line.FileIn.put_uses.Goals as goal

pub loop-i-init : goal.loop-i-init
loop-i-init g c =
    let ws = c.args.words.now in
    listing_none (g.S.Source.holds c.args.source.now (texts_in c.args.self.l ws)) c.args.self.l c.args.self.file ws c.args.at c.requires.lent.order c.requires.place.0 c.requires.place.1

pub use_nth-requires : goal.use_nth-requires
use_nth-requires g c =
    let s = c.args.source.now in
    let ws = c.args.words.now in
    let l = c.args.self.l in
    let p = g.S.Source.holds s (texts_in l ws) in
    let e = sym (listing_texts p l c.args.self.file ws c.args.at c.requires.lent.order c.requires.place.0 c.loop-i.i c.loop-i.to c.loop-i.words c.loop-i.invariant) in
    let n = subst (λ m. CountSays (g.S.Source.holds s m) c.args.self.file c.lines-lines.result) c.texts_of.ensures c.lines-lines.ensures in
    let t = c.requires.there in
    record {
      lent = record { order = listing_order p l c.args.self.file ws c.args.at c.requires.lent.order c.requires.place.0 c.loop-i.i c.loop-i.to c.loop-i.words c.loop-i.invariant; fits = subst (g.S.Source.fits s) e c.requires.lent.fits };
      few = subst (λ m. length (g.S.Source.holds s m) < 4294967296) e c.requires.few;
      there = subst (λ m. There (g.S.Source.holds s m) c.args.self.file c.loop-i.i) e (t.0, t.1, omega (arith, n.0 t.0 t.1, c.loop-i-test.true));
      list = (c.requires.place.0, c.loop-i.invariant.went.onward, c.loop-i.invariant.went.within);
    }

pub returns-in_err-to : goal.returns-in_err-to
returns-in_err-to g c =
    let s = c.args.source.now in
    let ws = c.args.words.now in
    let l = c.args.self.l in
    let p = g.S.Source.holds s (texts_in l ws) in
    let e = listing_texts p l c.args.self.file ws c.args.at c.requires.lent.order c.requires.place.0 c.loop-i.i c.loop-i.to c.loop-i.words c.loop-i.invariant in
    let r = err_from_is_err_and c.from_residual.result c.from_residual.ensures.1 in
    let n = subst (λ m. NthUseSays (g.S.Source.holds s m) l c.args.self.file c.loop-i.i c.loop-i.words c.args.at c.loop-i.to c.use_nth.new.words (Err r.0)) e c.in_err-to.ensures in
    subst (UsesSays p l c.args.self.file ws c.args.at c.use_nth.new.words) (sym r.1) (listing_stops p l c.args.self.file ws c.args.at c.requires.lent.order c.requires.place.0 c.loop-i.i c.loop-i.to c.loop-i.words c.loop-i.invariant c.use_nth.new.words r.0 n)

pub loop-i-preserved : goal.loop-i-preserved
loop-i-preserved g c =
    let s = c.args.source.now in
    let ws = c.args.words.now in
    let l = c.args.self.l in
    let p = g.S.Source.holds s (texts_in l ws) in
    let e = listing_texts p l c.args.self.file ws c.args.at c.requires.lent.order c.requires.place.0 c.loop-i.i c.loop-i.to c.loop-i.words c.loop-i.invariant in
    let n = subst (λ m. NthUseSays (g.S.Source.holds s m) l c.args.self.file c.loop-i.i c.loop-i.words c.args.at c.loop-i.to c.use_nth.new.words (Ok c.in_ok-to.to)) e c.in_ok-to.ensures in
    listing_more p l c.args.self.file ws c.args.at c.requires.lent.order c.requires.place.0 c.loop-i.i c.loop-i.to c.loop-i.words c.loop-i.invariant c.use_nth.new.words c.in_ok-to.to n
