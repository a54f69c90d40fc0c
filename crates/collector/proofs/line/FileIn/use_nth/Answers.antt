-- What a line uses.
use Rattle.std.proofs.Common.{◌≡◌, ◌<◌, length, Some, sym, subst, arith}
use Rattle.std.specs.List.{slice_get}
use Rattle.semantics.specs.Names.{File}
use Rattle.symbols.specs.Rows.{texts_in}
use Rattle.collector.specs.Says.{word_in, PutUseSays}
use Rattle.collector.proofs.Writes.{order_kept, texts_kept}
use Rattle.collector.proofs.Listing.{use_none, use_some}
use Rattle.collector.proofs.line.FileIn.use_nth.Goals as goal

pub returns-in_default : goal.returns-in_default
returns-in_default g c =
    let ws = c.args.words.now in
    let p = g.S.Source.holds c.args.source.now (texts_in c.args.self.l ws) in
    use_none p c.args.self.l c.args.self.file c.args.i c.args.from c.args.to ws c.load.new.words c.requires.lent.order c.requires.list.0 c.requires.list.1 c.requires.list.2 c.in_ok-line.line c.in_ok-line.ensures c.in_default.ensures

pub put_use-requires : goal.put_use-requires
put_use-requires g c =
    let s = c.args.source.now in
    let l = c.args.self.l in
    let ws = c.args.words.now in
    let us = c.load.new.words in
    let d = c.in_ok-line.ensures in
    let e = sym (texts_kept l l.index l.index ws us c.requires.lent.order.slot (omega arith) d.0) in
    let u = c.in-Some.ensures in
    let t = c.requires.there in
    record {
      lent = record { order = order_kept l ws us d.0.long c.requires.lent.order; fits = subst (g.S.Source.fits s) e c.requires.lent.fits };
      few = subst (λ m. length (g.S.Source.holds s m) < 4294967296) e c.requires.few;
      there = subst (λ m. (x : File) × (slice_get (g.S.Source.holds s m) c.args.self.file ≡ Some x)) e (t.0, t.1);
      list = (c.requires.list.1, c.requires.list.2);
    }

pub returns : goal.returns
returns g c =
    let s = c.args.source.now in
    let l = c.args.self.l in
    let ws = c.args.words.now in
    let us = c.load.new.words in
    let p = g.S.Source.holds s (texts_in l ws) in
    let d = c.in_ok-line.ensures in
    let e = texts_kept l l.index l.index ws us c.requires.lent.order.slot (omega arith) d.0 in
    let n = subst (λ m. PutUseSays (g.S.Source.holds s m) l c.args.self.file (word_in us c.in-Some.s) us c.args.from c.args.to c.put_use.new.words c.put_use.result) e c.put_use.ensures in
    use_some p l c.args.self.file c.args.i c.args.from c.args.to ws us c.requires.lent.order c.requires.list.0 c.requires.list.1 c.requires.list.2 c.in_ok-line.line d (word_in us c.in-Some.s) c.put_use.new.words c.put_use.result c.in-Some.ensures.2 n
