-- A line of a file.
use Rattle.std.proofs.Common.{sym, refl, subst, arith}
use Rattle.std.proofs.lemmas.Result.{err_from_is_err_and}
use Rattle.symbols.specs.Rows.{texts_in}
use Rattle.collector.specs.Says.{NthSays}
use Rattle.collector.proofs.Filed.{nth_far, nth_full, nth_done}
use Rattle.collector.proofs.line.FileIn.put_nth.Goals as goal

pub returns-in_default : goal.returns-in_default
returns-in_default g c =
    let ws = c.args.words.now in
    let p = g.S.Source.holds c.args.source.now (texts_in c.args.self.l ws) in
    nth_far p c.args.self.l c.args.self.file c.args.i c.args.start c.args.at ws ws c.requires.lent.order c.requires.place.0 c.requires.place.1 c.requires.begins c.requires.there (omega (arith, c.in_default.ensures))

pub returns-in_err-listed : goal.returns-in_err-listed
returns-in_err-listed g c =
    let ws = c.args.words.now in
    let p = g.S.Source.holds c.args.source.now (texts_in c.args.self.l ws) in
    let r = err_from_is_err_and c.from_residual-in_err-listed.result c.from_residual-in_err-listed.ensures.1 in
    subst (NthSays p c.args.self.l c.args.self.file c.args.i c.args.start ws c.args.at c.put_line.new.words) (sym r.1) (nth_full p c.args.self.l c.args.self.file c.args.i c.args.start c.args.at ws c.load.new.words c.requires.lent.order c.requires.place.0 c.requires.place.1 c.requires.begins c.in_ok-line.line c.in_ok-line.ensures (record { file = c.args.self.file; start = c.in-Ok.start }) refl c.in-Ok.ensures.1 c.put_line.new.words r.0 c.in_err-listed.ensures)

pub returns : goal.returns
returns g c =
    let ws = c.args.words.now in
    let p = g.S.Source.holds c.args.source.now (texts_in c.args.self.l ws) in
    let d = c.in_ok-line.ensures in
    let r = nth_done p c.args.self.l c.args.self.file c.args.i c.args.start c.args.at ws c.load.new.words c.requires.lent.order c.requires.place.0 c.requires.place.1 c.requires.begins c.in_ok-line.line d (record { file = c.args.self.file; start = c.in-Ok.start }) refl c.in-Ok.ensures.1 c.put_line.new.words c.in_ok-listed.listed c.in_ok-listed.ensures in
    (r.0, c.in-Ok.ensures.0, omega (arith, d.1.short, c.requires.lent.order.slot, c.requires.lent.order.table, c.requires.lent.order.row, c.requires.lent.order.small), r.1)
