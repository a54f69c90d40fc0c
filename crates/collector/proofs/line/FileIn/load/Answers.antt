-- A line of a file.
use Rattle.std.proofs.Common.{length, sym, subst}
use Rattle.std.proofs.lemmas.Result.{err_from_is_err_and}
use Rattle.symbols.specs.Rows.{texts_in, FetchSays}
use Rattle.collector.specs.Says.{LoadSays}
use Rattle.collector.proofs.Loading.{fetched_kept, load_says, not_fetched}
use Rattle.collector.proofs.line.FileIn.load.Goals as goal

pub returns-in_err-line : goal.returns-in_err-line
returns-in_err-line g c =
    let l = c.args.self.l in
    let ws = c.args.words.now in
    let us = c.fetch.new.words in
    let p = g.S.Source.holds c.args.source.now (texts_in l ws) in
    let r = err_from_is_err_and c.from_residual.result c.from_residual.ensures.1 in
    let none = subst (FetchSays l p c.args.self.file c.args.i (texts_in l ws) us) c.in_err-line.ensures.ok_part c.fetch.ensures.line in
    subst (LoadSays p l c.args.self.file c.args.i ws us) (sym r.1) (fetched_kept l ws us c.requires.lent.order c.fetch.auto.words c.fetch.ensures.behind, not_fetched p l c.args.self.file c.args.i (length ws) (texts_in l ws) us c.requires.there none)

pub returns : goal.returns
returns g c =
    let l = c.args.self.l in
    let ws = c.args.words.now in
    let us = c.fetch.new.words in
    let p = g.S.Source.holds c.args.source.now (texts_in l ws) in
    let line = subst (FetchSays l p c.args.self.file c.args.i (texts_in l ws) us) c.in_ok-line.ensures.ok_part c.fetch.ensures.line in
    load_says p l c.args.self.file c.args.i ws us c.read.new.words c.in_ok-line.line c.read.result c.requires.lent.order c.fetch.auto.words c.fetch.ensures.behind line c.read.ensures
