use Rattle.std.proofs.Common.{ℕ, List, sym, subst, rules}
use Rattle.source.specs.Source.{CountSays}
use Rattle.symbols.specs.Rows.{texts_in}
use Rattle.answers.proofs.Stepped.{begun}
use Rattle.answers.proofs.Going.{held, ready_now, walking, again, within, finds}
use Rattle.answers.proofs.inspect.FileAt.review.Goals as goal

pub loop-i-init : goal.loop-i-init
loop-i-init g c =
    let a = c.requires.asked in
    let p = g.S.Source.holds c.args.source.now (texts_in c.args.self.l c.args.words.now) in
    record { file = a.0; asked = a.1; roomy = a.2; reviewing = begun p a.0 c.args.self.l c.args.words.now }

pub review_line-at-requires : goal.review_line-at-requires
review_line-at-requires g c =
    let h = g.S.Source.holds c.args.source.now in
    let ws = c.args.words.now in
    let vs = c.loop-i.words in
    let F : List ℕ → Type 0 = λ m. g.S.Source.fits c.args.source.now m in
    let n = subst (λ m. CountSays (h m) c.args.self.file c.lines-lines.result) c.texts_of.ensures c.lines-lines.ensures in
    record {
      fits = subst F (sym (held h c.args.self.l ws vs c.requires.ready (search rules) c.loop-i.invariant.reviewing.same)) c.requires.fits;
      ready = ready_now h c.args.self.l ws vs c.requires.ready (search rules) c.loop-i.invariant.reviewing.same;
      walked = walking h c.args.self.l c.args.self.file c.args.self.base ws vs c.loop-i.i c.loop-i.at c.requires.ready (search rules) c.loop-i.invariant c.lines-lines.result n.0 c.loop-i-test.true;
    }

pub loop-i-preserved : goal.loop-i-preserved
loop-i-preserved g c =
    again (g.S.Source.holds c.args.source.now) c.args.self.l c.args.self.file c.args.self.base c.args.words.now c.loop-i.words c.loop-i.i c.loop-i.at c.requires.ready (search rules) c.loop-i.invariant c.review_line-at.new.words c.review_line-at.result c.review_line-at.ensures

pub returns : goal.returns
returns g c =
    let h = g.S.Source.holds c.args.source.now in
    let ws = c.args.words.now in
    let vs = c.loop-i.words in
    let n = subst (λ m. CountSays (h m) c.args.self.file c.lines-lines.result) c.texts_of.ensures c.lines-lines.ensures in
    record {
      kept = c.loop-i.invariant.reviewing.same;
      within = within h c.args.self.l c.args.self.file c.args.self.base ws vs c.loop-i.i c.loop-i.at c.requires.ready (search rules) c.loop-i.invariant c.lines-lines.result n.0 c.loop-i-test.false;
      finds = finds h c.args.self.l c.args.self.file c.args.self.base ws vs c.loop-i.i c.loop-i.at c.requires.ready (search rules) c.loop-i.invariant c.lines-lines.result n.0 c.loop-i-test.false;
    }
