use Rattle.std.proofs.Common.{false, [], ◌∷◌, take, sym, ap, ◌∙◌, arith}
use Rattle.base.specs.Base.{opt}
use Rattle.parser.specs.Rows.{span_of}
use Rattle.semantics.specs.Names.{s_unknown}
use Rattle.semantics.specs.Check.{said, typed, name_alone, link_local}
use Rattle.semantics.specs.Walk.{says, k_yes, k_sig}
use Rattle.checker.specs.declared.said.Link.TheVariants.{Local}
use Rattle.checker.specs.Rows.{means, meaning_is, with_link}
use Rattle.checker.specs.Asks.{told_value}
use Rattle.checker.proofs.Asks.{asks_bound, asks_free}
use Rattle.checker.proofs.check.Checker.name.Goals as goal

pub returns-in-Some : goal.returns-in-Some
returns-in-Some g c =
    let ws = c.args.words.now in
    let b = c.args.self.now.b in
    let K = g.L.Lookup.book c.args.self.now.look.now (take b.base ws) in
    let line = take b.len ws in
    let σ = means K line b c.args.p ws in
    let t = span_of line c.args.s in
    let e = c.in-Some.ensures K in (
      k_yes false,
      asks_bound K.knows σ.bound t.w _ e,
      record {
        before = c.tell_value.ensures.writes.before;
        frame_more = omega (arith, c.tell_value.ensures.few);
        name_more = omega (arith, c.tell_value.ensures.few);
        said_more = omega (arith, c.tell_value.ensures.few);
        becomes = c.tell_value.ensures.writes.becomes K line ∙ ap (λ v. told_value K t v t.from t.to σ) (c.linked-v.ensures ∙ ap (λ v. with_link v (Local c.in-Some.x.span.from)) c.typed.ensures) ∙ ap (λ f. says t.from t.to (typed t.from t.to (opt f (name_alone t s_unknown) (λ x. said x.ty [] [] (link_local t x ∷ [])))) σ.stack σ.bound σ.out) (sym e);
      },
    )

pub returns : goal.returns
returns g c =
    let ws = c.args.words.now in
    let b = c.args.self.now.b in
    let K = g.L.Lookup.book c.args.self.now.look.now (take b.base ws) in
    let line = take b.len ws in
    let σ = means K line b c.args.p ws in
    let t = span_of line c.args.s in
    let m = c.in_ok-m.m in
    let S = meaning_is K m in
    let e = c.in_default.ensures K in (
      k_sig S,
      asks_free K.knows σ.bound t.w e ∙ c.in_ok-m.ensures,
      record {
        before = c.tell_value-2.ensures.writes.before;
        frame_more = omega (arith, c.tell_value-2.ensures.few);
        name_more = omega (arith, c.tell_value-2.ensures.few);
        said_more = omega (arith, c.tell_value-2.ensures.few);
        becomes = c.tell_value-2.ensures.writes.becomes K line
            ∙ ap (λ s. says t.from t.to (typed t.from t.to s) σ.stack σ.bound σ.out) (c.judge-v.ensures t)
            ∙ ap (λ f. says t.from t.to (typed t.from t.to (opt f (name_alone t S) (λ x. said x.ty [] [] (link_local t x ∷ [])))) σ.stack σ.bound σ.out) (sym e);
      },
    )
