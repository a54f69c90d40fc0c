use Rattle.std.proofs.Common.{false, [], ◌∷◌, take, None, sym, ap, ◌∙◌, arith}
use mathlib.Core.Option.{none}
use Rattle.base.specs.Base.{opt}
use Rattle.parser.specs.Rows.{span_of}
use Rattle.semantics.specs.Names.{s_unknown}
use Rattle.semantics.specs.Check.{said, fault, callee, calls_it, count_fault, link_local}
use Rattle.semantics.specs.Walk.{begins, k_yes, k_sig}
use Rattle.checker.specs.declared.said.Link.TheVariants.{Local}
use Rattle.checker.specs.Rows.{means, meaning_is, with_link}
use Rattle.checker.specs.Asks.{begun}
use Rattle.checker.proofs.Asks.{asks_bound, asks_free, begun_is, all_left}
use Rattle.checker.proofs.check.Checker.call.Goals as goal

pub returns-in-Some : goal.returns-in-Some
returns-in-Some g c =
    let ws = c.args.words.now in
    let b = c.args.self.now.b in
    let K = g.L.Lookup.book c.args.self.now.look.now (take b.base ws) in
    let line = take b.len ws in
    let σ = means K line b c.args.p ws in
    let t = span_of line c.args.s in
    let e = c.in-Some.ensures K in (
      k_yes false,
      asks_bound K.knows σ.bound t.w _ e,
      record {
        before = c.begin.ensures.writes.before;
        frame_more = omega (arith, c.begin.ensures.few);
        name_more = omega (arith, c.begin.ensures.few);
        said_more = omega (arith, c.begin.ensures.few);
        becomes = c.begin.ensures.writes.becomes K line ∙ ap (λ v. begun K t v None None σ) (c.linked-v.ensures ∙ ap (λ v. with_link v (Local c.in-Some.x.span.from)) c.wrong.ensures) ∙ ap (λ f. begins t c.args.n (opt f (callee t s_unknown) (λ x. calls_it none (said none (fault t.from t.to 8 ∷ []) [] (link_local t x ∷ [])))) σ.stack σ.bound σ.out) (sym e);
      },
    )

pub returns : goal.returns
returns g c =
    let ws = c.args.words.now in
    let b = c.args.self.now.b in
    let K = g.L.Lookup.book c.args.self.now.look.now (take b.base ws) in
    let line = take b.len ws in
    let σ = means K line b c.args.p ws in
    let t = span_of line c.args.s in
    let m = c.in_ok-m.m in
    let S = meaning_is K m in
    let e = c.in_default.ensures K in (
      k_sig S,
      asks_free K.knows σ.bound t.w e ∙ c.in_ok-m.ensures,
      record {
        before = c.begin-2.ensures.writes.before;
        frame_more = omega (arith, c.begin-2.ensures.few);
        name_more = omega (arith, c.begin-2.ensures.few);
        said_more = omega (arith, c.begin-2.ensures.few);
        becomes = c.begin-2.ensures.writes.becomes K line
            ∙ begun_is K t c.judge-v.result c.slots_of-slots.result c.miscount-fault.result σ c.args.n (callee t S) (c.judge-v.ensures t) (all_left K m c.slots_of-slots.result t c.slots_of-slots.ensures) (c.miscount-fault.ensures t ∙ ap (count_fault t c.args.n) (sym (c.slots_of-slots.ensures.come t)))
            ∙ ap (λ f. begins t c.args.n (opt f (callee t S) (λ x. calls_it none (said none (fault t.from t.to 8 ∷ []) [] (link_local t x ∷ [])))) σ.stack σ.bound σ.out) (sym e);
      },
    )
