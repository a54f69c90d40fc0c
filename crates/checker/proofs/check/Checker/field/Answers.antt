use Rattle.std.proofs.Common.{take, sym, refl, ap, ◌∙◌, arith}
use Rattle.std.proofs.lemmas.Result.{err_from_is_err_and}
use Rattle.parser.specs.Rows.{span_of}
use Rattle.semantics.specs.Check.{of_record, typed}
use Rattle.semantics.specs.Walk.{says, pop, fetch, asks_type, the_sig}
use Rattle.checker.specs.Rows.{means}
use Rattle.checker.proofs.check.Checker.field.Goals as goal

pub returns : goal.returns
returns g c =
    let ws = c.args.words.now in
    let b = c.args.self.now.b in
    let K = g.L.Lookup.book c.args.self.now.look.now (take b.base ws) in
    let line = take b.len ws in
    let σ = means K line b c.args.p ws in
    let t = span_of line c.args.x in
    let e = c.newest-of.ensures K line in
    let u = c.below.ensures.under K line b ws in
    let h = c.in_ok-v.ensures in
    let a = c.newest-of.result.span.from in (
      h.0,
      sym (ap (λ f. fetch K.knows (asks_type f.ty)) e) ∙ h.1,
      record {
        before = c.tell_value.ensures.writes.before;
        frame_more = omega (arith, c.tell_value.ensures.few, c.below.ensures.lower);
        name_more = omega (arith, c.tell_value.ensures.few, c.below.ensures.lower);
        said_more = omega (arith, c.tell_value.ensures.few, c.below.ensures.lower);
        becomes = c.tell_value.ensures.writes.becomes K line
            ∙ (λ i. says a t.to (typed a t.to (h.2 i)) (u i).stack (u i).bound (u i).out)
            ∙ (λ i. says (e i).from t.to (typed (e i).from t.to (of_record (λ f n. the_sig h.0) t (e i).ty)) (pop σ.stack) σ.bound σ.out);
      },
    )

pub returns-in_err-v : goal.returns-in_err-v
returns-in_err-v g c =
    let ws = c.args.words.now in
    let K = g.L.Lookup.book c.args.self.now.look.now (take c.args.self.now.b.base ws) in
    let p = err_from_is_err_and c.from_residual.result c.from_residual.ensures.1 in
    rw (p.1, p.2) (sym (ap (λ f. fetch K.knows (asks_type f.ty)) (c.newest-of.ensures K (take c.args.self.now.b.len ws))) ∙ c.in_err-v.ensures, refl)
