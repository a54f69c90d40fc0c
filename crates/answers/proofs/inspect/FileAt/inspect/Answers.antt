use Rattle.std.proofs.Common.{◌≡◌, None, sym, subst, inl, inr, ⊎_elim, rules}
use Rattle.diagnostics.specs.Diagnose.{DiagnoseSays}
use Rattle.symbols.specs.Rows.{texts_in}
use Rattle.answers.specs.Says.{InspectSays}
use Rattle.answers.proofs.Inspections.{kept_up_to, ok_of, err_of, all_kept, inspected, hindered}
use Rattle.answers.proofs.inspect.FileAt.inspect.Goals as goal

pub returns-in_err-line : goal.returns-in_err-line
returns-in_err-line g c =
    let l = c.args.self.l in
    let ws = c.args.words.now in
    let us = c.fetch.new.words in
    let p = g.S.Source.holds c.args.source.now (texts_in l ws) in
    let h = c.in_err-line.ensures in
    let back : c.from_residual.result ≡ None = search rules in
    let says : InspectSays (g.L.Lookup.book c.args.look.now) p c.args.self.file c.args.i l.texts c.args.self.base ws us None = ⊎_elim inl (λ b. inr (b.0, b.1, b.2, inl b.3)) h.line in
    record {
      kept = kept_up_to l.texts c.args.self.base us ws h.behind;
      says = subst (InspectSays (g.L.Lookup.book c.args.look.now) p c.args.self.file c.args.i l.texts c.args.self.base ws us) (sym back) says;
    }

pub returns-in_err-findings : goal.returns-in_err-findings
returns-in_err-findings g c =
    let l = c.args.self.l in
    let b = g.L.Lookup.book c.args.look.now in
    let ws = c.args.words.now in
    let us = c.fetch.new.words in
    let vs = c.diagnose.new.words in
    let m = texts_in l ws in
    let p = g.S.Source.holds c.args.source.now m in
    let h = c.in_ok-line.ensures in
    let e = c.in_ok-line.line in
    let d = c.diagnose.ensures in
    let s = err_of c.diagnose.result c.in_err-findings.ensures.value in
    let back : c.from_residual-in_err-findings.result ≡ None = search rules in
    record {
      kept = all_kept b p c.args.self.file c.args.i c.args.self.base l m ws us vs e h.behind h.line d.front;
      says = subst (InspectSays b p c.args.self.file c.args.i l.texts c.args.self.base ws vs) (sym back) (hindered b p c.args.self.file c.args.i c.args.self.base l m ws us vs e h.behind h.line d.front s.0 (search rules) (subst (DiagnoseSays b us e.len c.args.self.base vs) s.1 d.says));
    }

pub returns : goal.returns
returns g c =
    let l = c.args.self.l in
    let b = g.L.Lookup.book c.args.look.now in
    let ws = c.args.words.now in
    let us = c.fetch.new.words in
    let vs = c.diagnose.new.words in
    let m = texts_in l ws in
    let p = g.S.Source.holds c.args.source.now m in
    let h = c.in_ok-line.ensures in
    let e = c.in_ok-line.line in
    let d = c.diagnose.ensures in
    record {
      kept = all_kept b p c.args.self.file c.args.i c.args.self.base l m ws us vs e h.behind h.line d.front;
      says = inspected b p c.args.self.file c.args.i c.args.self.base l m ws us vs e h.behind h.line d.front c.in_ok-findings.findings (subst (DiagnoseSays b us e.len c.args.self.base vs) (ok_of c.diagnose.result c.in_ok-findings.findings c.in_ok-findings.ensures.value) d.says);
    }
