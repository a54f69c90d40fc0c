-- A file.
use Rattle.std.proofs.Common.{◌≡◌, Some, Ok, Err, sym, subst, arith}
use Rattle.std.proofs.lemmas.Option.{slice_get_within}
use Rattle.std.specs.List.{slice_get}
use Rattle.std.proofs.lemmas.Result.{err_from_is_err_and}
use Rattle.semantics.specs.Names.{File}
use Rattle.source.specs.Source.{NameSays}
use Rattle.symbols.specs.Rows.{texts_in}
use Rattle.collector.specs.Says.{LinesSays}
use Rattle.collector.specs.Collected.{FileSays}
use Rattle.collector.proofs.Files.{file_small, mid_order, mid_texts, file_undeclared, count_small, file_done}
use Rattle.collector.proofs.line.FileIn.put_file.Goals as goal

pub put_lines-requires : goal.put_lines-requires
put_lines-requires g c =
    let s = c.args.source.now in
    let ws = c.args.words.now in
    let l = c.args.self.l in
    let p = g.S.Source.holds s (texts_in l ws) in
    let t = c.requires.there in
    let us = c.put_uses.new.words in
    let u = c.in_ok-uses.ensures in
    let e = sym (mid_texts p l c.args.self.file c.args.at ws us c.requires.lent.order c.requires.place.0 c.requires.place.1 t.0 t.1 c.in_ok-uses.uses u us) in
    record {
      lent = record { order = mid_order p l c.args.self.file c.args.at ws us c.requires.lent.order c.requires.place.0 c.requires.place.1 t.0 t.1 c.in_ok-uses.uses u us; fits = subst (g.S.Source.fits s) e c.requires.lent.fits };
      there = subst (λ m. (x : File) × (slice_get (g.S.Source.holds s m) c.args.self.file ≡ Some x)) e (t.0, t.1);
      place = (omega (arith, c.requires.place.0, u.0.onward), u.0.within, file_small p l c.args.self.file c.args.at ws us c.requires.lent.order c.requires.place.0 c.requires.place.1 t.0 t.1);
    }

pub returns-in_err-declared : goal.returns-in_err-declared
returns-in_err-declared g c =
    let s = c.args.source.now in
    let ws = c.args.words.now in
    let l = c.args.self.l in
    let p = g.S.Source.holds s (texts_in l ws) in
    let t = c.requires.there in
    let us = c.put_uses.new.words in
    let vs = c.put_lines.new.words in
    let mid = c.in_ok-uses.uses in
    let u = c.in_ok-uses.ensures in
    let e = mid_texts p l c.args.self.file c.args.at ws us c.requires.lent.order c.requires.place.0 c.requires.place.1 t.0 t.1 mid u us in
    let r = err_from_is_err_and c.from_residual-in_err-declared.result c.from_residual-in_err-declared.ensures.1 in
    let d = subst (λ m. LinesSays (g.S.Source.holds s m) l c.args.self.file us mid vs (Err r.0)) e c.in_err-declared.ensures in
    subst (FileSays p l c.args.self.file ws c.args.at vs) (sym r.1) (file_undeclared p l c.args.self.file c.args.at ws us c.requires.lent.order c.requires.place.0 c.requires.place.1 t.0 t.1 mid u vs r.0 d)

pub overflow_cast-row-6 : goal.overflow_cast-row-6
overflow_cast-row-6 g c =
    let s = c.args.source.now in
    let ws = c.args.words.now in
    let l = c.args.self.l in
    let p = g.S.Source.holds s (texts_in l ws) in
    let t = c.requires.there in
    let us = c.put_uses.new.words in
    let vs = c.put_lines.new.words in
    let mid = c.in_ok-uses.uses in
    let u = c.in_ok-uses.ensures in
    let e = mid_texts p l c.args.self.file c.args.at ws us c.requires.lent.order c.requires.place.0 c.requires.place.1 t.0 t.1 mid u us in
    let d = subst (λ m. LinesSays (g.S.Source.holds s m) l c.args.self.file us mid vs (Ok c.in_ok-declared.declared)) e c.in_ok-declared.ensures in
    let n = count_small p l c.args.self.file c.args.at ws us c.requires.lent.order c.requires.place.0 c.requires.place.1 t.0 t.1 mid u vs c.in_ok-declared.declared d in
    omega (arith, n, d.0.within, c.requires.lent.order.row, c.requires.lent.order.small)

pub overflow_mul-self : goal.overflow_mul-self
overflow_mul-self g c =
    let t = c.requires.there in
    omega (arith, slice_get_within _ c.args.self.file t.0 t.1, c.requires.place.0, c.requires.place.1, c.requires.lent.order.row, c.requires.lent.order.small)

pub overflow_add-self-2 : goal.overflow_add-self-2
overflow_add-self-2 g c =
    let t = c.requires.there in
    omega (arith, slice_get_within _ c.args.self.file t.0 t.1, c.requires.place.0, c.requires.place.1, c.requires.lent.order.row, c.requires.lent.order.small)

pub put-requires : goal.put-requires
put-requires g c =
    let t = c.requires.there in
    omega (arith, slice_get_within _ c.args.self.file t.0 t.1, c.requires.place.0, c.requires.place.1, c.requires.lent.order.row, c.put_uses.auto.words, c.put_lines.auto.words)

pub returns : goal.returns
returns g c =
    let s = c.args.source.now in
    let ws = c.args.words.now in
    let l = c.args.self.l in
    let p = g.S.Source.holds s (texts_in l ws) in
    let t = c.requires.there in
    let us = c.put_uses.new.words in
    let vs = c.put_lines.new.words in
    let mid = c.in_ok-uses.uses in
    let u = c.in_ok-uses.ensures in
    let e = mid_texts p l c.args.self.file c.args.at ws us c.requires.lent.order c.requires.place.0 c.requires.place.1 t.0 t.1 mid u us in
    let d = subst (λ m. LinesSays (g.S.Source.holds s m) l c.args.self.file us mid vs (Ok c.in_ok-declared.declared)) e c.in_ok-declared.ensures in
    let n = subst (λ m. NameSays (g.S.Source.holds s m) c.args.self.file m (Some c.in_ok-name.name)) c.texts_of.ensures (subst (NameSays (g.S.Source.holds s c.texts_of.result.now) c.args.self.file c.texts_of.result.now) c.in_ok-name.ensures.ok_part c.name.ensures) in
    file_done p l c.args.self.file c.args.at ws us c.requires.lent.order c.requires.place.0 c.requires.place.1 t.0 t.1 mid u vs c.in_ok-declared.declared d c.put.new.words c.in_ok-name.name n c.put.ensures.wrote c.put.ensures.held
