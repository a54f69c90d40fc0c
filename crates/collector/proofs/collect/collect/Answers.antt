-- The whole table.
use Rattle.std.proofs.Common.{◌≡◌, ◌+◌, ◌-◌, ◌*◌, ◌<◌, ◌≤◌, [], ◌∷◌, length, Some, Ok, Err, sym, refl, ap, ◌∙◌, subst, inr, arith}
use Rattle.std.specs.List.{slice_get}
use Rattle.std.proofs.lemmas.Result.{err_from_is_err_and}
use Rattle.semantics.specs.Names.{File}
use Rattle.symbols.specs.Rows.{texts_in}
use Rattle.collector.specs.Rows.{Held}
use Rattle.collector.specs.Collected.{FileSays, TooFew, Collected, CollectSays}
use Rattle.collector.proofs.Heads.{nth_some}
use Rattle.collector.proofs.Writes.{kept_wrote, texts_kept, order_kept}
use Rattle.collector.proofs.Tables.{base_of, Tabling, few_rows, tabling_none, tabling_order, tabling_texts, tabling_more, tabling_stops, stops_texts, tabling_all, collected_cut}
use Rattle.collector.proofs.collect.collect.Goals as goal
use Rattle.collector.proofs.collect.collect.Goals.{then-room-eq0-via-then-room-eq0, then-room-eq0-via-else-room-eq0+then-room-files}

pub returns-then-room-eq0 : goal.returns-then-room-eq0
returns-then-room-eq0 g c =
    let s = c.args.source.now in
    let ws = c.args.words.now in
    let l = c.args.l in
    let p = g.S.Source.holds s (texts_in l ws) in
    let n : c.files-files.result ≡ length p = c.files-files.ensures ∙ ap (λ m. length (g.S.Source.holds s m)) c.texts_of.ensures in
    let short : l.work - l.index < 1 + 6 * length p = elim c.then-room-eq0.branch [ then-room-eq0-via-then-room-eq0 w ↦ omega (arith, w.if-room-eq0.true) | then-room-eq0-via-else-room-eq0+then-room-files w ↦ omega (arith, w.if-room-eq0.false, w.if-room-files.true, n) ] in
    record { texts = refl; says = inr (few_rows p (l.work - l.index) short) }

pub loop-k-init : goal.loop-k-init
loop-k-init g c =
    let s = c.args.source.now in
    let ws = c.args.words.now in
    let l = c.args.l in
    let o = c.requires.lent.order in
    let w1 = c.put.new.words in
    let e1 : texts_in l w1 ≡ texts_in l ws = texts_kept l l.index (l.index + 1) ws w1 o.slot (omega arith) (kept_wrote l l.index (l.index + 1) ws w1 c.put.ensures.wrote) in
    let p = g.S.Source.holds s (texts_in l w1) in
    let n : c.files-files.result ≡ length p = c.files-files.ensures ∙ ap (λ m. length (g.S.Source.holds s m)) (c.texts_of.ensures ∙ sym e1) in
    let o1 = order_kept l ws w1 c.put.ensures.wrote.long o in
    let b : base_of p l ≡ l.index + 1 + 6 * c.files-files.result = omega arith in
    let room : base_of p l ≤ l.work = omega (arith, c.if-room-eq0.false, c.if-room-files.false) in
    subst (λ a. Tabling p l w1 0 a w1) b (tabling_none p l w1 o1 room (subst (λ f. Held w1 l.index (f ∷ [])) n c.put.ensures.held))

pub put_file-requires : goal.put_file-requires
put_file-requires g c =
    let s = c.args.source.now in
    let ws = c.args.words.now in
    let l = c.args.l in
    let o = c.requires.lent.order in
    let w1 = c.put.new.words in
    let e1 : texts_in l w1 ≡ texts_in l ws = texts_kept l l.index (l.index + 1) ws w1 o.slot (omega arith) (kept_wrote l l.index (l.index + 1) ws w1 c.put.ensures.wrote) in
    let p = g.S.Source.holds s (texts_in l w1) in
    let n : c.files-files.result ≡ length p = c.files-files.ensures ∙ ap (λ m. length (g.S.Source.holds s m)) (c.texts_of.ensures ∙ sym e1) in
    let o1 = order_kept l ws w1 c.put.ensures.wrote.long o in
    let k = c.loop-k.k in
    let vs = c.loop-k.words in
    let t = c.loop-k.invariant in
    let e2 = tabling_texts p l w1 o1 k c.loop-k.at vs t in
    let x = nth_some p k (omega (arith, n, c.loop-k-test.true)) in
    record {
      lent = record { order = tabling_order p l w1 o1 k c.loop-k.at vs t; fits = subst (g.S.Source.fits s) (sym (e2 ∙ e1)) c.requires.lent.fits };
      there = subst (λ m. (x : File) × (slice_get (g.S.Source.holds s m) k ≡ Some x)) (sym e2) (x.0, x.1);
      place = (omega (arith, t.ends, ap (λ m. length (g.S.Source.holds s m)) e2), t.within);
    }

pub returns-in_err-at : goal.returns-in_err-at
returns-in_err-at g c =
    let s = c.args.source.now in
    let ws = c.args.words.now in
    let l = c.args.l in
    let o = c.requires.lent.order in
    let w1 = c.put.new.words in
    let e1 : texts_in l w1 ≡ texts_in l ws = texts_kept l l.index (l.index + 1) ws w1 o.slot (omega arith) (kept_wrote l l.index (l.index + 1) ws w1 c.put.ensures.wrote) in
    let p = g.S.Source.holds s (texts_in l w1) in
    let n : c.files-files.result ≡ length p = c.files-files.ensures ∙ ap (λ m. length (g.S.Source.holds s m)) (c.texts_of.ensures ∙ sym e1) in
    let o1 = order_kept l ws w1 c.put.ensures.wrote.long o in
    let k = c.loop-k.k in
    let vs = c.loop-k.words in
    let t = c.loop-k.invariant in
    let e2 = tabling_texts p l w1 o1 k c.loop-k.at vs t in
    let us = c.put_file.new.words in
    let q = g.S.Source.holds s (texts_in l ws) in
    let r = err_from_is_err_and c.from_residual.result c.from_residual.ensures.1 in
    let f = subst (λ m. FileSays (g.S.Source.holds s m) l k vs c.loop-k.at us (Err r.0)) e2 c.in_err-at.ensures in
    let few = tabling_stops p l w1 o1 k c.loop-k.at vs t us r.0 (omega (arith, n, c.loop-k-test.true)) f in
    record {
      texts = stops_texts p l w1 o1 k c.loop-k.at vs t us f.0 ∙ e1;
      says = subst (CollectSays q l ws us) (sym r.1) (subst (TooFew q l) c.put.ensures.wrote.long (subst (λ m. TooFew (g.S.Source.holds s m) l (length w1)) e1 few));
    }

pub loop-k-preserved : goal.loop-k-preserved
loop-k-preserved g c =
    let s = c.args.source.now in
    let ws = c.args.words.now in
    let l = c.args.l in
    let o = c.requires.lent.order in
    let w1 = c.put.new.words in
    let e1 : texts_in l w1 ≡ texts_in l ws = texts_kept l l.index (l.index + 1) ws w1 o.slot (omega arith) (kept_wrote l l.index (l.index + 1) ws w1 c.put.ensures.wrote) in
    let p = g.S.Source.holds s (texts_in l w1) in
    let n : c.files-files.result ≡ length p = c.files-files.ensures ∙ ap (λ m. length (g.S.Source.holds s m)) (c.texts_of.ensures ∙ sym e1) in
    let o1 = order_kept l ws w1 c.put.ensures.wrote.long o in
    let k = c.loop-k.k in
    let vs = c.loop-k.words in
    let t = c.loop-k.invariant in
    let e2 = tabling_texts p l w1 o1 k c.loop-k.at vs t in
    let us = c.put_file.new.words in
    let f = subst (λ m. FileSays (g.S.Source.holds s m) l k vs c.loop-k.at us (Ok c.in_ok-at.at)) e2 c.in_ok-at.ensures in
    tabling_more p l w1 o1 k c.loop-k.at vs t us c.in_ok-at.at (omega (arith, n, c.loop-k-test.true)) f

pub returns : goal.returns
returns g c =
    let s = c.args.source.now in
    let ws = c.args.words.now in
    let l = c.args.l in
    let o = c.requires.lent.order in
    let w1 = c.put.new.words in
    let e1 : texts_in l w1 ≡ texts_in l ws = texts_kept l l.index (l.index + 1) ws w1 o.slot (omega arith) (kept_wrote l l.index (l.index + 1) ws w1 c.put.ensures.wrote) in
    let p = g.S.Source.holds s (texts_in l w1) in
    let n : c.files-files.result ≡ length p = c.files-files.ensures ∙ ap (λ m. length (g.S.Source.holds s m)) (c.texts_of.ensures ∙ sym e1) in
    let o1 = order_kept l ws w1 c.put.ensures.wrote.long o in
    let k = c.loop-k.k in
    let vs = c.loop-k.words in
    let t = c.loop-k.invariant in
    let e2 = tabling_texts p l w1 o1 k c.loop-k.at vs t in
    let q = g.S.Source.holds s (texts_in l ws) in
    let all : Collected q l vs = subst (λ m. Collected (g.S.Source.holds s m) l vs) e1 (tabling_all p l w1 o1 k c.loop-k.at vs t (omega (arith, n, c.loop-k-test.false))) in
    record { texts = e2 ∙ e1; says = (collected_cut q l vs (omega (arith, o1.small, t.kept.long)) all, all) }
