-- One declaration.
use Rattle.std.proofs.Common.{◌≡◌, ◌+◌, ◌*◌, ◌<◌, length, take, drop, sym, refl, ap, ◌∙◌, arith}
use Rattle.std.proofs.lemmas.Option.{slice_get_within}
use Rattle.parser.specs.Rows.{ops}
use Rattle.syntax.specs.Line.{item_in}
use Rattle.collector.specs.Says.{line_of}
use Rattle.collector.proofs.Writes.{wrote_none, wrote_on, part_same}
use Rattle.collector.proofs.Heads.{begun, item_begun, begun_same, item_many}
use Rattle.collector.proofs.Codes.{fields_fit, fields_code}
use Rattle.collector.proofs.Entered.{one_entered}
use Rattle.collector.proofs.entry.Declaring.put_entry.Goals as goal
use Rattle.collector.proofs.entry.Declaring.put_entry.Goals.{then-room-lt-HEAD-via-then-room-lt-HEAD, then-room-lt-HEAD-via-else-room-lt-HEAD+then-room-h}

pub returns-in_default : goal.returns-in_default
returns-in_default c =
    let it = item_in (line_of c.args.words.now c.args.self.line) in
    (record { onward = omega arith; within = c.requires.place.1; wrote = wrote_none c.args.at c.args.words.now }, λ x e. absurd (omega (arith, slice_get_within _ c.args.i x e, item_many c.args.self.origin.start 0 it, c.in_default.ensures)), λ m x p e. absurd (omega (arith, slice_get_within _ c.args.i x e, item_many c.args.self.origin.start 0 it, c.in_default.ensures)))

pub returns-then-room-lt-HEAD : goal.returns-then-room-lt-HEAD
returns-then-room-lt-HEAD c =
    let it = item_in (line_of c.args.words.now c.args.self.line) in
    let h = c.in-Some.ensures in
    let x = h.0 in
    let n : length x.fields ≡ c.in-Some.h.slots = h.2.slots_are in
    let short : c.args.self.l.work < c.args.at + (9 + 4 * length x.fields) =
    elim c.then-room-lt-HEAD.branch [ then-room-lt-HEAD-via-then-room-lt-HEAD w ↦ omega (arith, w.if-room-lt-HEAD.true) | then-room-lt-HEAD-via-else-room-lt-HEAD+then-room-h w ↦ omega (arith, w.if-room-lt-HEAD.false, w.if-room-h.true) ] in
    (refl, (begun c.args.self.origin.start x, item_begun c.args.self.origin.start it c.args.i x h.1, short))

pub put_fields-requires : goal.put_fields-requires
put_fields-requires c =
    let h = c.in-Some.ensures in
    let x = h.0 in
    let n : length x.fields ≡ c.in-Some.h.slots = h.2.slots_are in
    let f = fields_fit c.args.self.l c.args.words.now c.args.self.line c.requires.loads c.args.i x h.1 in
    let k = c.put.ensures.wrote.long in
    let r = c.requires.loads.code_in in
    (omega (arith, c.if-room-h.false, c.if-room-lt-HEAD.false), omega (arith, f, n, k, r))

pub returns : goal.returns
returns c =
    let l = c.args.self.l in
    let ws = c.args.words.now in
    let vs = c.put.new.words in
    let us = c.put_fields.new.words in
    let a = c.args.at in
    let s = c.in-Some.h.slots in
    let line = line_of ws c.args.self.line in
    let h = c.in-Some.ensures in
    let x = h.0 in
    let n : length x.fields ≡ s = h.2.slots_are in
    let w = c.put.ensures.wrote in
    let code : ops line (take (5 * s) (drop (l.work + 5) vs)) ≡ ops line (take (5 * length x.fields) (drop (l.work + 5) ws)) =
    ap (ops line) (part_same ws vs (l.work + 5) (5 * s) w.long (λ i y z. w.behind i (omega (arith, c.if-room-lt-HEAD.false))) ∙ ap (λ k. take (5 * k) (drop (l.work + 5) ws)) (sym n)) in
    let fl = c.put_fields.ensures.held line x.fields (code ∙ fields_code l ws c.args.self.line c.requires.loads c.args.i x h.1) in (
      record {
        onward = omega arith;
        within = omega (arith, c.if-room-h.false, c.if-room-lt-HEAD.false);
        wrote = wrote_on a (a + 9) (a + 9) (a + 9 + 4 * s) ws vs us (omega arith) (omega arith) w c.put_fields.ensures.wrote;
      },
      λ y e. omega (arith, n, ap (λ z. length z.fields) (begun_same c.args.self.origin.start (item_in line) c.args.i x y h.1 e)),
      λ m y p e. one_entered l m line vs us c.args.self.line c.args.self.origin.file c.args.self.origin.start a c.args.i c.in-Some.h c.from.result x y c.from.ensures p h.1 h.2 e c.put_fields.ensures.wrote c.put.ensures.held fl,
    )
