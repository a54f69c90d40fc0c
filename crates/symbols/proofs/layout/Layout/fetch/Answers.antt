-- A line copied to the slot.
use Rattle.std.proofs.Common.{◌≡◌, ◌+◌, ◌-◌, ◌≤◌, length, drop, Some, sym, ap, ◌∙◌, subst, arith}
use Rattle.std.proofs.lemmas.List.{length-drop, length-take}
use Rattle.source.specs.Source.{Stands, LineSays}
use Rattle.symbols.specs.Rows.{texts_in}
use Rattle.symbols.proofs.Slots.{inner, fetched, part_long}
use Rattle.symbols.proofs.layout.Layout.fetch.Goals as goal

pub returns-clause-line : goal.returns-clause-line
returns-clause-line g c =
    let ws = c.args.words.now in
    let o = c.requires.order in
    let t = c.args.self.texts in
    let k = c.args.self.index - t in
    let m = texts_in c.args.self ws in
    let f = c.in_ok-e.e.from in
    let n = c.in_ok-e.e.len in
    let h = subst (λ m. LineSays (g.S.Source.holds c.args.source.now m) c.args.file c.args.i m (Some c.in_ok-e.e)) c.texts_of.ensures c.in_ok-e.ensures in
    let long = part_long m f n h.4.0 in
    let size : length m ≤ k = omega (arith, length-take k (drop t ws)) in
    let all1 : length m ≤ length ws - t = omega (arith, length-take k (drop t ws), length-drop t ws) in
    let whole : t + f + n - (t + f) ≡ n = omega arith in
    let back : f ≡ t + f - t = omega arith in
    let x = fetched ws c.copy_within.new.self (t + f) n (t + f + n - (t + f)) t whole c.copy_within.ensures.after (omega (arith, h.4.0, all1, o.row, o.table, o.slot)) c.if-e-self.false in (
      h.0,
      h.1,
      record { file = h.2; line = h.3 },
      record {
        begins = omega arith;
        in_texts = subst (λ a. Stands m (record { from = a; len = n }) h.1.bytes) back h.4;
        long = sym long ∙ ap length h.4.1;
        goes_in = c.if-e-self.false;
        in_slot = x.is ∙ sym (inner ws t k f n (omega (arith, h.4.0, size))) ∙ h.4.1;
      },
    )
