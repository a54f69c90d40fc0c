-- The file that a line uses.
use Rattle.std.proofs.Common.{◌≡◌, ◌-◌, [], ◌∷◌, take, drop, None, sym, ap, ◌∙◌, subst, arith, rules}
use Rattle.std.proofs.lemmas.List.{length-take}
use Rattle.declarations.proofs.Inline.{use_in}
use Rattle.syntax.specs.Line.{item_in}
use Rattle.syntax.specs.View.{piece_of}
use Rattle.collector.specs.Says.{plain, line_of, UseSays}
use Rattle.collector.proofs.Heads.{plain_use, plain_uses, lies}
use Rattle.collector.proofs.Loading.{cut_in}
use Rattle.collector.proofs.line.Loaded.used_at.Goals as goal

pub span-requires : goal.span-requires
span-requires c =
    let ws = c.args.words.now in
    let line = line_of ws c.args.self in
    let it = item_in line in
    let t = piece_of c.in_ok-name.name in
    let p = lies line t (use_in (record { start = 0; bytes = line }) t (plain_use it t (c.in_ok-name.ensures line (plain it) c.item.ensures).0)) in
    let n = length-take c.args.self.len ws in
    let a = p.some_bytes in
    let b = p.within in
    let small = c.requires.order.small in
    (omega (arith, c.requires.short, c.requires.order.slot, c.requires.order.table, c.requires.order.row), omega (arith, c.requires.short, c.requires.order.slot, c.requires.order.table, c.requires.order.row))

pub returns : goal.returns
returns c =
    let ws = c.args.words.now in
    let line = line_of ws c.args.self in
    let len = c.args.self.len in
    let it = item_in line in
    let t = piece_of c.in_ok-name.name in
    let f = c.in_ok-name.ensures line (plain it) c.item.ensures in
    let p = lies line t (use_in (record { start = 0; bytes = line }) t (plain_use it t f.0)) in
    let n = length-take len ws in
    let a = p.some_bytes in
    let b = p.within in
    let sf : c.span.result.from ≡ t.from = c.span.ensures.0 in
    let st : c.span.result.to ≡ t.to = c.span.ensures.1 in
    let w : take (t.to - t.from) (drop t.from ws) ≡ t.w = sym (cut_in ws len t.from (t.to - t.from) (omega arith)) ∙ sym p.bytes in
    (omega arith, omega arith, sym (plain_uses it) ∙ f.1 ∙ ap (λ x. x ∷ []) (sym (ap (λ k. take (c.span.result.to - k) (drop k ws)) sf ∙ ap (λ k. take (k - t.from) (drop t.from ws)) st ∙ w)))

pub returns-in_err-name : goal.returns-in_err-name
returns-in_err-name c =
    let line = line_of c.args.words.now c.args.self in
    let it = item_in line in
    let back : c.from_residual.result ≡ None = search rules in
    subst (UseSays c.args.words.now c.args.self) (sym back) (sym (plain_uses it) ∙ c.in_err-name.ensures line (plain it) c.item.ensures)
