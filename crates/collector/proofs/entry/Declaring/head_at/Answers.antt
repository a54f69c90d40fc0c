-- The i-th of what the line declares.
use Rattle.std.proofs.Common.{◌≡◌, ℕ, ◌<◌, ◌≤◌, List, length, take, Some, None, sym, ap, ◌∙◌, subst, arith, rules}
use Rattle.std.specs.List.{slice_get}
use Rattle.std.proofs.lemmas.List.{length-take}
use Rattle.semantics.specs.Names.{decls_item}
use Rattle.declarations.proofs.Found.{ops_length}
use Rattle.declarations.proofs.Inline.{type_in}
use Rattle.syntax.specs.Line.{item_in}
use Rattle.syntax.specs.View.{piece_of}
use Rattle.collector.specs.Says.{plain, line_of, HeadSays}
use Rattle.collector.proofs.Heads.{plain_decls, plain_type, typed, each_nth, slots_long, lies, decl_in, name_lies}
use Rattle.collector.proofs.entry.Declaring.head_at.Goals as goal

pub returns-in_err-d : goal.returns-in_err-d
returns-in_err-d c =
    let line = line_of c.args.words.now c.args.self.line in
    let it = item_in line in
    let back : c.from_residual.result ≡ None = search rules in
    subst (HeadSays line c.args.i) (sym back) (omega (arith, c.in_err-d.ensures line (plain it) c.item-item.ensures, ap length (plain_decls 0 it)))

pub returns-in_err-ty : goal.returns-in_err-ty
returns-in_err-ty c =
    let line = line_of c.args.words.now c.args.self.line in
    let it = item_in line in
    let back : c.from_residual-in_err-ty.result ≡ None = search rules in
    subst (HeadSays line c.args.i) (sym back) (omega (arith, ap length (c.in_err-ty.ensures line (plain it) c.item-item.ensures), ap length (plain_decls 0 it)))

small : (ws : List ℕ) (len a b : ℕ) → len < 4294967296 → a < b → b ≤ length (take len ws) → (a < 4294967296) × (b < 4294967296)
small ws len a b h k n = let t = length-take len ws in (omega arith, omega arith)

pub span-requires : goal.span-requires
span-requires c =
    let ws = c.args.words.now in
    let line = line_of ws c.args.self.line in
    let it = item_in line in
    let a = c.in_ok-d.ensures line (plain it) c.item-item.ensures in
    let x = a.0 in
    let p = name_lies line x (decl_in line 0 c.args.i x (ap (λ ds. slice_get ds c.args.i) (sym (plain_decls 0 it)) ∙ a.1)) in
    let f : x.from ≡ c.in_ok-d.d.name.from = ap (λ d. d.from) a.2.1 in
    let t : x.to ≡ c.in_ok-d.d.name.to = ap (λ d. d.to) a.2.1 in
    let s = small ws c.args.self.line.len x.from x.to (omega (arith, c.requires.short, c.requires.order.slot, c.requires.order.table, c.requires.order.row, c.requires.order.small)) p.some_bytes p.within in
    (omega (arith, f, s.0), omega (arith, t, s.1))

pub span-requires-2 : goal.span-requires-2
span-requires-2 c =
    let ws = c.args.words.now in
    let line = line_of ws c.args.self.line in
    let it = item_in line in
    let t = piece_of c.in_ok-ty.ty in
    let p = lies line t (type_in (record { start = 0; bytes = line }) t (plain_type it t (c.in_ok-ty.ensures line (plain it) c.item-item.ensures))) in
    small ws c.args.self.line.len t.from t.to (omega (arith, c.requires.short, c.requires.order.slot, c.requires.order.table, c.requires.order.row, c.requires.order.small)) p.some_bytes p.within

pub returns : goal.returns
returns c =
    let ws = c.args.words.now in
    let line = line_of ws c.args.self.line in
    let it = item_in line in
    let a = c.in_ok-d.ensures line (plain it) c.item-item.ensures in
    let x = a.0 in
    let e : slice_get (decls_item 0 it) c.args.i ≡ Some x = ap (λ ds. slice_get ds c.args.i) (sym (plain_decls 0 it)) ∙ a.1 in
    let t = piece_of c.in_ok-ty.ty in
    let w = plain_type it t (c.in_ok-ty.ensures line (plain it) c.item-item.ensures) in
    let d = a.2.1 in (
      x,
      e,
      record {
        sort_is = ap (λ d. d.sort) d;
        from_is = ap (λ d. d.from) d ∙ sym c.span.ensures.0;
        to_is = ap (λ d. d.to) d ∙ sym c.span.ensures.1;
        type = t;
        type_among = type_in (record { start = 0; bytes = line }) t w;
        type_from = sym c.span-2.ensures.0;
        type_to = sym c.span-2.ensures.1;
        type_is = each_nth (λ d. d.ty ≡ t.w) (decls_item 0 it) c.args.i x (typed 0 it t w) e;
        slots_are = ap (λ d. length d.fields) d ∙ sym (slots_long a.2.0) ∙ ap length (sym a.2.2) ∙ ops_length line c.in_ok-d.d.fields.code.now ∙ sym c.len.ensures;
      },
    )
