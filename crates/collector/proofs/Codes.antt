-- The fields of what a line declares, in the line's code.
use Rattle.std.proofs.Common.{◌≡◌, ℕ, zero, suc, ◌+◌, ◌-◌, ◌*◌, ◌≤◌, List, [], ◌∷◌, length, take, drop, Some, sym, refl, ap, ◌∙◌, subst, arith}
use Rattle.std.specs.List.{slice_get}
use Rattle.std.proofs.lemmas.List.{length-take, length-drop, drop-drop, drop-take, take-take}
use Rattle.base.specs.Base.{Word}
use Rattle.lexer.specs.Tokens.{Tok}
use Rattle.grammar.specs.Grammar.{Field, Item, nothing, i_use, i_kind, i_rec, i_def, i_bad}
use Rattle.grammar.specs.Code.{Op, onto, item_code, slots_onto, consts_code, o_slot, o_result, o_body}
use Rattle.semantics.specs.Names.{Decl, decl, consts, decls_item}
use Rattle.parser.specs.Rows.{ops}
use Rattle.syntax.specs.Line.{item_in}
use Rattle.syntax.proofs.Views.{ops_take, ops_drop}
use Rattle.declarations.proofs.Found.{ops_length}
use Rattle.symbols.specs.declared.layout.Layout.{Layout}
use Rattle.collector.specs.declared.line.Loaded.{Loaded}
use Rattle.collector.specs.Rows.{Wrote}
use Rattle.collector.specs.Says.{plain, line_of, Loads}
use Rattle.collector.proofs.Writes.{part_same, front_same, order_kept}
use Rattle.collector.proofs.Heads.{plain_decls}

-- the fields of a declaration stand behind the first operation
pub record Behind (os : List Op) (fs : List Field) : Type 0 where
  pub enough : suc (length fs) ≤ length os
  pub are : take (length fs) (drop 1 os) ≡ slots_onto fs []

slots_first : (fs : List Field) (os : List Op) → take (length fs) (slots_onto fs os) ≡ slots_onto fs []
slots_first [] os = refl
slots_first (f ∷ fs) os = ap (λ xs. o_slot f ∷ xs) (slots_first fs os)

slots_fit : (fs : List Field) (os : List Op) → length fs ≤ length (slots_onto fs os)
slots_fit [] os = omega arith
slots_fit (f ∷ fs) os = omega (arith, slots_fit fs os)

const_fields : (s : ℕ) (k : Word) (cs : List Tok) (i : ℕ) (x : Decl) → slice_get (consts s k cs) i ≡ Some x → x.fields ≡ []
const_fields s k [] i x e = let z : ◌≡◌ {A = ℕ} 0 1 = cc in absurd (omega arith)
const_fields s k (c ∷ cs) zero x e = let h : decl s c 1 k [] ≡ x = cc in ap (λ d. d.fields) (sym h)
const_fields s k (c ∷ cs) (suc i) x e = const_fields s k cs i x e

only_fields : (d : Decl) (i : ℕ) (x : Decl) → slice_get (d ∷ []) i ≡ Some x → x.fields ≡ d.fields
only_fields d zero x e = let h : d ≡ x = cc in ap (λ d. d.fields) (sym h)
only_fields d (suc i) x e = let z : ◌≡◌ {A = ℕ} 0 1 = cc in absurd (omega arith)

no_fields : (t : Tok) (cs : List Tok) → Behind (consts_code (t ∷ cs)) []
no_fields t cs = record { enough = omega arith; are = refl }

pub behind : (s : ℕ) (it : Item) (i : ℕ) (x : Decl) → slice_get (decls_item s it) i ≡ Some x → Behind (item_code it) x.fields
behind s nothing i x e = let z : ◌≡◌ {A = ℕ} 0 1 = cc in absurd (omega arith)
behind s (i_use t) i x e = let z : ◌≡◌ {A = ℕ} 0 1 = cc in absurd (omega arith)
behind s (i_kind t cs) zero x e = let h : decl s t 0 t.w [] ≡ x = cc in subst (Behind (consts_code (t ∷ cs))) (ap (λ d. d.fields) h) (no_fields t cs)
behind s (i_kind t cs) (suc i) x e = subst (Behind (consts_code (t ∷ cs))) (sym (const_fields s t.w cs i x e)) (no_fields t cs)
behind s (i_rec t fs) i x e = subst (Behind (item_code (i_rec t fs))) (sym (only_fields (decl s t 2 t.w fs) i x e)) (record { enough = omega (arith, slots_fit fs []); are = slots_first fs [] })
behind s (i_def t ps r b) i x e = subst (Behind (item_code (i_def t ps r b))) (sym (only_fields (decl s t 3 r.w ps) i x e)) (record { enough = omega (arith, slots_fit ps (o_result r ∷ onto b (o_body ∷ []))); are = slots_first ps (o_result r ∷ onto b (o_body ∷ [])) })
behind s (i_bad a b) i x e = let z : ◌≡◌ {A = ℕ} 0 1 = cc in absurd (omega arith)

-- a line's code in words, and in it the fields
module _ (l : Layout) (ws : List ℕ) (r : Loaded) (h : Loads l ws r) where
  line : List ℕ
  line = line_of ws r

  code : List ℕ
  code = take (5 * r.count) (drop l.work ws)

  code_long : length (take (5 * r.count) (drop l.work ws)) ≡ 5 * r.count
  code_long = length-take (5 * r.count) (drop l.work ws) ∙ omega (arith, length-drop l.work ws, h.code_in)

  code_ops : ops (line_of ws r) (take (5 * r.count) (drop l.work ws)) ≡ item_code (plain (item_in (line_of ws r)))
  code_ops = ap (ops (line_of ws r)) (sym (drop-take l.work (5 * r.count) ws)) ∙ h.code_is

  many : length (item_code (plain (item_in (line_of ws r)))) ≡ r.count
  many = ap length (sym code_ops) ∙ ops_length (line_of ws r) (take (5 * r.count) (drop l.work ws)) ∙ omega (arith, code_long)

  pub fields_fit : (i : ℕ) (x : Decl) → slice_get (decls_item 0 (item_in (line_of ws r))) i ≡ Some x → suc (length x.fields) ≤ r.count
  fields_fit i x e =
      let b = behind 0 (plain (item_in (line_of ws r))) i x (ap (λ ds. slice_get ds i) (plain_decls 0 (item_in (line_of ws r))) ∙ e) in
      omega (arith, b.enough, many)

  pub fields_code : (i : ℕ) (x : Decl) → slice_get (decls_item 0 (item_in (line_of ws r))) i ≡ Some x → ops (line_of ws r) (take (5 * length x.fields) (drop (l.work + 5) ws)) ≡ slots_onto x.fields []
  fields_code i x e =
      let it = plain (item_in (line_of ws r)) in
      let b = behind 0 it i x (ap (λ ds. slice_get ds i) (plain_decls 0 (item_in (line_of ws r))) ∙ e) in
      let n = length x.fields in
      let c = r.count in
      let base = l.work in
      let fit = fields_fit i x e in
      let big : 5 * c ≡ 5 + (5 * c - 5) = omega arith in
      let cd = take (5 * c) (drop base ws) in
      let d5 : drop 5 cd ≡ take (5 * c - 5) (drop (base + 5) ws) = ap (λ k. drop 5 (take k (drop base ws))) big ∙ drop-take 5 (5 * c - 5) (drop base ws) ∙ ap (take (5 * c - 5)) (drop-drop 5 base ws) in
      let d5_long : length (drop 5 cd) ≡ 5 * c - 5 = length-drop 5 cd ∙ ap (λ k. k - 5) code_long in
      let here : take (5 * n) (drop 5 cd) ≡ take (5 * n) (drop (base + 5) ws) = ap (take (5 * n)) d5 ∙ take-take (5 * n) (5 * c - 5) (drop (base + 5) ws) (omega arith) in
      ap (ops (line_of ws r)) (sym here) ∙ ops_take (line_of ws r) (drop 5 cd) n (omega arith) ∙ ap (take n) (ops_drop (line_of ws r) cd 1 (omega (arith, code_long)) ∙ ap (drop 1) code_ops) ∙ b.are

-- a line that stands stays when words of the table are written
pub line_kept : (l : Layout) (ws vs : List ℕ) (r : Loaded) (a b : ℕ) → l.texts ≤ a → Wrote a b ws vs → Loads l ws r → line_of vs r ≡ line_of ws r
line_kept l ws vs r a b h w p = front_same ws vs r.len w.long (λ i x. w.before i (omega (arith, p.short)))

pub loads_kept : (l : Layout) (ws vs : List ℕ) (r : Loaded) (a b : ℕ) → l.texts ≤ a → b ≤ l.work → Wrote a b ws vs → Loads l ws r → Loads l vs r
loads_kept l ws vs r a b h k w p =
    let e = line_kept l ws vs r a b h w p in
    let n = 5 * r.count in
    let part : drop l.work (take (l.work + n) vs) ≡ drop l.work (take (l.work + n) ws) = drop-take l.work n vs ∙ part_same ws vs l.work n w.long (λ i x y. w.behind i (omega arith)) ∙ sym (drop-take l.work n ws) in
    record {
      order = order_kept l ws vs w.long p.order;
      short = p.short;
      code_in = omega (arith, w.long, p.code_in);
      code_is = ap (λ x. ops x (drop l.work (take (l.work + n) vs))) e ∙ ap (ops (line_of ws r)) part ∙ p.code_is ∙ ap (λ x. item_code (plain (item_in x))) (sym e);
    }
