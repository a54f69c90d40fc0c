-- Fields and parameters written one behind the other.
use Rattle.std.proofs.Common.{◌≡◌, ℕ, zero, suc, ◌+◌, ◌*◌, ◌<◌, ◌≤◌, List, [], ◌∷◌, ◌++◌, length, get_or, take, drop, Some, sym, refl, ap, ◌∙◌, subst, arith}
use Rattle.std.proofs.lemmas.Option.{slice_get_within}
use Rattle.std.specs.List.{slice_get}
use Rattle.std.proofs.lemmas.List.{length-take, length-take-le, length-drop, get_or-take, get_or-drop, take_all}
use Rattle.grammar.specs.Grammar.{Field}
use Rattle.grammar.specs.Code.{slots_onto}
use Rattle.parser.specs.Rows.{ops, op_of, op_is}
use Rattle.parser.specs.declared.code.Op.{Op}
use Rattle.syntax.proofs.Views.{ops_nth}
use Rattle.declarations.proofs.Found.{slots_is, slots_at, ops_length}
use Rattle.symbols.specs.Table.{word}
use Rattle.collector.specs.Rows.{Wrote, Held}
use Rattle.collector.specs.Entries.{slot_words}
use Rattle.collector.specs.Says.{FieldWords}
use Rattle.collector.proofs.Heads.{slots_long}
use Rattle.collector.proofs.Writes.{held_none, held_join, held_wrote}

pub take_nth : {A : Type 0} (xs : List A) (i : ℕ) (x : A) → slice_get xs i ≡ Some x → take (i + 1) xs ≡ take i xs ++ (x ∷ [])
take_nth [] i x e = let z : ◌≡◌ {A = ℕ} 0 1 = cc in absurd (omega arith)
take_nth (y ∷ ys) zero x e = let s : y ≡ x = cc in ap (λ v. v ∷ []) s
take_nth (y ∷ ys) (suc i) x e =
    let n : suc i + 1 ≡ suc (i + 1) = omega arith in
    ap (λ k. take k (y ∷ ys)) n ∙ ap (λ l. y ∷ l) (take_nth ys i x e)

slots_cat : (fs gs : List Field) → slot_words (fs ++ gs) ≡ slot_words fs ++ slot_words gs
slots_cat [] gs = refl
slots_cat (f ∷ fs) gs = ap (λ ws. f.name.from ∷ f.name.to ∷ f.ty.from ∷ f.ty.to ∷ ws) (slots_cat fs gs)

pub slot_words_long : (fs : List Field) → length (slot_words fs) ≡ 4 * length fs
slot_words_long [] = refl
slot_words_long (f ∷ fs) = omega (arith, slot_words_long fs)

-- the i-th operation, in a row of which words before it were written
module _ (line ws vs : List ℕ) (a from n i : ℕ) (w : Wrote a (a + 4 * i) ws vs) (h : a + 4 * n ≤ from) (r : from + 5 * n ≤ length ws) (l : i < n) where
  code : List ℕ
  code = take (5 * n) (drop from ws)

  at_code : (k : ℕ) → k < 5 → word vs (from + 5 * i + k) ≡ get_or (take (5 * n) (drop from ws)) (5 * i + k) 0
  at_code k q =
      let e : from + 5 * i + k ≡ from + (5 * i + k) = omega arith in
      w.behind (from + 5 * i + k) (omega arith) ∙ ap (word ws) e ∙ sym (get_or-drop from ws (5 * i + k) 0) ∙ sym (get_or-take (5 * n) (drop from ws) (5 * i + k) 0 (omega arith))

  at_code0 : word vs (from + 5 * i) ≡ get_or (take (5 * n) (drop from ws)) (5 * i) 0
  at_code0 = w.behind (from + 5 * i) (omega arith) ∙ sym (get_or-drop from ws (5 * i) 0) ∙ sym (get_or-take (5 * n) (drop from ws) (5 * i) 0 (omega arith))

  pub op_nth : (op : Op) → op_is line op ≡ op_of line (word vs (from + 5 * i)) (word vs (from + 5 * i + 1)) (word vs (from + 5 * i + 2)) (word vs (from + 5 * i + 3)) (word vs (from + 5 * i + 4)) → slice_get (ops line (take (5 * n) (drop from ws))) i ≡ Some (op_is line op)
  op_nth op e =
      let g : 5 * i + 5 ≤ length (take (5 * n) (drop from ws)) = omega (arith, length-take (5 * n) (drop from ws), length-drop from ws) in
      let x0 = at_code0 in
      let x1 = at_code 1 (omega arith) in
      let x2 = at_code 2 (omega arith) in
      let x3 = at_code 3 (omega arith) in
      let x4 = at_code 4 (omega arith) in
      ops_nth line (take (5 * n) (drop from ws)) i g ∙ ap Some (sym (e ∙ cc (x0, x1, x2, x3, x4)))

pub fields_none : (ws : List ℕ) (a : ℕ) (fs : List Field) → a ≤ length ws → Held ws a (slot_words (take 0 fs))
fields_none ws a fs h = held_none ws a h

-- one field more
pub fields_more : (line ws vs us : List ℕ) (a from n i : ℕ) (fs : List Field) (op : Op) (row : List ℕ) → Wrote a (a + 4 * i) ws vs → a + 4 * n ≤ from → from + 5 * n ≤ length ws → i < n → op_is line op ≡ op_of line (word vs (from + 5 * i)) (word vs (from + 5 * i + 1)) (word vs (from + 5 * i + 2)) (word vs (from + 5 * i + 3)) (word vs (from + 5 * i + 4)) → FieldWords op row → Wrote (a + 4 * i) (a + 4 * i + length row) vs us → Held us (a + 4 * i) row → ops line (take (5 * n) (drop from ws)) ≡ slots_onto fs [] → Held vs a (slot_words (take i fs)) → Held us a (slot_words (take (i + 1) fs))
fields_more line ws vs us a from n i fs op row w h r l e s wr hr p hv =
    let o = ap (λ os. slice_get os i) (sym p) ∙ op_nth line ws vs a from n i w h r l op e in
    let f = slots_is fs i (op_is line op) o in
    let at = slots_at fs i f.0 (o ∙ ap Some f.1) in
    let words = s line f.0 f.1 in
    let many : length (take i fs) ≡ i = length-take-le i fs (omega (arith, slice_get_within fs i f.0 at)) in
    let long : length (slot_words (take i fs)) ≡ 4 * i = slot_words_long (take i fs) ∙ ap (λ k. 4 * k) many in
    let is : slot_words (take (i + 1) fs) ≡ slot_words (take i fs) ++ row = ap slot_words (take_nth fs i f.0 at) ∙ slots_cat (take i fs) (f.0 ∷ []) ∙ ap (λ ys. slot_words (take i fs) ++ ys) (sym words) in
    subst (Held us a) (sym is) (held_join us a (a + 4 * i) (slot_words (take i fs)) row (omega arith) (held_wrote vs us a (a + 4 * i) (a + 4 * i + length row) (slot_words (take i fs)) (omega arith) wr hv) hr)

pub fields_all : (line ws vs : List ℕ) (a from n i : ℕ) (fs : List Field) → from + 5 * n ≤ length ws → n ≤ i → ops line (take (5 * n) (drop from ws)) ≡ slots_onto fs [] → Held vs a (slot_words (take i fs)) → Held vs a (slot_words fs)
fields_all line ws vs a from n i fs r l p h =
    let g : length (slots_onto fs []) ≡ n = ap length (sym p) ∙ ops_length line (take (5 * n) (drop from ws)) ∙ omega (arith, length-take (5 * n) (drop from ws), length-drop from ws) in
    subst (λ gs. Held vs a (slot_words gs)) (take_all i fs (omega (arith, slots_long fs))) h
