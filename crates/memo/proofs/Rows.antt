-- What a caller hands to `append` for a list of questions is that list (gots_are), and the words of entries are within what room is
-- promised by (signs_enough).
use Rattle.std.proofs.Common.{◌≡◌, ℕ, suc, ◌+◌, ◌*◌, ◌≤◌, List, [], ◌∷◌, ◌++◌, length, drop, refl, ap, ◌∙◌, arith, length-append}
use Rattle.std.proofs.lemmas.List.{take_at, drop_at}
use Rattle.engine.specs.Engine.{Got, Entry, answers}
use Rattle.memo.specs.Record.{gots_of, row_long, gots_long, entries_long}
use Rattle.engine.specs.Says.{row, signs_gots, signs_entries}
use Rattle.memo.specs.Rows.{keys}

-- dropping one word more than an answer's length, from its length word on
past : (a rest : List ℕ) → drop (1 + length a) (length a ∷ (a ++ rest)) ≡ rest
past a rest = let z : 1 + length a ≡ suc (length a) = omega arith in ap (λ n. drop n (length a ∷ (a ++ rest))) z ∙ drop_at a rest (length a) refl

pub gots_are : (gs : List Got) → gots_of (length gs) (keys gs) (row (answers gs)) ≡ gs
gots_are [] = refl
gots_are (g ∷ gs) =
    let t = take_at g.ans (row (answers gs)) (length g.ans) refl in
    let p = past g.ans (row (answers gs)) in
    (λ i. record { key = g.key; ans = t i } ∷ gots_of (length gs) (keys gs) (p i)) ∙ ap (λ q. g ∷ q) (gots_are gs)

pub keys_long : (gs : List Got) → length (keys gs) ≡ 3 * length gs
keys_long [] = refl
keys_long (g ∷ gs) = let r = keys_long gs in omega arith

pub row_whole : (gs : List Got) → row_long (length gs) (row (answers gs)) ≡ length (row (answers gs))
row_whole [] = refl
row_whole (g ∷ gs) =
    let p = ap (row_long (length gs)) (past g.ans (row (answers gs))) in
    let r = row_whole gs in
    let l = length-append g.ans (row (answers gs)) in
    omega arith

gots_signs : (gs : List Got) → gots_long gs ≤ signs_gots gs
gots_signs [] = omega arith
gots_signs (g ∷ gs) = let r = gots_signs gs in omega arith

-- a repacked memo takes no more words than the contract counts
pub signs_enough : (es : List Entry) → entries_long es ≤ signs_entries es
signs_enough [] = omega arith
signs_enough (e ∷ es) = let r = signs_enough es in let g = gots_signs e.gots in omega arith
