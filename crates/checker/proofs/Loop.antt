-- The loop: one operation more, a stop, and the end.
use Rattle.std.proofs.Common.{◌≡◌, ℕ, ◌+◌, ◌*◌, ◌<◌, ◌≤◌, List, ◌∷◌, length, get_or, take, drop, Ok, Err, Result, sym, refl, ap, ◌∙◌, subst, arith}
use Rattle.std.proofs.lemmas.List.{drop_more, drop_all, get_or-take, take-take, length-take-le}
use Rattle.parser.specs.Rows.{ops, ops_of, op_of, op_is}
use Rattle.parser.specs.declared.code.Op.{Op}
use Rattle.semantics.specs.Walk.{tries, start, need, ends, go_on, step}
use Rattle.checker.specs.declared.lookup.Want.{Want}
use Rattle.checker.specs.declared.rows.Bounds.{Bounds}
use Rattle.checker.specs.declared.rows.Place.{Place}
use Rattle.checker.specs.Rows.{Book, means, code_end, query_is}
use Rattle.checker.specs.Turns.{TurnBy, TurnSays}
use Rattle.checker.specs.Whole.{WentOn}

shorter : (n m : ℕ) (vs ws : List ℕ) → n ≤ m → take m vs ≡ take m ws → take n vs ≡ take n ws
shorter n m vs ws l e = sym (take-take n m vs l) ∙ ap (take n) e ∙ take-take n m ws l

five_on : (xs : List ℕ) (i : ℕ) → i + 5 ≤ length xs → drop i xs ≡ get_or xs i 0 ∷ get_or xs (i + 1) 0 ∷ get_or xs (i + 2) 0 ∷ get_or xs (i + 3) 0 ∷ get_or xs (i + 4) 0 ∷ drop (i + 5) xs
five_on xs i h =
    let two : i + 1 + 1 ≡ i + 2 = omega arith in
    let three : i + 2 + 1 ≡ i + 3 = omega arith in
    let four : i + 3 + 1 ≡ i + 4 = omega arith in
    let five : i + 4 + 1 ≡ i + 5 = omega arith in
    let d4 : drop (i + 4) xs ≡ get_or xs (i + 4) 0 ∷ drop (i + 5) xs = drop_more xs (i + 4) 0 (omega arith) ∙ ap (λ n. get_or xs (i + 4) 0 ∷ drop n xs) five in
    let d3 : drop (i + 3) xs ≡ get_or xs (i + 3) 0 ∷ drop (i + 4) xs = drop_more xs (i + 3) 0 (omega arith) ∙ ap (λ n. get_or xs (i + 3) 0 ∷ drop n xs) four in
    let d2 : drop (i + 2) xs ≡ get_or xs (i + 2) 0 ∷ drop (i + 3) xs = drop_more xs (i + 2) 0 (omega arith) ∙ ap (λ n. get_or xs (i + 2) 0 ∷ drop n xs) three in
    let d1 : drop (i + 1) xs ≡ get_or xs (i + 1) 0 ∷ drop (i + 2) xs = drop_more xs (i + 1) 0 (omega arith) ∙ ap (λ n. get_or xs (i + 1) 0 ∷ drop n xs) two in
    drop_more xs i 0 (omega arith) ∙ ap (λ l. get_or xs i 0 ∷ l) (d1 ∙ ap (λ l. get_or xs (i + 1) 0 ∷ l) (d2 ∙ ap (λ l. get_or xs (i + 2) 0 ∷ l) (d3 ∙ ap (λ l. get_or xs (i + 3) 0 ∷ l) d4)))

-- what op_at says of an operation
abbrev pub Reads : List ℕ → ℕ → ℕ → Op → Type 0
Reads vs base i o = (line : List ℕ) → op_is line o ≡ op_of line (get_or vs (base + 5 * i) 0) (get_or vs (base + 5 * i + 1) 0) (get_or vs (base + 5 * i + 2) 0) (get_or vs (base + 5 * i + 3) 0) (get_or vs (base + 5 * i + 4) 0)

-- the operations that are left
left_on : (line ws vs : List ℕ) (base n i : ℕ) (o : Op) → i < n → base + 5 * n ≤ length ws → take (base + 5 * n) vs ≡ take (base + 5 * n) ws → Reads vs base i o → ops line (drop (base + 5 * i) (take (base + 5 * n) ws)) ≡ op_is line o ∷ ops line (drop (base + 5 * (i + 1)) (take (base + 5 * n) ws))
left_on line ws vs base n i o l h e r =
    let T = take (base + 5 * n) ws in
    let j = base + 5 * i in
    let long = length-take-le (base + 5 * n) ws h in
    let next : j + 5 ≡ base + 5 * (i + 1) = omega arith in
    let word : (m : ℕ) → m < base + 5 * n → get_or T m 0 ≡ get_or vs m 0 = λ m x. ap (λ t. get_or t m 0) (sym e) ∙ get_or-take (base + 5 * n) vs m 0 x in
    let p0 = word j (omega arith) in let p1 = word (j + 1) (omega arith) in let p2 = word (j + 2) (omega arith) in let p3 = word (j + 3) (omega arith) in let p4 = word (j + 4) (omega arith) in
    ap (ops line) (five_on T j (omega arith)) ∙ (λ x. op_of line (p0 x) (p1 x) (p2 x) (p3 x) (p4 x) ∷ ops line (drop (next x) T)) ∙ ap (λ f. f ∷ ops line (drop (base + 5 * (i + 1)) T)) (sym (r line))

module _ (g : List ℕ → Book) (b : Bounds) (ws : List ℕ) (lb : b.len ≤ b.base) (room : b.base + 25 * b.count ≤ length ws) where
  turned : (p : Place) (vs us : List ℕ) (o : Op) (r : Result Place Want) → take (code_end b) vs ≡ take (code_end b) ws → TurnSays g b p vs us (λ l. op_is l o) r → TurnBy (g (take b.base ws)) (take b.len ws) b p vs us (op_is (take b.len ws) o) r
  turned p vs us o r e t = subst (λ f. TurnBy (g f) (take b.len ws) b p vs us (op_is (take b.len ws) o) r) (shorter b.base (code_end b) vs ws (omega arith) e) (subst (λ l. TurnBy (g (take b.base vs)) l b p vs us (op_is l o) r) (shorter b.len (code_end b) vs ws (omega arith) e) t)

  pub goes_on : (i : ℕ) (p q : Place) (vs us : List ℕ) (o : Op) → i < b.count → WentOn g b ws i p vs → Reads vs b.base i o → TurnSays g b p vs us (λ l. op_is l o) (Ok q) → WentOn g b ws (i + 1) q us
  goes_on i p q vs us o l v r t =
      let h = turned p vs us o (Ok q) v.kept t in
      let s = h.2 in
      let k = g (take b.base ws) in
      let ln = take b.len ws in
      let rest = ops ln (drop (b.base + 5 * (i + 1)) (take (code_end b) ws)) in
      let σ = means k ln b p vs in
      record {
        kept = s.before ∙ v.kept;
        tried = ap (tries k.knows rest) s.becomes ∙ sym (ap (λ f. go_on f (λ z. tries k.knows rest (step z (op_is ln o) σ))) h.1) ∙ sym (ap (λ os. tries k.knows os σ) (left_on ln ws vs b.base b.count i o l (omega arith) v.kept r)) ∙ v.tried;
        few_frames = omega (arith, s.frame_more, v.few_frames);
        few_names = omega (arith, s.name_more, v.few_names);
        few_said = omega (arith, s.said_more, v.few_said);
      }

  pub stops : (i : ℕ) (p : Place) (vs us : List ℕ) (o : Op) (w : Want) → i < b.count → WentOn g b ws i p vs → Reads vs b.base i o → TurnSays g b p vs us (λ l. op_is l o) (Err w) → tries (g (take b.base ws)).knows (ops_of (take b.len ws) b.base b.count ws) start ≡ need (query_is (g (take b.base ws)) (take b.len ws) w)
  stops i p vs us o w l v r t =
      let h = turned p vs us o (Err w) v.kept t in
      let k = g (take b.base ws) in
      let ln = take b.len ws in
      let rest = ops ln (drop (b.base + 5 * (i + 1)) (take (code_end b) ws)) in
      let σ = means k ln b p vs in
      sym v.tried ∙ ap (λ os. tries k.knows os σ) (left_on ln ws vs b.base b.count i o l (omega arith) v.kept r) ∙ ap (λ f. go_on f (λ z. tries k.knows rest (step z (op_is ln o) σ))) h.0

  pub begins_there : WentOn g b ws 0 (record { height = 0; names = 0; events = 0 }) ws
  begins_there = let e : b.base + 5 * 0 ≡ b.base = omega arith in record { kept = refl; tried = ap (λ n. tries (g (take b.base ws)).knows (ops (take b.len ws) (drop n (take (code_end b) ws))) start) e; few_frames = omega arith; few_names = omega arith; few_said = omega arith }

  pub comes_to : (i : ℕ) (p : Place) (vs : List ℕ) → b.count ≤ i → WentOn g b ws i p vs → tries (g (take b.base ws)).knows (ops_of (take b.len ws) b.base b.count ws) start ≡ ends (means (g (take b.base ws)) (take b.len ws) b p vs)
  comes_to i p vs l v = let long = length-take-le (code_end b) ws (omega arith) in sym v.tried ∙ ap (λ xs. tries (g (take b.base ws)).knows (ops (take b.len ws) xs) (means (g (take b.base ws)) (take b.len ws) b p vs)) (drop_all (b.base + 5 * i) (take (code_end b) ws) (omega arith))
