-- What is left of a text's lines behind the first of them.
use Rattle.std.proofs.Common.{◌≡◌, ℕ, ◌+◌, ◌-◌, ◌<◌, ◌≤◌, true, false, eqb, List, [], ◌∷◌, ◌++◌, length, take, drop, refl, sym, ap, ◌∙◌, subst, ⊎_elim, arith, length-drop, le-ltb, lt-ltb}
use Rattle.std.proofs.lemmas.Bool.{cases_Bool, cases_lt}
use Rattle.std.proofs.lemmas.List.{at_drop_all, length-take-le}
use Rattle.lexer.specs.Tokens.{Line, cut}
use Rattle.lexer.specs.Lines.{LineEnds, lines_from, lines_behind, line_of}
use Rattle.kaqshune.specs.Lines.{last_row, rows, rows_from}

goes : (s : ℕ) (acc : List ℕ) (c : ℕ) (cs : List ℕ) → eqb c 10 ≡ false → cut s acc (c ∷ cs) ≡ cut s (acc ++ (c ∷ [])) cs
goes s acc c cs e = simp e

stops : (s : ℕ) (acc : List ℕ) (c : ℕ) (cs : List ℕ) → eqb c 10 ≡ true → cut s acc (c ∷ cs) ≡ record { start = s; bytes = acc } ∷ cut (1 + (s + length acc)) [] cs
stops s acc c cs e = simp e

-- what is cut into lines is at least one, so the line before them isn't the last
behind : (l : Line) (s : ℕ) (acc cs : List ℕ) → rows (l ∷ cut s acc cs) ≡ l.bytes ∷ rows (cut s acc cs)
behind l s acc [] = refl
behind l s acc (c ∷ cs) =
    let At : List Line → Type 0 = λ ls. rows (l ∷ ls) ≡ l.bytes ∷ rows ls in
    ⊎_elim
    (λ e. subst At (sym (stops s acc c cs e)) refl)
    (λ e. subst At (sym (goes s acc c cs e)) (behind l s (acc ++ (c ∷ [])) cs))
    (cases_Bool (eqb c 10))

more : (text : List ℕ) (to : ℕ) → to < length text → lines_behind text to ≡ lines_from text (to + 1)
more text to h = let t = lt-ltb to (length text) h in simp t

none_behind : (text : List ℕ) (to : ℕ) → length text ≤ to → lines_behind text to ≡ []
none_behind text to h = let t = le-ltb to (length text) h in simp t

full : (cs : List ℕ) → 0 < length cs → last_row cs ≡ cs ∷ []
full [] h = absurd (omega arith)
full (c ∷ cs) h = refl

none_left : (text : List ℕ) (at : ℕ) → length text ≤ at → rows_from text at ≡ []
none_left text at h = at_drop_all (λ cs. rows (cut at [] cs)) text at h

pub first_row : (text : List ℕ) (at to : ℕ) → LineEnds text at to → at < length text → rows_from text at ≡ take (to - at) (drop at text) ∷ rows_from text (to + 1)
first_row text at to e h =
    let l = line_of text at to in
    let with_l : List Line → List (List ℕ) = λ ls. rows (l ∷ ls) in
    ap rows e.cuts ∙
    ⊎_elim
    (λ (m : to < length text). ap with_l (more text to m) ∙ behind l (to + 1) [] (drop (to + 1) text))
    (λ (m : length text ≤ to).
    let within : to ≤ length text = e.within (omega arith) in
    let long : length l.bytes ≡ to - at = length-take-le (to - at) (drop at text) (simp length-drop (omega arith)) in
    ap with_l (none_behind text to m) ∙ full l.bytes (omega (arith, long)) ∙ ap (λ rs. l.bytes ∷ rs) (sym (none_left text (to + 1) (omega arith))))
    (cases_lt to (length text))

pub fewer : (text : List ℕ) (at to : ℕ) → LineEnds text at to → at < length text → length (rows_from text (to + 1)) < length (rows_from text at)
fewer text at to e h = omega (arith, ap length (first_row text at to e h))
