-- The pieces of a line stand in it one behind the other.
use Rattle.std.proofs.Common.{◌≡◌, ℕ, suc, ◌+◌, ◌-◌, ◌<◌, ◌≤◌, Bool, true, false, eqb, List, [], ◌∷◌, ◌++◌, length, get_or, drop, sym, refl, ap, ◌∙◌, subst, arith, length-drop, eqb-true}
use Rattle.std.proofs.lemmas.List.{drop_more}
use Rattle.base.specs.Base.{Word}
use Rattle.lexer.specs.Tokens.{Mode, gap, in_word, equals, note, letter, blank, toks}
use Rattle.lexer.specs.Theorems.{Rising, PiecesRise}
use Rattle.lexer.proofs.Steps.{by, after, word_goes, word_ends, equals_ends, equals_twice}
use Rattle.lexer.proofs.Places.{part, part_more, one_long}

-- what is being read at a place: it begins at or behind an earlier one, and is the bytes from there on
abbrev Ready : List ℕ → ℕ → Mode → ℕ → Type 0
Ready line lo gap at = lo ≤ at
Ready line lo (in_word w f) at = (lo ≤ f) × (f < at) × (w ≡ part line f at)
Ready line lo (equals f) at = (lo ≤ f) × (f < at) × (61 ∷ [] ≡ part line f at)
Ready line lo note at = Unit

-- one byte on, with what holds of the bytes behind it
module _ (line : List ℕ) (at c : ℕ) (cs : List ℕ) (inside : at < length line) (is : get_or line at 0 ≡ c) (on : (lo : ℕ) (m : Mode) → Ready line lo m (at + 1) → Rising line lo (toks m (at + 1) cs)) where
  single : c ∷ [] ≡ part line at (at + 1)
  single = ap (λ x. x ∷ []) (sym is) ∙ one_long line at inside

  more : (w : Word) (f : ℕ) → f < at → w ≡ part line f at → w ++ (c ∷ []) ≡ part line f (at + 1)
  more w f l e = ap (λ v. v ++ (c ∷ [])) e ∙ ap (λ x. part line f at ++ (x ∷ [])) (sym is) ∙ part_more line f at (omega arith) inside

  by_tests : (lo : ℕ) (b n l e : Bool) → lo ≤ at → (e ≡ true → c ≡ 61) → Rising line lo (after (by [] at c b n l e) at cs)
  by_tests lo true n l e h q = on lo gap (omega arith)
  by_tests lo false true l e h q = on lo note tt
  by_tests lo false false true e h q = on lo (in_word (c ∷ []) at) (h, omega arith, single)
  by_tests lo false false false true h q = on lo (equals at) (h, omega arith, ap (λ x. x ∷ []) (sym (q refl)) ∙ single)
  by_tests lo false false false false h q = (
    record { behind = h; some_bytes = omega arith; within = omega arith; bytes = single },
    on (at + 1) gap (omega arith),
  )

  from_gap : (lo : ℕ) → lo ≤ at → Rising line lo (toks gap at (c ∷ cs))
  from_gap lo h = by_tests lo (blank c) (eqb c 35) (letter c) (eqb c 61) h (eqb-true c 61)

  from_word : (lo : ℕ) (w : Word) (f : ℕ) (b : Bool) → letter c ≡ b → lo ≤ f → f < at → w ≡ part line f at → Rising line lo (toks (in_word w f) at (c ∷ cs))
  from_word lo w f true p h l e =
      subst (λ ts. Rising line lo ts) (sym (word_goes w f at c cs p)) (on lo (in_word (w ++ (c ∷ [])) f) (h, omega arith, more w f l e))
  from_word lo w f false p h l e =
      subst (λ ts. Rising line lo ts) (sym (word_ends w f at c cs p)) (record { behind = h; some_bytes = l; within = omega arith; bytes = e }, from_gap at (omega arith))

  from_equals : (lo f : ℕ) (b : Bool) → eqb c 61 ≡ b → lo ≤ f → f < at → 61 ∷ [] ≡ part line f at → Rising line lo (toks (equals f) at (c ∷ cs))
  from_equals lo f true p h l e =
      subst (λ ts. Rising line lo ts) (sym (equals_twice f at c cs p)) (
        record { behind = h; some_bytes = omega arith; within = omega arith; bytes = ap (λ x. 61 ∷ x ∷ []) (sym (eqb-true c 61 p)) ∙ more (61 ∷ []) f l e },
        on (at + 1) gap (omega arith),
      )
  from_equals lo f false p h l e =
      subst (λ ts. Rising line lo ts) (sym (equals_ends f at c cs p)) (record { behind = h; some_bytes = l; within = omega arith; bytes = e }, from_gap at (omega arith))

  from_any : (lo : ℕ) (m : Mode) → Ready line lo m at → Rising line lo (toks m at (c ∷ cs))
  from_any lo gap r = from_gap lo r
  from_any lo (in_word w f) r = from_word lo w f (letter c) refl r.0 r.1 r.2
  from_any lo (equals f) r = from_equals lo f (eqb c 61) refl r.0 r.1 r.2
  from_any lo note r = on lo note tt

inside_of : (line : List ℕ) (at c : ℕ) (cs : List ℕ) → drop at line ≡ c ∷ cs → at < length line
inside_of line at c cs e = let l : length line - at ≡ suc (length cs) = sym (length-drop at line) ∙ ap length e in omega arith

rises : (cs : List ℕ) (line : List ℕ) (at lo : ℕ) (m : Mode) → drop at line ≡ cs → at ≤ length line → Ready line lo m at → Rising line lo (toks m at cs)
rises [] line at lo gap e h r = tt
rises [] line at lo (in_word w f) e h r = (record { behind = r.0; some_bytes = r.1; within = h; bytes = r.2 }, tt)
rises [] line at lo (equals f) e h r = (record { behind = r.0; some_bytes = r.1; within = h; bytes = r.2 }, tt)
rises [] line at lo note e h r = tt
rises (c ∷ cs) line at lo m e h r =
    let inside = inside_of line at c cs e in
    let d = drop_more line at 0 inside in
    let is : get_or line at 0 ≡ c = cc in
    let rest : drop (at + 1) line ≡ cs = cc in
    from_any line at c cs inside is (λ lo2 m2 r2. rises cs line (at + 1) lo2 m2 rest (omega arith) r2) lo m r

pub pieces_rise : PiecesRise
pieces_rise line = rises line line 0 0 gap refl (omega arith) (omega arith)
