-- What one byte does to the pieces that are left.
use Rattle.std.proofs.Common.{◌≡◌, ℕ, ◌+◌, Bool, true, false, eqb, List, [], ◌∷◌, ◌++◌, refl, ap, ◌∙◌}
use Rattle.base.specs.Base.{pick, Word}
use Rattle.lexer.specs.Tokens.{Tok, tok, gap, in_word, equals, note, letter, blank, Turn, turn, fresh, toks}

pub skip_blank : (at c : ℕ) (cs : List ℕ) → blank c ≡ true → toks gap at (c ∷ cs) ≡ toks gap (at + 1) cs
skip_blank at c cs e = simp e

-- a byte by its four tests, so that a proof goes by cases
abbrev pub by : List Tok → ℕ → ℕ → Bool → Bool → Bool → Bool → Turn
by o at c b n l e = pick b (turn o gap) (pick n (turn o note) (pick l (turn o (in_word (c ∷ []) at)) (pick e (turn o (equals at)) (turn (o ++ (tok (c ∷ []) at (at + 1) ∷ [])) gap))))

abbrev pub after : Turn → ℕ → List ℕ → List Tok
after t at cs = t.out ++ toks t.mode (at + 1) cs

first_by : (t : Tok) (at c : ℕ) (cs : List ℕ) (b n l e : Bool) → after (by (t ∷ []) at c b n l e) at cs ≡ t ∷ after (by [] at c b n l e) at cs
first_by t at c cs true n l e = refl
first_by t at c cs false true l e = refl
first_by t at c cs false false true e = refl
first_by t at c cs false false false true = refl
first_by t at c cs false false false false = refl

-- what was being read is a piece by itself, and the rest goes on as from a gap
pub first_out : (t : Tok) (at c : ℕ) (cs : List ℕ) → after (fresh (t ∷ []) at c) at cs ≡ t ∷ toks gap at (c ∷ cs)
first_out t at c cs = first_by t at c cs (blank c) (eqb c 35) (letter c) (eqb c 61)

pub word_ends : (w : Word) (f at c : ℕ) (cs : List ℕ) → letter c ≡ false → toks (in_word w f) at (c ∷ cs) ≡ tok w f at ∷ toks gap at (c ∷ cs)
word_ends w f at c cs e =
    ap (λ b. after (pick b (turn [] (in_word (w ++ (c ∷ [])) f)) (fresh (tok w f at ∷ []) at c)) at cs) e ∙ first_out (tok w f at) at c cs

pub word_goes : (w : Word) (f at c : ℕ) (cs : List ℕ) → letter c ≡ true → toks (in_word w f) at (c ∷ cs) ≡ toks (in_word (w ++ (c ∷ [])) f) (at + 1) cs
word_goes w f at c cs e = simp e

pub word_begins : (at c : ℕ) (cs : List ℕ) → blank c ≡ false → eqb c 35 ≡ false → letter c ≡ true → toks gap at (c ∷ cs) ≡ toks (in_word (c ∷ []) at) (at + 1) cs
word_begins at c cs b n l = simp (b, n, l)

pub note_begins : (at c : ℕ) (cs : List ℕ) → blank c ≡ false → eqb c 35 ≡ true → toks gap at (c ∷ cs) ≡ []
note_begins at c cs b n = simp (b, n) (notes cs at)
  where
    notes : (cs : List ℕ) (at : ℕ) → toks note (at + 1) cs ≡ []
    notes [] at = refl
    notes (c ∷ cs) at = notes cs (at + 1)

pub equals_ends : (f at c : ℕ) (cs : List ℕ) → eqb c 61 ≡ false → toks (equals f) at (c ∷ cs) ≡ tok (61 ∷ []) f at ∷ toks gap at (c ∷ cs)
equals_ends f at c cs e =
    ap (λ b. after (pick b (turn (tok (61 ∷ 61 ∷ []) f (at + 1) ∷ []) gap) (fresh (tok (61 ∷ []) f at ∷ []) at c)) at cs) e ∙ first_out (tok (61 ∷ []) f at) at c cs

pub equals_twice : (f at c : ℕ) (cs : List ℕ) → eqb c 61 ≡ true → toks (equals f) at (c ∷ cs) ≡ tok (61 ∷ 61 ∷ []) f (at + 1) ∷ toks gap (at + 1) cs
equals_twice f at c cs e = simp e

pub equals_begins : (at c : ℕ) (cs : List ℕ) → blank c ≡ false → eqb c 35 ≡ false → letter c ≡ false → eqb c 61 ≡ true → toks gap at (c ∷ cs) ≡ toks (equals at) (at + 1) cs
equals_begins at c cs b n l e = simp (b, n, l, e)

pub other_alone : (at c : ℕ) (cs : List ℕ) → blank c ≡ false → eqb c 35 ≡ false → letter c ≡ false → eqb c 61 ≡ false → toks gap at (c ∷ cs) ≡ tok (c ∷ []) at (at + 1) ∷ toks gap (at + 1) cs
other_alone at c cs b n l e = simp (b, n, l, e)
