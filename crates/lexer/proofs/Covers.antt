-- In how many pieces each byte of a line lies.
use Rattle.std.proofs.Common.{◌≡◌, ℕ, zero, suc, ◌+◌, ◌<◌, ◌≤◌, Bool, true, false, ◌||◌, eqb, List, [], ◌∷◌, ◌++◌, length, get_or, take, sym, refl, ap, ◌∙◌, add-one, arith, eq-eqb, ne_eqb}
use Rattle.std.proofs.lemmas.Bool.{both_ways}
use Rattle.std.proofs.lemmas.Bool.Decides.{nat_tests}
use Rattle.base.specs.Base.{pick, Word, any_of}
use Rattle.lexer.specs.Tokens.{Mode, gap, in_word, equals, note, letter, blank, toks}
use Rattle.lexer.specs.Theorems.{between, pieces_at, BytesCovered}
use Rattle.lexer.proofs.Steps.{by, after, word_goes, word_ends, equals_ends, equals_twice}

-- 1 at a place, and else 0
abbrev here : ℕ → ℕ → ℕ
here at i = pick (eqb i at) 1 0

between_more : (from at i : ℕ) → from ≤ at → between from (at + 1) i ≡ between from at i + here at i
between_more from at i h = grind (arith, nat_tests)

between_one : (at i : ℕ) → between at (at + 1) i ≡ here at i
between_one at i = grind (arith, nat_tests)

blank_no_note : (c : ℕ) → blank c ≡ true → eqb c 35 ≡ false
blank_no_note c e = grind (arith, nat_tests)

letter_no_blank : (c : ℕ) → letter c ≡ true → blank c ≡ false
letter_no_blank c e = grind (arith, nat_tests)

letter_no_note : (c : ℕ) → letter c ≡ true → eqb c 35 ≡ false
letter_no_note c e = grind (arith, nat_tests)

equal_no_blank : (c : ℕ) → eqb c 61 ≡ true → blank c ≡ false
equal_no_blank c e = grind (arith, nat_tests)

equal_no_note : (c : ℕ) → eqb c 61 ≡ true → eqb c 35 ≡ false
equal_no_note c e = grind (arith, nat_tests)

-- in how many pieces a byte should lie, of the bytes from a place on
abbrev cover : ℕ → List ℕ → ℕ → ℕ
cover at [] i = 0
cover at (c ∷ cs) i = pick (blank c || eqb c 35) 0 (here at i) + pick (eqb c 35) 0 (cover (at + 1) cs i)

-- the same by what is being read at the place
abbrev want : Mode → ℕ → List ℕ → ℕ → ℕ
want gap at cs i = cover at cs i
want (in_word w f) at cs i = between f at i + cover at cs i
want (equals f) at cs i = between f at i + cover at cs i
want note at cs i = 0

abbrev Began : Mode → ℕ → Type 0
Began gap at = Unit
Began (in_word w f) at = f ≤ at
Began (equals f) at = f ≤ at
Began note at = Unit

module _ (i at c : ℕ) (cs : List ℕ) (on : (m : Mode) → Began m (at + 1) → pieces_at i (toks m (at + 1) cs) ≡ want m (at + 1) cs i) where
  by_tests : (b n l e : Bool) → (b ≡ true → n ≡ false) → pieces_at i (after (by [] at c b n l e) at cs) ≡ pick (b || n) 0 (here at i) + pick n 0 (cover (at + 1) cs i)
  by_tests true true l e q = absurd (both_ways true (q refl) refl)
  by_tests true false l e q = omega (arith, on gap tt)
  by_tests false true l e q = on note tt
  by_tests false false true e q = on (in_word (c ∷ []) at) (omega arith) ∙ ap (λ n. n + cover (at + 1) cs i) (between_one at i)
  by_tests false false false true q = on (equals at) (omega arith) ∙ ap (λ n. n + cover (at + 1) cs i) (between_one at i)
  by_tests false false false false q = ap (λ n. between at (at + 1) i + n) (on gap tt) ∙ ap (λ n. n + cover (at + 1) cs i) (between_one at i)

  from_gap : pieces_at i (toks gap at (c ∷ cs)) ≡ cover at (c ∷ cs) i
  from_gap = by_tests (blank c) (eqb c 35) (letter c) (eqb c 61) (blank_no_note c)

  -- a byte that is neither blank nor begins a note
  plain : blank c ≡ false → eqb c 35 ≡ false → cover at (c ∷ cs) i ≡ here at i + cover (at + 1) cs i
  plain b n = ap (λ (x : Bool). pick (x || eqb c 35) 0 (here at i) + pick (eqb c 35) 0 (cover (at + 1) cs i)) b ∙ ap (λ (x : Bool). pick x 0 (here at i) + pick x 0 (cover (at + 1) cs i)) n

  goes_on : (f : ℕ) → f ≤ at → blank c ≡ false → eqb c 35 ≡ false → between f (at + 1) i + cover (at + 1) cs i ≡ between f at i + cover at (c ∷ cs) i
  goes_on f h b n =
      let p = plain b n in
      let q = between_more f at i h in
      join (between f (at + 1) i) (between f at i) (here at i) (cover (at + 1) cs i) (cover at (c ∷ cs) i) q p
    where
      join : (x y z v u : ℕ) → x ≡ y + z → u ≡ z + v → x + v ≡ y + u
      join x y z v u p q = omega arith

  from_word : (w : Word) (f : ℕ) (b : Bool) → letter c ≡ b → f ≤ at → pieces_at i (toks (in_word w f) at (c ∷ cs)) ≡ between f at i + cover at (c ∷ cs) i
  from_word w f true p h =
      ap (pieces_at i) (word_goes w f at c cs p) ∙ on (in_word (w ++ (c ∷ [])) f) (omega arith) ∙ goes_on f h (letter_no_blank c p) (letter_no_note c p)
  from_word w f false p h = ap (pieces_at i) (word_ends w f at c cs p) ∙ ap (λ n. between f at i + n) from_gap

  from_equals : (f : ℕ) (b : Bool) → eqb c 61 ≡ b → f ≤ at → pieces_at i (toks (equals f) at (c ∷ cs)) ≡ between f at i + cover at (c ∷ cs) i
  from_equals f true p h =
      ap (pieces_at i) (equals_twice f at c cs p) ∙ ap (λ n. between f (at + 1) i + n) (on gap tt) ∙ goes_on f h (equal_no_blank c p) (equal_no_note c p)
  from_equals f false p h = ap (pieces_at i) (equals_ends f at c cs p) ∙ ap (λ n. between f at i + n) from_gap

  from_any : (m : Mode) → Began m at → pieces_at i (toks m at (c ∷ cs)) ≡ want m at (c ∷ cs) i
  from_any gap r = from_gap
  from_any (in_word w f) r = from_word w f (letter c) refl r
  from_any (equals f) r = from_equals f (eqb c 61) refl r
  from_any note r = on note tt

counts : (cs : List ℕ) (i at : ℕ) (m : Mode) → Began m at → pieces_at i (toks m at cs) ≡ want m at cs i
counts [] i at gap r = refl
counts [] i at (in_word w f) r = refl
counts [] i at (equals f) r = refl
counts [] i at note r = refl
counts (c ∷ cs) i at m r = from_any i at c cs (λ m2 r2. counts cs i (at + 1) m2 r2) m r

-- a byte before the place is none of those from it on
nothing : (b : Bool) → pick {A = ℕ} b 0 0 ≡ 0
nothing true = refl
nothing false = refl

not_yet : (cs : List ℕ) (at i : ℕ) → i < at → cover at cs i ≡ 0
not_yet [] at i h = refl
not_yet (c ∷ cs) at i h =
    let no_place : here at i ≡ 0 = ap (λ (b : Bool). pick b 1 0) (ne_eqb i at (λ e. omega arith)) in
    let p : pick (blank c || eqb c 35) 0 (here at i) ≡ 0 = ap (λ n. pick (blank c || eqb c 35) 0 n) no_place ∙ nothing (blank c || eqb c 35) in
    let q : pick (eqb c 35) 0 (cover (at + 1) cs i) ≡ 0 = ap (λ n. pick (eqb c 35) 0 n) (not_yet cs (at + 1) i (omega arith)) ∙ nothing (eqb c 35) in
    ap (λ n. n + pick (eqb c 35) 0 (cover (at + 1) cs i)) p ∙ ap (λ n. 0 + n) q

abbrev noted : ℕ → List ℕ → Bool
noted j cs = any_of (λ c. eqb c 35) (take (suc j) cs)

first_byte : (b n : Bool) (h x : ℕ) → h ≡ 1 → x ≡ 0 → pick (b || n) 0 h + pick n 0 x ≡ pick (b || (n || false)) 0 1
first_byte true true h x p q = refl
first_byte true false h x p q = omega (arith, q)
first_byte false true h x p q = refl
first_byte false false h x p q = omega (arith, p, q)

later_byte : (b n d m : Bool) (h x : ℕ) → h ≡ 0 → x ≡ pick (d || m) 0 1 → pick (b || n) 0 h + pick n 0 x ≡ pick (d || (n || m)) 0 1
later_byte true true true m h x p q = refl
later_byte true true false m h x p q = refl
later_byte true false d m h x p q = omega (arith, q)
later_byte false true true m h x p q = refl
later_byte false true false m h x p q = refl
later_byte false false d m h x p q = omega (arith, p, q)

covered : (cs : List ℕ) (at i j : ℕ) → i ≡ at + j → j < length cs → cover at cs i ≡ pick (blank (get_or cs j 0) || noted j cs) 0 1
covered [] at i j e h = absurd (omega (arith, h))
covered (c ∷ cs) at i zero e h =
    let p : here at i ≡ 1 = ap (λ (b : Bool). pick b 1 0) (eq-eqb i at (omega arith)) in
    first_byte (blank c) (eqb c 35) (here at i) (cover (at + 1) cs i) p (not_yet cs (at + 1) i (omega arith))
covered (c ∷ cs) at i (suc j) e h =
    let p : here at i ≡ 0 = ap (λ (b : Bool). pick b 1 0) (ne_eqb i at (λ d. omega arith)) in
    later_byte (blank c) (eqb c 35) (blank (get_or cs j 0)) (noted j cs) (here at i) (cover (at + 1) cs i) p (covered cs (at + 1) i j (omega arith) (omega arith))

pub bytes_covered : BytesCovered
bytes_covered line i h =
    counts line i 0 gap tt ∙ covered line 0 i i (omega arith) h ∙ ap (λ n. pick (blank (get_or line i 0) || any_of (λ c. eqb c 35) (take n line)) 0 1) (sym (add-one i))
