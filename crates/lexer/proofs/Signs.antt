-- What a piece is, by its first byte.
use Rattle.std.proofs.Common.{◌≡◌, ℕ, ◌<◌, ◌≤◌, Bool, true, false, ◌&&◌, ◌||◌, eqb, leb, List, [], ◌∷◌, length, get_or, sym, refl, ap, ◌∙◌, arith, ne_eqb}
use Rattle.std.proofs.lemmas.Bool.Decides.{nat_tests}
use Rattle.std.proofs.lemmas.Bool.{both_ways}
use Rattle.base.specs.Base.{pick, Word, same}
use Rattle.lexer.specs.Tokens.{letter}
use Rattle.lexer.specs.Words.{t_is}
use Rattle.lexer.specs.Kinds.{token_of}
use Rattle.lexer.specs.Parts.{keyword, sign, digit, small}
use Rattle.lexer.specs.declared.token.Operator.TheVariants.{Plus, Minus, Times, Equal, Less}
use Rattle.lexer.specs.declared.token.Token.{Token}
use Rattle.lexer.specs.declared.token.Token.TheVariants.{Open, Close, Comma, Gets, Dot, Sign, Other}

and_no : (b : Bool) → (b && false) ≡ false
and_no true = refl
and_no false = refl

and_yes : (b : Bool) → (b && true) ≡ b
and_yes true = refl
and_yes false = refl

-- a byte that is no letter is none of the letters
not_letter : (c k : ℕ) → letter c ≡ false → letter k ≡ true → eqb c k ≡ false
not_letter c k n y = ne_eqb c k (λ e. both_ways (letter k) (ap letter (sym e) ∙ n) y)

last_or : (a b c d : Bool) → (a || (b || (c || d))) ≡ false → d ≡ false
last_or false false false d e = e
last_or true b c d e = absurd (both_ways true e refl)
last_or false true c d e = absurd (both_ways true e refl)
last_or false false true d e = absurd (both_ways true e refl)

not_digit : (c : ℕ) → letter c ≡ false → digit c ≡ false
not_digit c e = last_or (leb 97 c && leb c 122) (leb 65 c && leb c 90) (eqb c 95) (leb 48 c && leb c 57) e

-- the tests that are left for a word that begins with no letter
abbrev signs : Bool → Bool → Bool → Bool → Bool → Bool → Bool → Bool → Bool → Bool → Token
signs a b c d e f g h i j =
    pick a Open (pick b Close (pick c Comma (pick d Gets (pick e Dot
    (pick f (Sign Equal) (pick g (Sign Less) (pick h (Sign Plus) (pick i (Sign Minus) (pick j (Sign Times)
    Other)))))))))

begins : (c : ℕ) (cs : List ℕ) → letter c ≡ false → token_of (c ∷ cs) ≡ signs (eqb c 40 && same cs []) (eqb c 41 && same cs []) (eqb c 44 && same cs []) (eqb c 61 && same cs []) (eqb c 46 && same cs []) (eqb c 61 && same cs (61 ∷ [])) (eqb c 60 && same cs []) (eqb c 43 && same cs []) (eqb c 45 && same cs []) (eqb c 42 && same cs [])
begins c cs n =
    let a = not_letter c 97 n refl in
    let b = not_letter c 98 n refl in
    let d = not_letter c 100 n refl in
    let e = not_letter c 101 n refl in
    let i = not_letter c 105 n refl in
    let k = not_letter c 107 n refl in
    let l = not_letter c 108 n refl in
    let m = not_letter c 110 n refl in
    let o = not_letter c 111 n refl in
    let r = not_letter c 114 n refl in
    let t = not_letter c 116 n refl in
    let u = not_letter c 117 n refl in
    let z = not_digit c n in
    simp n (simp (a, b, d, e, i, k, l, m, o, r, t, u, z))

alone : (a b c d e f g h i : Bool) → signs (a && true) (b && true) (c && true) (d && true) (e && true) (d && false) (f && true) (g && true) (h && true) (i && true) ≡ pick a Open (pick b Close (pick c Comma (pick d Gets (pick e Dot (pick f (Sign Less) (pick g (Sign Plus) (pick h (Sign Minus) (pick i (Sign Times) Other))))))))
alone true b c d e f g h i = refl
alone false true c d e f g h i = refl
alone false false true d e f g h i = refl
alone false false false true e f g h i = refl
alone false false false false true f g h i = refl
alone false false false false false true g h i = refl
alone false false false false false false true h i = refl
alone false false false false false false false true i = refl
alone false false false false false false false false true = refl
alone false false false false false false false false false = refl

longer : (a b c d e f g h i s : Bool) → signs (a && false) (b && false) (c && false) (d && false) (e && false) s (f && false) (g && false) (h && false) (i && false) ≡ pick s (Sign Equal) Other
longer a b c d e f g h i s = simp and_no (ends s)
  where
    ends : (s : Bool) → pick s (Sign Equal) Other ≡ pick s (Sign Equal) Other
    ends s = refl

-- a byte that is no letter, by itself
pub one_sign : (w : Word) → length w ≡ 1 → letter (get_or w 0 0) ≡ false → token_of w ≡ sign (get_or w 0 0)
one_sign [] l n = absurd (omega (arith, l))
one_sign (c ∷ []) l n = begins c [] n ∙ alone (eqb c 40) (eqb c 41) (eqb c 44) (eqb c 61) (eqb c 46) (eqb c 60) (eqb c 43) (eqb c 45) (eqb c 42)
one_sign (c ∷ d ∷ cs) l n = absurd (omega (arith, l))

-- more of them
pub more_signs : (w : Word) → 1 < length w → letter (get_or w 0 0) ≡ false → token_of w ≡ pick (same w t_is) (Sign Equal) Other
more_signs [] l n = absurd (omega (arith, l))
more_signs (c ∷ []) l n = absurd (omega (arith, l))
more_signs (c ∷ d ∷ cs) l n = begins c (d ∷ cs) n ∙ longer (eqb c 40) (eqb c 41) (eqb c 44) (eqb c 61) (eqb c 46) (eqb c 60) (eqb c 43) (eqb c 45) (eqb c 42) (same (c ∷ d ∷ cs) t_is)

at_least : (c : ℕ) → small c ≡ true → 97 ≤ c
at_least c s = grind (arith, nat_tests)

letter_too : (c : ℕ) → small c ≡ true → letter c ≡ true
letter_too c s = ap (λ (b : Bool). b || ((leb 65 c && leb c 90) || (eqb c 95 || (leb 48 c && leb c 57)))) s

below : (c k : ℕ) → 97 ≤ c → k < 97 → eqb c k ≡ false
below c k h l = ne_eqb c k (λ e. omega arith)

no_digit : (c : ℕ) → 97 ≤ c → digit c ≡ false
no_digit c h = grind (arith, nat_tests)

small_first : (c : ℕ) (cs : List ℕ) → small c ≡ true → token_of (c ∷ cs) ≡ keyword (c ∷ cs)
small_first c cs s =
    let h = at_least c s in
    let a = below c 40 h (omega arith) in
    let b = below c 41 h (omega arith) in
    let d = below c 44 h (omega arith) in
    let e = below c 61 h (omega arith) in
    let f = below c 46 h (omega arith) in
    let g = below c 60 h (omega arith) in
    let i = below c 43 h (omega arith) in
    let j = below c 45 h (omega arith) in
    let k = below c 42 h (omega arith) in
    let z = no_digit c h in
    let l = letter_too c s in
    simp l (simp (a, b, d, e, f, g, i, j, k, z))

-- a word that begins with a small letter
pub small_word : (w : Word) → 0 < length w → small (get_or w 0 0) ≡ true → token_of w ≡ keyword w
small_word [] l s = absurd (omega (arith, l))
small_word (c ∷ cs) l s = small_first c cs s
