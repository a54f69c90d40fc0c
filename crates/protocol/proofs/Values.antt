-- Digits read one after the other have the value that the definition gives, or are refused as it refuses.
use Rattle.std.proofs.Common.{◌≡◌, ℕ, ◌+◌, ◌-◌, ◌*◌, ◌<◌, ◌≤◌, Bool, true, false, ◌&&◌, ltb, List, [], ◌∷◌, length, get_or, drop, Some, None, Option as Perhaps, sym, refl, ap, ◌∙◌, arith, ltb-false, ltb-true, le-ltb, lt-ltb}
use Rattle.base.specs.Base.{pick}
use Rattle.std.proofs.lemmas.List.{at_drop_all, at_drop_more}
use Rattle.protocol.specs.Numbers.{is_digit, all_digits, value_on, limit, one_more, digits_value}

-- digits one after the other, behind a value so far
abbrev pub read_on : ℕ → List ℕ → Perhaps ℕ
read_on n [] = Some n
read_on n (c ∷ cs) = pick (is_digit c && ltb (n * 10 + (c - 48)) limit) (read_on (n * 10 + (c - 48)) cs) None

abbrev declared : ℕ → List ℕ → Perhaps ℕ
declared n cs = pick (all_digits cs && ltb (value_on n cs) limit) (Some (value_on n cs)) None

value_ge : (n : ℕ) (cs : List ℕ) → n ≤ value_on n cs
value_ge n [] = omega arith
value_ge n (c ∷ cs) = let h = value_ge (n * 10 + (c - 48)) cs in omega arith

and_false : (t : Bool) → t && false ≡ false
and_false true = refl
and_false false = refl

too_large : (m : ℕ) (cs : List ℕ) → ltb m limit ≡ false → ltb (value_on m cs) limit ≡ false
too_large m cs e = let k = value_ge m cs in let l = ltb-false m limit e in le-ltb (value_on m cs) limit (omega arith)

pub read_value : (n : ℕ) (cs : List ℕ) → n < limit → read_on n cs ≡ declared n cs
read_value n [] h = sym (ap (λ t. pick t (Some n) None) (lt-ltb n limit h))
read_value n (c ∷ cs) h = go (is_digit c) (ltb m limit) refl (read_value m cs)
  where
    m : ℕ
    m = n * 10 + (c - 48)

    go : (d b : Bool) → ltb m limit ≡ b → (m < limit → read_on m cs ≡ declared m cs) → pick (d && b) (read_on m cs) None ≡ pick ((d && all_digits cs) && ltb (value_on m cs) limit) (Some (value_on m cs)) None
    go false b e k = refl
    go true true e k = k (ltb-true m limit e)
    go true false e k = sym (ap (λ t. pick (all_digits cs && t) (Some (value_on m cs)) None) (too_large m cs e) ∙ ap (λ t. pick t (Some (value_on m cs)) None) (and_false (all_digits cs)))

-- one digit is read
taken : (t : Bool) (m w : ℕ) (cs : List ℕ) → Some w ≡ pick t (Some m) None → pick t (read_on m cs) None ≡ read_on w cs
taken true m w cs e = let k : m ≡ w = cc in ap (λ z. read_on z cs) k
taken false m w cs e = let z : ◌≡◌ {A = ℕ} 0 1 = cc in absurd (omega arith)

refused : (t : Bool) (m : ℕ) (cs : List ℕ) → None ≡ pick t (Some m) None → pick t (read_on m cs) None ≡ None
refused true m cs e = let z : ◌≡◌ {A = ℕ} 0 1 = cc in absurd (omega arith)
refused false m cs e = refl

at_digit : (bs : List ℕ) (i v : ℕ) → i < length bs → read_on v (drop i bs) ≡ read_on v (get_or bs i 0 ∷ drop (i + 1) bs)
at_digit bs i v h = at_drop_more (read_on v) bs i 0 h

pub step : (bs : List ℕ) (i v w : ℕ) → i < length bs → read_on v (drop i bs) ≡ read_on 0 bs → Some w ≡ one_more v (get_or bs i 0) → read_on w (drop (i + 1) bs) ≡ read_on 0 bs
step bs i v w h p e = sym (taken (is_digit (get_or bs i 0) && ltb (v * 10 + (get_or bs i 0 - 48)) limit) (v * 10 + (get_or bs i 0 - 48)) w (drop (i + 1) bs) e) ∙ sym (at_digit bs i v h) ∙ p

pub stop : (bs : List ℕ) (i v : ℕ) → i < length bs → read_on v (drop i bs) ≡ read_on 0 bs → None ≡ one_more v (get_or bs i 0) → None ≡ digits_value bs
stop bs i v h p e = sym (refused (is_digit (get_or bs i 0) && ltb (v * 10 + (get_or bs i 0 - 48)) limit) (v * 10 + (get_or bs i 0 - 48)) (drop (i + 1) bs) e) ∙ sym (at_digit bs i v h) ∙ p ∙ read_value 0 bs (omega arith)

pub whole : (bs : List ℕ) (i v : ℕ) → length bs ≤ i → read_on v (drop i bs) ≡ read_on 0 bs → Some v ≡ digits_value bs
whole bs i v h p = sym (at_drop_all (read_on v) bs i h) ∙ p ∙ read_value 0 bs (omega arith)
