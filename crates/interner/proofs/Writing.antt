-- A text written out line by line (Writing), and how long it is at least (whole_long).
use Rattle.std.proofs.Common.{◌≡◌, ℕ, zero, suc, ◌+◌, ◌<◌, ◌≤◌, List, [], ◌∷◌, ◌++◌, map, length, get_or, take, ap, sym, ◌∙◌, append_assoc, append-nil, arith, length-append}
use borrow.Rule.Slice.PartMut.{put_mid, post_of}
use Rattle.std.proofs.lemmas.List.{take_more, map_push, length-take-le}
use Rattle.interner.specs.Lines.{tails}
use Rattle.interner.specs.Index.{bytes}
use Rattle.interner.specs.Written.{text_of}
use Rattle.interner.proofs.Joined.{tails_append}

-- one line more behind those that stand there
tails_more : (nb : ℕ) (m ns : List ℕ) (i : ℕ) → i < length ns → tails (map (bytes nb m) (take (i + 1) ns)) ≡ tails (map (bytes nb m) (take i ns)) ++ (10 ∷ bytes nb m (get_or ns i 0))
tails_more nb m ns i h = ap (λ z. tails (map (bytes nb m) z)) (take_more ns i 0 h) ∙ ap tails (map_push (bytes nb m) (take i ns) (get_or ns i 0)) ∙ tails_append (map (bytes nb m) (take i ns)) (bytes nb m (get_or ns i 0) ∷ []) ∙ ap (λ z. tails (map (bytes nb m) (take i ns)) ++ (10 ∷ z)) (append-nil (bytes nb m (get_or ns i 0)))

-- the first k words of o are the text of the first line and i others
pub record Writing (nb : ℕ) (m : List ℕ) (first : ℕ) (ns o : List ℕ) (k i : ℕ) : Type 0 where
  pub in_out : k ≤ length o
  pub so_far : take k o ≡ bytes nb m first ++ tails (map (bytes nb m) (take i ns))

pub write_more : (nb : ℕ) (m : List ℕ) (first : ℕ) (ns o o₁ o₂ line : List ℕ) (k i a b : ℕ) → i < length ns → line ≡ bytes nb m (get_or ns i 0) → Writing nb m first ns o k i → take a o₁ ≡ take k o ++ (10 ∷ []) → (b ≤ length o₂) × (take b o₂ ≡ take a o₁ ++ line) → Writing nb m first ns o₂ b (i + 1)
write_more nb m first ns o o₁ o₂ line k i a b h l w e f = record { in_out = f.0; so_far = f.1 ∙ ap (λ z. z ++ line) (e ∙ ap (λ z. z ++ (10 ∷ [])) w.so_far) ∙ ap (λ z. ((bytes nb m first ++ tails (map (bytes nb m) (take i ns))) ++ (10 ∷ [])) ++ z) l ∙ append_assoc (bytes nb m first ++ tails (map (bytes nb m) (take i ns))) (10 ∷ []) (bytes nb m (get_or ns i 0)) ∙ append_assoc (bytes nb m first) (tails (map (bytes nb m) (take i ns))) (10 ∷ bytes nb m (get_or ns i 0)) ∙ ap (λ z. bytes nb m first ++ z) (sym (tails_more nb m ns i h)) }

tails_part : (nb : ℕ) (m ns : List ℕ) (i : ℕ) → length (tails (map (bytes nb m) (take i ns))) ≤ length (tails (map (bytes nb m) ns))
tails_part nb m ns zero = omega arith
tails_part nb m [] (suc i) = omega arith
tails_part nb m (n ∷ ns) (suc i) = let h = tails_part nb m ns i in let e = length-append (bytes nb m n) (tails (map (bytes nb m) (take i ns))) in let d = length-append (bytes nb m n) (tails (map (bytes nb m) ns)) in omega arith

-- the whole text is at least as long as what stands there with one line more
pub whole_long : (nb : ℕ) (m : List ℕ) (first : ℕ) (ns all o : List ℕ) (k i : ℕ) → all ≡ first ∷ ns → i < length ns → Writing nb m first ns o k i → k + 1 + length (bytes nb m (get_or ns i 0)) ≤ length (text_of nb m all)
whole_long nb m first ns all o k i e h w =
    let t = ap length w.so_far in
    let l = length-take-le k o w.in_out in
    let a = length-append (bytes nb m first) (tails (map (bytes nb m) (take i ns))) in
    let p = ap length (tails_more nb m ns i h) in
    let b = length-append (tails (map (bytes nb m) (take i ns))) (10 ∷ bytes nb m (get_or ns i 0)) in
    let q = tails_part nb m ns (i + 1) in
    let c = length-append (bytes nb m first) (tails (map (bytes nb m) ns)) in
    let f = ap (λ z. length (text_of nb m z)) e in
    omega arith

pub first_long : (nb : ℕ) (m : List ℕ) (first : ℕ) (ns all : List ℕ) → all ≡ first ∷ ns → length (bytes nb m first) ≤ length (text_of nb m all)
first_long nb m first ns all e = let c = length-append (bytes nb m first) (tails (map (bytes nb m) ns)) in let f = ap (λ z. length (text_of nb m z)) e in omega arith

-- words put behind the first k are in the row
pub put_long : (k j n : ℕ) (o ys : List ℕ) → k ≤ length o → length ys ≡ n → k + n ≤ length (put_mid k j o ys)
put_long k j n o ys h e = omega (arith, length-append (take k o) (ys ++ post_of k j o), length-append ys (post_of k j o), length-take-le k o h)

-- where words were put behind the first k
pub longer : (o o' : List ℕ) (k n : ℕ) (xs : List ℕ) → n ≤ length o' → k ≤ length o → take n o' ≡ take k o ++ xs → n ≡ k + length xs
longer o o' k n xs h l e = omega (arith, ap length e, length-take-le n o' h, length-append (take k o) xs, length-take-le k o l)
