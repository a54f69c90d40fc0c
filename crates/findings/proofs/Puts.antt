-- Numbers put one behind the other.
use Rattle.std.proofs.Common.{◌≡◌, ℕ, zero, suc, ◌+◌, ◌*◌, ◌<◌, ◌≤◌, List, [], ◌∷◌, ◌++◌, length, get_or, take, drop, set, sym, refl, ap, ◌∙◌, subst, arith, take-add}
use Rattle.std.proofs.lemmas.List.{length-set, length-drop, length-take, length-append, length_push, take-set-le, take_more_set, take_more, take_all, drop-set-add, drop-set-lt, drop-drop}
use Rattle.findings.specs.Gathered.{three_at, gathered}
use Rattle.findings.specs.Giving.{Put, Giving}

pub gathered_length : (vs : List ℕ) (q n : ℕ) → length (gathered vs q n) ≡ 3 * n
gathered_length vs q zero = refl
gathered_length vs q (suc n) =
    let a = length-append (gathered vs q n) (three_at vs (q + 4 * n)) in
    let b = gathered_length vs q n in
    omega arith

-- what is behind a place, from a place further on
further : (n m : ℕ) (us vs : List ℕ) → drop n us ≡ drop n vs → drop (n + m) us ≡ drop (n + m) vs
further n m us vs e = sym (drop-drop m n us) ∙ ap (drop m) e ∙ drop-drop m n vs

pub put_none : (k : ℕ) (o : List ℕ) → Put [] k o o
put_none k o = record { long = refl; before = refl; within = refl; behind = refl }

-- one more number
pub put_more : (row1 : List ℕ) (k : ℕ) (o p : List ℕ) (x : ℕ) → Put row1 k o p → k + length row1 < length p → Put (row1 ++ (x ∷ [])) k o (set p (k + length row1) x)
put_more row1 k o p x g h =
    let n = length row1 in
    let u = length_push row1 x in
    let m : n < length (drop k p) = omega (arith, length-drop k p) in
    let w : k + length (row1 ++ (x ∷ [])) ≡ (k + n) + 1 = omega arith in
    record {
      long = length-set p (k + n) x ∙ g.long;
      before = take-set-le k p (k + n) x (omega arith) ∙ g.before;
      within = ap (λ j. take j (drop k (set p (k + n) x))) u ∙ ap (take (n + 1)) (drop-set-add k p n x) ∙ take_more_set (drop k p) n x m ∙ ap (λ r. r ++ (x ∷ [])) g.within;
      behind = drop-set-lt (k + length (row1 ++ (x ∷ []))) p (k + n) x (omega arith) ∙ ap (λ j. drop j p) w ∙ further (k + n) 1 p o g.behind ∙ sym (ap (λ j. drop j o) w);
    }

-- three numbers
pub put_three : (a b x k : ℕ) (o : List ℕ) → k + 3 ≤ length o → Put (a ∷ b ∷ x ∷ []) k o (set (set (set o k a) (k + 1) b) (k + 2) x)
put_three a b x k o h =
    let p0 : Put (a ∷ []) k o (set o k a) = subst (λ j. Put (a ∷ []) k o (set o j a)) (zeros k) (put_more [] k o o a (put_none k o) (omega arith)) in
    let p1 : Put (a ∷ b ∷ []) k o (set (set o k a) (k + 1) b) = put_more (a ∷ []) k o (set o k a) b p0 (omega (arith, length-set o k a)) in
    put_more (a ∷ b ∷ []) k o (set (set o k a) (k + 1) b) x p1 (omega (arith, length-set o k a, length-set (set o k a) (k + 1) b))
  where
    zeros : (k : ℕ) → k + 0 ≡ k
    zeros k = omega arith

-- one more of a row
pub put_next : (ws : List ℕ) (i k : ℕ) (o p : List ℕ) → i < length ws → k + length ws ≤ length p → Put (take i ws) k o p → Put (take (i + 1) ws) k o (set p (k + i) (get_or ws i 0))
put_next ws i k o p l h g =
    let n : length (take i ws) ≡ i = omega (arith, length-take i ws) in
    subst (λ r. Put r k o (set p (k + i) (get_or ws i 0))) (sym (take_more ws i 0 l)) (subst (λ j. Put (take i ws ++ (get_or ws i 0 ∷ [])) k o (set p (k + j) (get_or ws i 0))) n (put_more (take i ws) k o p (get_or ws i 0) g (omega arith)))

pub put_all : (ws : List ℕ) (i k : ℕ) (o p : List ℕ) → length ws ≤ i → Put (take i ws) k o p → Put ws k o p
put_all ws i k o p h g = subst (λ r. Put r k o p) (take_all i ws h) g

-- one more fault
pub gives_more : (vs : List ℕ) (q i : ℕ) (o p r : List ℕ) → Giving vs q i o p → Put (three_at vs (q + 4 * i)) (3 * i) p r → Giving vs q (i + 1) o r
gives_more vs q i o p r g u =
    let n : 3 * (i + 1) ≡ 3 * i + 3 = omega arith in
    let m : i + 1 ≡ suc i = omega arith in
    record {
      long = u.long ∙ g.long;
      front = ap (λ j. take j r) n ∙ take-add (3 * i) 3 r ∙ ap (λ xs. xs ++ take 3 (drop (3 * i) r)) (u.before ∙ g.front) ∙ ap (λ xs. gathered vs q i ++ xs) u.within ∙ sym (ap (gathered vs q) m);
      behind = ap (λ j. drop j r) n ∙ u.behind ∙ further (3 * i) 3 p o g.behind ∙ sym (ap (λ j. drop j o) n);
    }
