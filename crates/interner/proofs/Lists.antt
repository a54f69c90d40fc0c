-- A fact of each number of a list, and what steps keep of a row one after the other.
use Rattle.std.proofs.Common.{ℕ, zero, suc, ◌<◌, List, [], ◌∷◌, ◌++◌, length, get_or, take, drop, set, ◌∙◌, arith}
use Rattle.interner.specs.Index.{Grown, Pooled}
use Rattle.interner.specs.Lines.{Every}

pub every_push : (P : ℕ → Type 0) (ns : List ℕ) (n : ℕ) → Every P ns → P n → Every P (ns ++ (n ∷ []))
every_push P [] n e p = (p, tt)
every_push P (x ∷ xs) n (q, e) p = (q, every_push P xs n e p)

pub every_still : (P Q : ℕ → Type 0) (ns : List ℕ) → ((n : ℕ) → P n → Q n) → Every P ns → Every Q ns
every_still P Q [] f e = tt
every_still P Q (x ∷ xs) f (p, e) = (f x p, every_still P Q xs f e)

pub every_set : (P : ℕ → Type 0) (xs : List ℕ) (k p : ℕ) → Every P xs → P p → Every P (set xs k p)
every_set P [] k p e h = tt
every_set P (x ∷ xs) zero p (q, e) h = (h, e)
every_set P (x ∷ xs) (suc k) p (q, e) h = (q, every_set P xs k p e h)

pub every_at : (P : ℕ → Type 0) (xs : List ℕ) (k : ℕ) → k < length xs → Every P xs → P (get_or xs k 0)
every_at P [] k h e = let f : ⊥ = omega arith in elim f [ ]
every_at P (x ∷ xs) zero h (p, e) = p
every_at P (x ∷ xs) (suc k) h (p, e) = every_at P xs k (omega arith) e

pub every_append : (P : ℕ → Type 0) (xs ys : List ℕ) → Every P xs → Every P ys → Every P (xs ++ ys)
every_append P [] ys e f = f
every_append P (x ∷ xs) ys (p, e) f = (p, every_append P xs ys e f)

pub every_take : (P : ℕ → Type 0) (n : ℕ) (xs : List ℕ) → Every P xs → Every P (take n xs)
every_take P zero xs e = tt
every_take P (suc n) [] e = tt
every_take P (suc n) (x ∷ xs) (p, e) = (p, every_take P n xs e)

pub every_drop : (P : ℕ → Type 0) (n : ℕ) (xs : List ℕ) → Every P xs → Every P (drop n xs)
every_drop P zero xs e = e
every_drop P (suc n) [] e = tt
every_drop P (suc n) (x ∷ xs) (p, e) = every_drop P n xs e

pub pooled_on : (nb cap : ℕ) (a b c : List ℕ) → Pooled nb cap a b → Pooled nb cap b c → Pooled nb cap a c
pooled_on nb cap a b c p q = record { longer = omega (arith, p.longer, q.longer); same_words = λ i h k. q.same_words i h (omega (arith, p.longer)) ∙ p.same_words i h k }

pub grown_on : (nb : ℕ) (a b c : List ℕ) → Grown nb a b → Grown nb b c → Grown nb a c
grown_on nb a b c f g k l = let x = f k l in let y = g k x.0 in (y.0, y.1 ∙ x.1)
