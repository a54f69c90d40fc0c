-- Lines of a text, from one on.
use Rattle.std.proofs.Common.{◌≡◌, ℕ, zero, suc, ◌+◌, ◌<◌, Bool, true, false, eqb, List, [], ◌∷◌, ◌++◌, length, drop, Some, refl, ap, ◌∙◌, arith, length-append}
use Rattle.std.specs.List.{slice_get}
use Rattle.base.specs.Base.{pick}
use Rattle.lexer.specs.Tokens.{cut, lines}
use Rattle.answers.specs.Lined.{Follows, spread}

-- a text's lines follow each other from its beginning, and are as long as it is
pub cut_follows : (s : ℕ) (acc t : List ℕ) → Follows s (cut s acc t)
cut_follows s acc [] = (refl, tt)
cut_follows s acc (c ∷ cs) = go (eqb c 10) (cut_follows (1 + (s + length acc)) [] cs) (cut_follows s (acc ++ (c ∷ [])) cs)
  where
    go : (b : Bool) → Follows (1 + (s + length acc)) (cut (1 + (s + length acc)) [] cs) → Follows s (cut s (acc ++ (c ∷ [])) cs) → Follows s (pick b (record { start = s; bytes = acc } ∷ cut (1 + (s + length acc)) [] cs) (cut s (acc ++ (c ∷ [])) cs))
    go true f g = (refl, f)
    go false f g = g

pub cut_spread : (s : ℕ) (acc t : List ℕ) → spread (cut s acc t) ≡ 1 + (length acc + length t)
cut_spread s acc [] = omega arith
cut_spread s acc (c ∷ cs) = go (eqb c 10) (cut_spread (1 + (s + length acc)) [] cs) (cut_spread s (acc ++ (c ∷ [])) cs)
  where
    go : (b : Bool) → spread (cut (1 + (s + length acc)) [] cs) ≡ 1 + (0 + length cs) → spread (cut s (acc ++ (c ∷ [])) cs) ≡ 1 + (length (acc ++ (c ∷ [])) + length cs) → spread (pick b (record { start = s; bytes = acc } ∷ cut (1 + (s + length acc)) [] cs) (cut s (acc ++ (c ∷ [])) cs)) ≡ 1 + (length acc + suc (length cs))
    go true f g = omega arith
    go false f g = omega (arith, length-append acc (c ∷ []))

pub lines_follow : (t : List ℕ) → Follows 0 (lines t)
lines_follow t = cut_follows 0 [] t

pub lines_spread : (t : List ℕ) → spread (lines t) ≡ 1 + length t
lines_spread t = omega (arith, cut_spread 0 [] t)

-- the i-th thing of a list, and those behind it
pub nth_drop : {X : Type 0} (xs : List X) (i : ℕ) (x : X) → slice_get xs i ≡ Some x → drop i xs ≡ x ∷ drop (i + 1) xs
nth_drop [] i x e = let z : ◌≡◌ {A = ℕ} 0 1 = cc in let f : ⊥ = omega arith in elim f [ ]
nth_drop (y ∷ ys) zero x e = ap (λ v. v ∷ ys) (cc)
nth_drop (y ∷ ys) (suc i) x e = nth_drop ys i x e ∙ ap (λ n. x ∷ drop n (y ∷ ys)) k
  where
    k : suc (i + 1) ≡ suc i + 1
    k = omega arith

pub nth_some : {X : Type 0} (xs : List X) (i : ℕ) → i < length xs → (x : X) × (slice_get xs i ≡ Some x)
nth_some [] i h = let f : ⊥ = omega arith in elim f [ ]
nth_some (y ∷ ys) zero h = (y, refl)
nth_some (y ∷ ys) (suc i) h = nth_some ys i (omega arith)
