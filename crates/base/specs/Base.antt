-- What every other definition uses: choices, options, and words, which are lists of byte values.
use Rattle.std.specs.Prelude.{ℕ, Bool, true, false, ◌&&◌, ◌||◌, List, [], ◌∷◌, ◌==◌}
use Rattle.std.proofs.Math.Option.{Option, some, none}

abbrev pub pick : {A : Type 0} → Bool → A → A → A
pick true a b = a
pick false a b = b

abbrev pub opt : {A C : Type 0} → Option A → C → (A → C) → C
opt none c f = c
opt (some x) c f = f x

abbrev pub on_some : {A C : Type 0} → Option A → (A → Option C) → Option C
on_some none f = none
on_some (some x) f = f x

abbrev pub or_else : {A : Type 0} → Option A → Option A → Option A
or_else none b = b
or_else (some x) b = some x

abbrev pub when1 : {A : Type 0} → Bool → Option A → Option A
when1 true o = o
when1 false o = none

abbrev pub is_some : {A : Type 0} → Option A → Bool
is_some none = false
is_some (some x) = true

abbrev pub any_of : {A : Type 0} → (A → Bool) → List A → Bool
any_of f [] = false
any_of f (x ∷ xs) = f x || any_of f xs

abbrev pub Word : Type 0
Word = List ℕ

abbrev pub same : Word → Word → Bool
same [] [] = true
same [] (y ∷ ys) = false
same (x ∷ xs) [] = false
same (x ∷ xs) (y ∷ ys) = x == y && same xs ys

abbrev pub among : Word → List Word → Bool
among w ws = any_of (same w) ws
