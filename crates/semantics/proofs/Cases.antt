-- Worked texts, answered by the definitions.
use mathlib.Core.Path.{◌≡◌, refl}
use mathlib.Core.List.{List, [], ◌∷◌}
use mathlib.Core.Option.{some}
use Prim.Native.Nat.{ℕ}
use lib.Chars.{codes}
use Rattle.base.specs.Base.{Word}
use Rattle.semantics.specs.Names.{Texts}
use Rattle.semantics.specs.Answers.{faults}

-- a file alone
abbrev x : Word
x = codes "x"

abbrev alone : List ℕ → Texts
alone t = record { name = x; text = t } ∷ []

-- something is missing behind the last piece: fault 1 where that ends
small_1 : faults (alone (codes "def f() num = 1 +")) x ≡ some (17 ∷ 17 ∷ 1 ∷ [])
small_1 = refl

-- a constant twice: 4 at the second
small_2 : faults (alone (codes "kind k = A, A")) x ≡ some (12 ∷ 13 ∷ 4 ∷ [])
small_2 = refl

-- an argument too many: 6 at the name called
small_3 : faults (alone (codes "def f() num = f(1)")) x ≡ some (14 ∷ 15 ∷ 6 ∷ [])
small_3 = refl

-- a file that uses itself: 9
small_4 : faults (alone (codes "use x")) x ≡ some (4 ∷ 5 ∷ 9 ∷ [])
small_4 = refl
