-- A text written out from the numbers of its lines.
use Rattle.std.specs.Prelude.{◌≡◌, ℕ, ◌+◌, ◌<◌, ◌≤◌, List, ◌++◌, map, length, take, Ok, Err, Result}
use Rattle.interner.specs.Lines.{joined}
use Rattle.interner.specs.Index.{bytes}
use Rattle.interner.specs.declared.refused.NoRoom.{NoRoom}

-- words behind the first k of a row; or they don't fit in it
abbrev pub ExtendSays : List ℕ → ℕ → List ℕ → List ℕ → Result ℕ NoRoom → Type 0
ExtendSays o k xs o' (Ok n) = (n ≤ length o') × (take n o' ≡ take k o ++ xs)
ExtendSays o k xs o' (Err e) = length o < k + length xs

-- the text that numbers of lines stand for
abbrev pub text_of : ℕ → List ℕ → List ℕ → List ℕ
text_of nb m ns = joined (map (bytes nb m) ns)

-- a text at the front of a row; or it doesn't fit in it
abbrev pub WriteSays : List ℕ → List ℕ → Result ℕ NoRoom → Type 0
WriteSays text o' (Ok n) = (n ≤ length o') × (take n o' ≡ text)
WriteSays text o' (Err e) = length o' < length text
