-- What an edit promises: the old text is written out, the new one built beside it, and put in its place. p are the texts before, q after.
use Rattle.std.specs.Prelude.{◌≡◌, ℕ, ◌<◌, ◌≤◌, ◌⊎◌, List, length, take, Ok, Err, Result}
use Rattle.std.proofs.Math.Option.{some, none}
use Rattle.semantics.specs.Names.{File, Texts, find_file}
use Rattle.semantics.specs.Answers.{puts_file, edits}
use Rattle.interner.specs.declared.refused.NoRoom.{NoRoom}
use Rattle.interner.specs.declared.refused.Refused.{Refused}
use Rattle.interner.specs.declared.refused.Refused.TheVariants.{NoFile, NoPlace, NoRoom as NoRoom1}

-- a text at the front of a row, if there was room
abbrev pub FrontSays : List ℕ → List ℕ → Result ℕ NoRoom → Type 0
FrontSays text o' (Ok n) = (n ≤ length o') × (take n o' ≡ text)
FrontSays text o' (Err e) = Unit {0}

-- an edit was made; or the texts are as they were
abbrev pub EditSays : List ℕ → ℕ → ℕ → List ℕ → Texts → Texts → Result (Unit {0}) Refused → Type 0
EditSays f a b x p q (Ok u) = (y : File) × (find_file p f ≡ some y) × (a ≤ b) × (b ≤ length y.text) × (q ≡ puts_file f (edits a b x y.text) p)
EditSays f a b x p q (Err NoFile) = (q ≡ p) × (find_file p f ≡ none)
EditSays f a b x p q (Err NoPlace) = (y : File) × (q ≡ p) × (find_file p f ≡ some y) × ((b < a) ⊎ (length y.text < b))
EditSays f a b x p q (Err NoRoom1) = q ≡ p
