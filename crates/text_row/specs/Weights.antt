-- How many words texts want: by their weight, and by the longest of them.
use Rattle.std.specs.Prelude.{◌≡◌, ℕ, ◌+◌, ◌*◌, ◌≤◌, max, [], ◌∷◌, length}
use Rattle.std.specs.List.{between}
use Rattle.semantics.specs.Names.{File, Texts}
use Rattle.semantics.specs.Answers.{weigh_texts}
use Rattle.text_row.specs.Files.{placed}

abbrev pub largest : Texts → ℕ
largest [] = 0
largest (x ∷ xs) = max (length x.text) (largest xs)

abbrev pub room : Texts → ℕ
room p = 65536 + 24 * weigh_texts p + 256 * largest p

-- the weight and the longest of some of the texts
pub record WeighSays (p : Texts) (a b total longest : ℕ) : Type 0 where
  pub total_is : total ≡ weigh_texts (between a b p)
  pub largest_is : longest ≡ largest (between a b p)
  pub light : total ≤ weigh_texts p
  pub short : longest ≤ weigh_texts p

-- the room of texts with a file of such lengths in the k-th place
abbrev pub RoomSays : Texts → ℕ → ℕ → ℕ → ℕ → Type 0
RoomSays p k name size r = (y : File) → length y.name ≡ name → length y.text ≡ size → r ≡ room (placed k y p)
