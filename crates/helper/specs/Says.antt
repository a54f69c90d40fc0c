-- What the six calls of a helper promise.
use Rattle.std.specs.Prelude.{◌≡◌, ℕ, ◌+◌, ◌*◌, ◌<◌, ◌≤◌, max, Bool, ◌⊎◌, List, [], ◌∷◌, length, take, drop}
use Rattle.std.proofs.Math.Option.{Option, some, none}
use Rattle.base.specs.Base.{is_some}
use Rattle.semantics.specs.Names.{File, Texts, find_file}
use Rattle.semantics.specs.Answers.{puts_file, drops_file, edits, weigh_texts}
use Rattle.helper.specs.declared.contract.Changed.{Changed}
use Rattle.helper.specs.declared.contract.Changed.TheVariants.{Made, NoFile, NoPlace, NoRoom}
use Rattle.helper.specs.declared.contract.Answer.{Answer}
use Rattle.helper.specs.declared.contract.Answer.TheVariants.{Words, Missing, OutFull}

-- how long the longest text is
abbrev pub largest : Texts → ℕ
largest [] = 0
largest (x ∷ xs) = max (length x.text) (largest xs)

-- how many words always suffice for texts: there is no room only below that
abbrev pub room : Texts → ℕ
room p = 65536 + (24 * weigh_texts p + 256 * largest p)

-- changes: texts before (p) and after (q), w words lent. A file f is opened with the text x
abbrev pub OpenSays : Texts → ℕ → List ℕ → List ℕ → Texts → Changed → Type 0
OpenSays p w f x q Made = q ≡ puts_file f x p
OpenSays p w f x q NoFile = ⊥
OpenSays p w f x q NoPlace = ⊥
OpenSays p w f x q NoRoom = (q ≡ p) × (w < room (puts_file f x p))

-- the bytes from a to b of a file f are replaced by x
abbrev pub EditSays : Texts → ℕ → List ℕ → ℕ → ℕ → List ℕ → Texts → Changed → Type 0
EditSays p w f a b x q Made = (y : File) × (find_file p f ≡ some y) × (a ≤ b) × (b ≤ length y.text) × (q ≡ puts_file f (edits a b x y.text) p)
EditSays p w f a b x q NoFile = (q ≡ p) × (find_file p f ≡ none)
EditSays p w f a b x q NoPlace = (y : File) × (q ≡ p) × (find_file p f ≡ some y) × ((b < a) ⊎ (length y.text < b))
EditSays p w f a b x q NoRoom = (y : File) × (q ≡ p) × (find_file p f ≡ some y) × (a ≤ b) × (b ≤ length y.text) × (w < room (puts_file f (edits a b x y.text) p))

-- a file f is closed, and r says whether it was open
abbrev pub CloseSays : Texts → List ℕ → Texts → Bool → Type 0
CloseSays p f q r = (r ≡ is_some (find_file p f)) × (q ≡ drops_file f p)

-- questions: the answer's words a stand at the front of what is lent, o before and o' after, and the others stay
abbrev pub Gave : List ℕ → List ℕ → List ℕ → ℕ → Type 0
Gave a o o' n = (n ≡ length a) × (take n o' ≡ a) × (drop n o' ≡ drop n o) × (length o' ≡ length o)

-- the answer r, if there is one, is given; or there is no such file; or too few words are lent, and then they stay as they were
abbrev pub AskSays : Option (List ℕ) → Texts → List ℕ → List ℕ → Texts → Answer → Type 0
AskSays r p o o' q (Words n) = (q ≡ p) × (a : List ℕ) × (r ≡ some a) × Gave a o o' n
AskSays r p o o' q Missing = (q ≡ p) × (o' ≡ o) × (r ≡ none)
AskSays r p o o' q (OutFull n) = (q ≡ p) × (o' ≡ o) × (a : List ℕ) × (r ≡ some a) × (n ≡ length a) × (length o < n)
