-- What a reader of texts promises: files and lines by their place in the order, and where their bytes stand.
use Rattle.std.specs.Prelude.{◌≡◌, ℕ, ◌+◌, ◌≤◌, List, length, take, drop, Some, None, Option as Perhaps}
use Rattle.std.proofs.Math.Option.{some, none}
use Rattle.std.specs.List.{slice_get}
use Rattle.base.specs.Base.{Word}
use Rattle.lexer.specs.Tokens.{Line, lines}
use Rattle.semantics.specs.Names.{File, Texts, find_file}
use Rattle.source.specs.declared.Extent.{Extent}

-- these bytes stand there
abbrev pub Stands : List ℕ → Extent → Word → Type 0
Stands m e w = (e.from + e.len ≤ length m) × (take e.len (drop e.from m) ≡ w)

-- the name of the k-th file, or there are no more than k
abbrev pub NameSays : Texts → ℕ → List ℕ → Perhaps Extent → Type 0
NameSays p k m (Some e) = (x : File) × (slice_get p k ≡ Some x) × Stands m e x.name
NameSays p k m None = length p ≤ k

-- how many lines the k-th file has, 0 if there is none
abbrev pub CountSays : Texts → ℕ → ℕ → Type 0
CountSays p k n = ((x : File) → slice_get p k ≡ Some x → n ≡ length (lines x.text)) × (length p ≤ k → n ≡ 0)

-- the i-th line of the k-th file, or there is none
abbrev pub LineSays : Texts → ℕ → ℕ → List ℕ → Perhaps Extent → Type 0
LineSays p k i m (Some e) = (x : File) × (l : Line) × (slice_get p k ≡ Some x) × (slice_get (lines x.text) i ≡ Some l) × Stands m e l.bytes
LineSays p k i m None = (x : File) → slice_get p k ≡ Some x → length (lines x.text) ≤ i

-- the file that a name means is the k-th
abbrev pub First : Texts → Word → ℕ → Type 0
First p w k = (x : File) × (slice_get p k ≡ Some x) × (find_file p w ≡ some x)

abbrev pub FindSays : Texts → Word → Perhaps ℕ → Type 0
FindSays p w (Some k) = First p w k
FindSays p w None = find_file p w ≡ none
