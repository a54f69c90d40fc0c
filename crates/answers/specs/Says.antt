-- What the functions promise.
use Rattle.std.specs.Prelude.{◌≡◌, ℕ, ◌<◌, ◌≤◌, ◌⊎◌, List, length, take, drop, Some, None, Option as Perhaps}
use Rattle.std.specs.List.{slice_get}
use Rattle.lexer.specs.Tokens.{Line, lines}
use Rattle.semantics.specs.Names.{File, Texts}
use Rattle.checker.specs.Rows.{Book}
use Rattle.checker.specs.declared.lookup.Want.{Want}
use Rattle.diagnostics.specs.Diagnose.{Diagnosed, Tight, Lacking}
use Rattle.symbols.specs.Rows.{IsLine}
use Rattle.answers.specs.declared.inspect.Inspected.{Inspected}

-- a line of l was looked at, wherever a row whose words from the slot's end on are those of ws was lent
pub record Inspects (g : List ℕ → Book) (slot base : ℕ) (ws : List ℕ) (l : Line) (r : Inspected) (vs : List ℕ) : Type 0 where
  pub long : r.len ≡ length l.bytes
  pub stands : take r.len vs ≡ l.bytes
  pub front : List ℕ
  pub same : drop slot front ≡ drop slot (take base ws)
  pub says : Diagnosed (g front) l.bytes base r.findings vs

-- or it couldn't be: it doesn't go into the slot, too few words were lent, or something has to be known first
abbrev pub Hindered : (List ℕ → Book) → ℕ → ℕ → List ℕ → Line → Type 0
Hindered g slot base ws l = (slot < length l.bytes) ⊎ Tight (length l.bytes) base (length ws) ⊎ ((front : List ℕ) × (w : Want) × (drop slot front ≡ drop slot (take base ws)) × Lacking (g front) l.bytes w)

abbrev pub InspectSays : (List ℕ → Book) → Texts → ℕ → ℕ → ℕ → ℕ → List ℕ → List ℕ → Perhaps Inspected → Type 0
InspectSays g p k i slot base ws vs (Some r) = (x : File) × (l : Line) × IsLine p k i x l × Inspects g slot base ws l r vs
InspectSays g p k i slot base ws vs None = ((x : File) → slice_get p k ≡ Some x → length (lines x.text) ≤ i) ⊎ ((x : File) × (l : Line) × IsLine p k i x l × Hindered g slot base ws l)
