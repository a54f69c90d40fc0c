-- What reading and checking one line promises. ws is the row before, vs the row after; the line is the first len words.
use Rattle.std.specs.Prelude.{◌≡◌, ℕ, ◌+◌, ◌*◌, ◌<◌, ◌≤◌, Bool, true, false, ◌⊎◌, List, [], ◌∷◌, length, take, Ok, Err, Result}
use Rattle.std.proofs.Math.Option.{some}
use Rattle.base.specs.Base.{Word}
use Rattle.grammar.specs.Code.{item_code, o_bad}
use Rattle.parser.specs.Rows.{ops_of}
use Rattle.syntax.specs.Line.{item_in}
use Rattle.syntax.specs.declared.read.Refusal.{Refusal}
use Rattle.syntax.specs.declared.read.Refusal.TheVariants.{Wrong as WrongAt, NoRoom as Full}
use Rattle.semantics.specs.Names.{Sig}
use Rattle.semantics.specs.Check.{of_item}
use Rattle.semantics.specs.Walk.{start, Agrees, answer, add, silent, first_lacking, asked}
use Rattle.checker.specs.declared.lookup.Want.{Want}
use Rattle.checker.specs.declared.check.Stop.{Stop}
use Rattle.checker.specs.declared.check.Stop.TheVariants.{Needs, NoRoom}
use Rattle.checker.specs.Rows.{Book, said_in, query_is}
use Rattle.diagnostics.specs.declared.Findings.{Findings}
use Rattle.diagnostics.specs.declared.NoRoom.{NoRoom as Tightness}

-- too few words, or a line that can't be: longer than places go, or not before base
abbrev pub Tight : ℕ → ℕ → ℕ → Type 0
Tight len base total = (4294967000 ≤ len) ⊎ (base < len) ⊎ (total < base + (25 * len + 64))

abbrev pub RoomySays : ℕ → ℕ → ℕ → Bool → Type 0
RoomySays len base total true = (len < 4294967000) × (len ≤ base) × (base + (25 * len + 64) ≤ total)
RoomySays len base total false = Tight len base total

-- the code of a line that isn't understood; none where it wasn't read for want of room
abbrev pub WrongSays : Refusal → ℕ → List ℕ → Result ℕ Tightness → Type 0
WrongSays (WrongAt s) base vs (Ok n) = (n ≡ 1) × ((line : List ℕ) → ops_of line base 1 vs ≡ o_bad s.from s.to ∷ [])
WrongSays (WrongAt s) base vs (Err e) = ⊥
WrongSays Full base vs (Ok n) = ⊥
WrongSays Full base vs (Err e) = Unit {0}

-- the line's code stands from base on, one operation for one that isn't understood
abbrev pub CodeSays : List ℕ → ℕ → ℕ → List ℕ → Result ℕ Tightness → Type 0
CodeSays ws len base vs (Ok n) = (n ≤ len) × (len ≤ base) × (base + 25 * len ≤ length vs) × (ops_of (take len ws) base n vs ≡ item_code (item_in (take len ws)))
CodeSays ws len base vs (Err e) = Tight len base (length ws)

-- n things stand from a place on, and are what the definition says of the line, wherever what the lookup knows is so
abbrev pub Found : Book → List ℕ → ℕ → ℕ → List ℕ → Type 0
Found k line at1 n vs = (me : Word) (here : Word → Sig) (there : Word → Word → Sig) (file_there : Word → Bool) (before : List Word) → Agrees k.knows (answer me here there file_there before) → said_in k line at1 n vs ≡ add silent (of_item me here there file_there before (item_in line))

-- the first thing that has to be known and isn't
abbrev pub Lacking : Book → List ℕ → Want → Type 0
Lacking k line w = (me : Word) (here : Word → Sig) (there : Word → Word → Sig) (file_there : Word → Bool) (before : List Word) → Agrees k.knows (answer me here there file_there before) → first_lacking k.knows (asked (answer me here there file_there before) (item_code (item_in line)) start) ≡ some (query_is k line w)

-- all of it: what is said stands behind the line's code
pub record Diagnosed (k : Book) (line : List ℕ) (base : ℕ) (f : Findings) (vs : List ℕ) : Type 0 where
  pub few : f.ops ≤ length line
  pub before : length line ≤ base
  pub behind : f.at ≡ base + 5 * f.ops
  pub said : f.count ≤ 3 * f.ops
  pub within : f.at + 4 * f.count ≤ length vs
  pub coded : ops_of line base f.ops vs ≡ item_code (item_in line)
  pub found : Found k line f.at f.count vs

abbrev pub DiagnoseSays : (List ℕ → Book) → List ℕ → ℕ → ℕ → List ℕ → Result Findings Stop → Type 0
DiagnoseSays g ws len base vs (Ok f) = Diagnosed (g (take base ws)) (take len ws) base f vs
DiagnoseSays g ws len base vs (Err (Needs w)) = Lacking (g (take base ws)) (take len ws) w
DiagnoseSays g ws len base vs (Err NoRoom) = Tight len base (length ws)
