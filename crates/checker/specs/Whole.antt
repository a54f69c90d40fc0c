-- What checking a line's code promises.
use Rattle.std.specs.Prelude.{◌≡◌, ℕ, ◌+◌, ◌*◌, ◌<◌, ◌≤◌, Bool, true, false, ◌⊎◌, List, length, take, drop, Ok, Err, Result}
use Rattle.std.proofs.Math.Option.{some}
use Rattle.parser.specs.Rows.{ops, ops_of}
use Rattle.base.specs.Base.{Word}
use Rattle.grammar.specs.Grammar.{Item}
use Rattle.grammar.specs.Code.{item_code}
use Rattle.semantics.specs.Names.{Sig}
use Rattle.semantics.specs.Check.{of_item}
use Rattle.semantics.specs.Walk.{tries, start, need, ends, Agrees, answer, add, silent, first_lacking, asked}
use Rattle.checker.specs.declared.lookup.Want.{Want}
use Rattle.checker.specs.declared.rows.Bounds.{Bounds}
use Rattle.checker.specs.declared.rows.Place.{Place}
use Rattle.checker.specs.declared.check.Stop.{Stop}
use Rattle.checker.specs.declared.check.Stop.TheVariants.{Needs, NoRoom}
use Rattle.checker.specs.Rows.{Book, means, said_in, code_end, query_is}

-- as the walk with what the lookup knows: it ends in the state that the words are in, or needs what that needs
abbrev pub WalkBy : Book → List ℕ → Bounds → List ℕ → List ℕ → Result Place Want → Type 0
WalkBy k line b ws vs (Ok p) = (tries k.knows (ops_of line b.base b.count ws) start ≡ ends (means k line b p vs)) × (p.events ≤ 3 * b.count)
WalkBy k line b ws vs (Err w) = tries k.knows (ops_of line b.base b.count ws) start ≡ need (query_is k line w)

abbrev pub WalkSays : (List ℕ → Book) → Bounds → List ℕ → List ℕ → Result Place Want → Type 0
WalkSays g b ws vs r = WalkBy (g (take b.base ws)) (take b.len ws) b ws vs r

-- what is given back: how many things were said, or what has to be known
abbrev pub told_of : Result Place Want → Result ℕ Want
told_of (Ok p) = Ok p.events
told_of (Err w) = Err w

abbrev pub Few : Bounds → Result ℕ Want → Type 0
Few b (Ok n) = n ≤ 3 * b.count
Few b (Err w) = Unit {0}

-- where what the lookup knows is so: what was said is what the definition says of the line whose code it is; or what has to be known
-- is the first thing of all that the whole walk asks which the lookup doesn't know
abbrev pub LineBy : Book → List ℕ → Bounds → List ℕ → List ℕ → Result ℕ Want → Type 0
LineBy k line b ws vs (Ok n) = (me : Word) (here : Word → Sig) (there : Word → Word → Sig) (file_there : Word → Bool) (before : List Word) (it : Item) → Agrees k.knows (answer me here there file_there before) → ops_of line b.base b.count ws ≡ item_code it → said_in k line (code_end b) n vs ≡ add silent (of_item me here there file_there before it)
LineBy k line b ws vs (Err w) = (me : Word) (here : Word → Sig) (there : Word → Word → Sig) (file_there : Word → Bool) (before : List Word) (it : Item) → Agrees k.knows (answer me here there file_there before) → ops_of line b.base b.count ws ≡ item_code it → first_lacking k.knows (asked (answer me here there file_there before) (item_code it) start) ≡ some (query_is k line w)

abbrev pub LineSays : (List ℕ → Book) → Bounds → List ℕ → List ℕ → Result ℕ Want → Type 0
LineSays g b ws vs r = LineBy (g (take b.base ws)) (take b.len ws) b ws vs r

-- the words that are enough
abbrev pub enough : Bounds → ℕ
enough b = b.base + 25 * b.count

abbrev pub RoomSays : ℕ → Bounds → Bool → Type 0
RoomSays n b true = (b.len ≤ b.base) × (enough b ≤ n)
RoomSays n b false = (b.base < b.len) ⊎ (n < enough b)

-- the whole: what was said, and how much at the most; what has to be known first; or that the line goes beyond base or fewer than 25
-- words for each operation were lent from base on
abbrev pub CheckSays : (List ℕ → Book) → Bounds → List ℕ → List ℕ → Result ℕ Stop → Type 0
CheckSays g b ws vs (Ok n) = (n ≤ 3 * b.count) × LineSays g b ws vs (Ok n)
CheckSays g b ws vs (Err (Needs w)) = LineSays g b ws vs (Err w)
CheckSays g b ws vs (Err NoRoom) = (b.base < b.len) ⊎ (length ws < enough b)

-- the state after i operations
pub record WentOn (g : List ℕ → Book) (b : Bounds) (ws : List ℕ) (i : ℕ) (p : Place) (vs : List ℕ) : Type 0 where
  pub kept : take (code_end b) vs ≡ take (code_end b) ws
  pub tried : tries (g (take b.base ws)).knows (ops (take b.len ws) (drop (b.base + 5 * i) (take (code_end b) ws))) (means (g (take b.base ws)) (take b.len ws) b p vs) ≡ tries (g (take b.base ws)).knows (ops_of (take b.len ws) b.base b.count ws) start
  pub few_frames : p.height ≤ i
  pub few_names : p.names ≤ i
  pub few_said : p.events ≤ 3 * i
