-- What each turn of the checker promises: it does one step of the walk, or lacks what that asks.
use Rattle.std.specs.Prelude.{◌≡◌, ℕ, ◌+◌, ◌*◌, ◌<◌, ◌≤◌, Bool, true, false, List, [], ◌∷◌, length, take, Ok, Err, Result, ◌==◌, nat_le}
use Rattle.std.proofs.Math.Option.{Option, some, none}
use Rattle.base.specs.Base.{pick}
use Rattle.lexer.specs.Tokens.{Tok}
use Rattle.grammar.specs.Code.{Op}
use Rattle.semantics.specs.Names.{t_of, Slot, Sig, s_unknown, s_several, s_type, s_const, s_rec, s_def}
use Rattle.semantics.specs.Check.{Said, said, fault, wrong, link_to, name_alone, Callee, calls_it, callee}
use Rattle.semantics.specs.Walk.{step, Known, lacks, has, fetch, asks}
use Rattle.semantics.specs.declared.sort.Sort.{Sort}
use Rattle.semantics.specs.declared.sort.Sort.TheVariants.{Kind, Constant, Record, Def}
use Rattle.checker.specs.declared.lookup.Want.{Want}
use Rattle.checker.specs.declared.rows.Bounds.{Bounds}
use Rattle.checker.specs.declared.rows.Place.{Place}
use Rattle.checker.specs.declared.verdict.Role.{Role}
use Rattle.checker.specs.declared.verdict.Role.TheVariants.{Alone, Called, Typed}
use Rattle.checker.specs.Rows.{Book, means, code_end, query_is}

-- room for one more operation
pub record Ready (b : Bounds) (p : Place) (ws : List ℕ) : Type 0 where
  pub line_in : b.len ≤ b.base
  pub enough : b.base + 25 * b.count ≤ length ws
  pub frame_room : p.height < b.count
  pub name_room : p.names < b.count
  pub said_room : p.events + 3 ≤ 3 * b.count

-- one step, told z
pub record Steps (k : Book) (line : List ℕ) (b : Bounds) (p : Place) (ws : List ℕ) (q : Place) (vs : List ℕ) (z : Known) (o : Op) : Type 0 where
  pub before : take (code_end b) vs ≡ take (code_end b) ws
  pub frame_more : q.height ≤ p.height + 1
  pub name_more : q.names ≤ p.names + 1
  pub said_more : q.events ≤ p.events + 3
  pub becomes : means k line b q vs ≡ step z o (means k line b p ws)

-- an operation that asks nothing
abbrev pub Goes : (List ℕ → Book) → Bounds → Place → List ℕ → Place → List ℕ → (List ℕ → Op) → Type 0
Goes g b p ws q vs o = (z : Known) → Steps (g (take b.base ws)) (take b.len ws) b p ws q vs z (o (take b.len ws))

-- one that may ask
abbrev pub TurnBy : Book → List ℕ → Bounds → Place → List ℕ → List ℕ → Op → Result Place Want → Type 0
TurnBy k line b p ws vs o (Ok q) = (z : Known) × (fetch k.knows (asks o (means k line b p ws)) ≡ has z) × Steps k line b p ws q vs z o
TurnBy k line b p ws vs o (Err w) = (fetch k.knows (asks o (means k line b p ws)) ≡ lacks (query_is k line w)) × (take (code_end b) vs ≡ take (code_end b) ws)

abbrev pub TurnSays : (List ℕ → Book) → Bounds → Place → List ℕ → List ℕ → (List ℕ → Op) → Result Place Want → Type 0
TurnSays g b p ws vs o r = TurnBy (g (take b.base ws)) (take b.len ws) b p ws vs (o (take b.len ws)) r

-- what may stand alone, be called, be a type
abbrev pub role_fits : Role → Sort → Bool
role_fits Alone Kind = false
role_fits Alone Constant = true
role_fits Alone Record = false
role_fits Alone Def = false
role_fits Called Kind = false
role_fits Called Constant = false
role_fits Called Record = true
role_fits Called Def = true
role_fits Typed Kind = true
role_fits Typed Constant = false
role_fits Typed Record = true
role_fits Typed Def = false

abbrev pub type_said : Tok → Sig → Said
type_said t s_unknown = wrong t 2
type_said t s_several = wrong t 3
type_said t (s_type f n) = said (some (t_of f n)) [] [] (link_to t f n ∷ [])
type_said t (s_const f n o) = said none (fault t.from t.to 8 ∷ []) [] (link_to t f n ∷ [])
type_said t (s_rec f n ss) = said (some (t_of f n)) [] [] (link_to t f n ∷ [])
type_said t (s_def f n ss o) = said none (fault t.from t.to 8 ∷ []) [] (link_to t f n ∷ [])

abbrev pub callee_said : Callee → Said
callee_said (calls_it o c) = c

abbrev pub callee_slots : Callee → Option (List Slot)
callee_slots (calls_it o c) = o

abbrev pub role_said : Role → Tok → Sig → Said
role_said Alone t s = name_alone t s
role_said Called t s = callee_said (callee t s)
role_said Typed t s = type_said t s

-- the word of the type that both operands have to be; of == there is none
abbrev pub operand_word : ℕ → ℕ
operand_word o = pick (o == 3) 0 (pick (nat_le 5 o) 2 1)
