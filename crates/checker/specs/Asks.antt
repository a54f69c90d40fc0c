-- What the turns promise that look names up.
use Rattle.std.specs.Prelude.{◌≡◌, ℕ, Bool, List, [], ◌∷◌, Some, None, Ok, Err, Option as Maybe, Result}
use Rattle.std.proofs.Math.Option.{Option, some, none}
use Rattle.base.specs.Base.{pick}
use Rattle.lexer.specs.Tokens.{Tok}
use Rattle.parser.specs.Rows.{span_of}
use Rattle.parser.specs.declared.code.Span.{Span}
use Rattle.semantics.specs.declared.fault.Fault.{Fault}
use Rattle.semantics.specs.Names.{Ty, t_of, Slot, Sig}
use Rattle.semantics.specs.Check.{Said, said, wrong, in_front, of_record, of_type, typed, callee}
use Rattle.semantics.specs.Walk.{State, state, says, add, q_here, q_before, k_sig, k_yes, Known, lacks, has, fetch, asks_type, asks_word, the_sig}
use Rattle.checker.specs.declared.lookup.Meaning.{Meaning}
use Rattle.checker.specs.declared.lookup.Want.{Want}
use Rattle.checker.specs.declared.verdict.Verdict.{Verdict}
use Rattle.checker.specs.declared.slots.Slots.{Slots}
use Rattle.checker.specs.Rows.{Book, typ, slots_is, meaning_is, query_is, verdict_said, blamed}
use Rattle.checker.specs.Turns.{callee_slots}

-- what a name means here, and whether it is declared before; or what has to be known first
abbrev pub HereSays : Book → List ℕ → Span → Result Meaning Want → Type 0
HereSays k line s (Ok m) = k.knows (q_here (span_of line s).w) ≡ has (k_sig (meaning_is k m))
HereSays k line s (Err w) = k.knows (q_here (span_of line s).w) ≡ lacks (query_is k line w)

abbrev pub BeforeSays : Book → List ℕ → Span → Result Bool Want → Type 0
BeforeSays k line s (Ok y) = k.knows (q_before (span_of line s).w) ≡ has (k_yes y)
BeforeSays k line s (Err w) = k.knows (q_before (span_of line s).w) ≡ lacks (query_is k line w)

-- a verdict told, and a value there
abbrev pub told_value : Book → Tok → Verdict → ℕ → ℕ → State → State
told_value k t v a b σ = says a b (typed a b (verdict_said k t v)) σ.stack σ.bound σ.out

-- a call begun
abbrev pub begun : Book → Tok → Verdict → Maybe Slots → Maybe Fault → State → State
begun k t v c f σ = state (record { ty = typ k v.ty.0; from = t.from; to = t.to; slots = slots_is k c } ∷ σ.stack) σ.bound (add σ.out (in_front (blamed f t.from t.to) (verdict_said k t v)))

-- all slots of what is called, if it has any to fill; and a call's, none of which is filled
abbrev pub slots_opt : Book → Maybe Slots → Option (List Slot)
slots_opt k None = none
slots_opt k (Some c) = some (k.sigs c.sig.0).slots

abbrev pub Unfilled : Maybe Slots → Type 0
Unfilled None = Unit {0}
Unfilled (Some c) = c.next ≡ 0

pub record SlotsSay (k : Book) (m : Meaning) (c : Maybe Slots) : Type 0 where
  pub come : (t : Tok) → callee_slots (callee t (meaning_is k m)) ≡ slots_opt k c
  pub unfilled : Unfilled c

-- what a record's field is
abbrev pub member_said : Tok → Sig → Said
member_said t s = of_record (λ f n. s) t (some (t_of [] []))

abbrev pub FieldTurn : Book → List ℕ → Option Ty → Tok → Result Verdict Want → Type 0
FieldTurn k line o t (Ok v) = (z : Known) × (fetch k.knows (asks_type o) ≡ has z) × (verdict_said k t v ≡ of_record (λ f n. the_sig z) t o)
FieldTurn k line o t (Err w) = fetch k.knows (asks_type o) ≡ lacks (query_is k line w)

-- what a word is where a type has to be
abbrev pub TypeTurn : Book → List ℕ → Tok → Result Verdict Want → Type 0
TypeTurn k line t (Ok v) = (z : Known) × (fetch k.knows (asks_word t.w) ≡ has z) × (verdict_said k t v ≡ of_type (λ w. the_sig z) t)
TypeTurn k line t (Err w) = fetch k.knows (asks_word t.w) ≡ lacks (query_is k line w)

-- a file used
abbrev pub file_said : Tok → Bool → Said
file_said t b = pick b (said none [] [] (record { from = t.from; to = t.to; sort = 2; file = t.w; name = []; at = 0 } ∷ [])) (wrong t 9)
