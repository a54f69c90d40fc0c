-- Types as an enum: what they stand for in a lookup's book.
use Rattle.std.specs.Prelude.{◌≡◌, ◌+◌, ◌<◌, List, Some, None, Option as Maybe}
use Rattle.std.proofs.Math.Option.{Option, some, none}
use Rattle.base.specs.Base.{Word}
use Rattle.semantics.specs.Names.{Ty, t_num, t_bool, Slot}
use Rattle.semantics.specs.Check.{field_of}
use Rattle.checker.specs.Rows.{Book, ty_of, slot_type}
use Rattle.checker.specs.declared.lookup.«Type».{«Type» as Typ}
use Rattle.checker.specs.declared.lookup.«Type».TheVariants.{Num, Bool as Truth, Of}

abbrev pub type_is : Book → Typ → Ty
type_is k Num = t_num
type_is k Truth = t_bool
type_is k (Of t) = ty_of (k.types t.0)

-- none where it isn't known
abbrev pub typed : Book → Maybe Typ → Option Ty
typed k None = none
typed k (Some t) = some (type_is k t)

-- a type that can be packed into a word
abbrev pub Small : Typ → Type 0
Small Num = Unit {0}
Small Truth = Unit {0}
Small (Of t) = t.0 + 3 < 4294967296

abbrev pub SomeSmall : Maybe Typ → Type 0
SomeSmall None = Unit {0}
SomeSmall (Some t) = Small t

abbrev pub FieldSmall : Maybe (Maybe Typ) → Type 0
FieldSmall None = Unit {0}
FieldSmall (Some t) = SomeSmall t

-- the type of the first slot of a name
abbrev pub FieldTyped : Book → List Slot → Word → Maybe (Maybe Typ) → Type 0
FieldTyped k ss w None = field_of ss w ≡ none
FieldTyped k ss w (Some t) = slot_type (field_of ss w) ≡ some (typed k t)
