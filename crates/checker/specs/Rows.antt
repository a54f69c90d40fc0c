-- What the checker's words stand for. One row of words holds all:
--   from 0                the line, and what names are looked up in
--   from base             the line's code, five words an operation
--   from its end          what was said, four words each: a tag, from, to, and a number
--   behind room for that  the names bound, three words each: from, to, and a type's word
--   behind room for those the frames, five words each: a type's word, from, to, a signature, and which slot is next
-- There is room for three things said, one name and one frame for each operation.
--
-- what is said, by its tag           a type's word
--   0 a fault of this number           0 none
--   1 the type of this word            1 num
--   2 a link to this signature         2 bool
--   3 a link to the name bound there   3 + n the lookup's type n
--   any other: a link to a file
use Rattle.std.specs.Prelude.{◌≡◌, ℕ, zero, suc, ◌+◌, ◌-◌, ◌*◌, ◌≤◌, Bool, List, [], ◌∷◌, ◌++◌, length, take, drop, Some, None, Option as Maybe, ◌==◌, slice_index}
use Rattle.std.proofs.Math.Option.{Option, some, none}
use Rattle.base.specs.Base.{pick, opt, Word}
use Rattle.lexer.specs.Tokens.{Tok, piece}
use Rattle.parser.specs.Rows.{span_of}
use Rattle.semantics.specs.Names.{Ty, t_num, t_bool, t_of, Slot, Sig, s_unknown, s_several, s_type, s_const, s_rec, s_def}
use Rattle.semantics.specs.Check.{Said, said, Fault, fault, Link as Links, Local as Named, find, link_to}
use Rattle.semantics.specs.Walk.{Frame as Fr, Output, State, state, value, add, silent, pop, Query, q_here, q_there, q_file, q_before, k_sig, k_yes, Fetch, lacks, has}
use Rattle.semantics.specs.Numbers.{fault_number}
use Rattle.semantics.specs.declared.sort.Sort.{Sort}
use Rattle.semantics.specs.declared.sort.Sort.TheVariants.{Kind, Constant, Record, Def}
use Rattle.semantics.specs.declared.fault.Fault.{Fault as Wrong}
use Rattle.checker.specs.declared.lookup.Meaning.{Meaning}
use Rattle.checker.specs.declared.lookup.Meaning.TheVariants.{Found, Unknown, Several}
use Rattle.checker.specs.declared.lookup.Want.{Want}
use Rattle.checker.specs.declared.lookup.Want.TheVariants.{Here, There, File, Before}
use Rattle.checker.specs.declared.rows.Bounds.{Bounds}
use Rattle.checker.specs.declared.rows.Place.{Place}
use Rattle.checker.specs.declared.rows.Frame.{Frame}
use Rattle.checker.specs.declared.rows.Bound.{Bound}
use Rattle.checker.specs.declared.slots.Slots.{Slots}
use Rattle.checker.specs.declared.packed.TypeWord.{TypeWord}
use Rattle.checker.specs.declared.said.Link.{Link}
use Rattle.checker.specs.declared.said.Link.TheVariants.{Declared as ToDeclared, Local, File as ToFile}
use Rattle.checker.specs.declared.said.Said.{Said as Told}
use Rattle.checker.specs.declared.said.Said.TheVariants.{Fault as Blames, «Type» as Types, Link as Links_to}
use Rattle.checker.specs.declared.said.Event.{Event}
use Rattle.checker.specs.declared.verdict.Verdict.{Verdict}

-- what a lookup's numbers mean, and what it knows: a type is declared in a file under a name; a signature is of something declared there
pub record Origin : Type 0 where
  pub file : Word
  pub name : Word

pub record Declared : Type 0 where
  pub file : Word
  pub name : Word
  pub sort : Sort
  pub slots : List Slot
  pub result : Option Ty

pub record Book : Type 0 where
  pub types : ℕ → Origin
  pub sigs : ℕ → Declared
  pub knows : Query → Fetch Query

abbrev pub ty_of : Origin → Ty
ty_of o = t_of o.file o.name

abbrev pub typ : Book → ℕ → Option Ty
typ k w = pick (w == 0) none (pick (w == 1) (some t_num) (pick (w == 2) (some t_bool) (some (ty_of (k.types (w - 3))))))

abbrev pub sig_by : Sort → Declared → Sig
sig_by Kind d = s_type d.file d.name
sig_by Constant d = s_const d.file d.name d.result
sig_by Record d = s_rec d.file d.name d.slots
sig_by Def d = s_def d.file d.name d.slots d.result

abbrev pub sig_is : Declared → Sig
sig_is d = sig_by d.sort d

-- the type of what is declared: of a kind or a record itself
abbrev pub result_by : Sort → Declared → Option Ty
result_by Kind d = some (t_of d.file d.name)
result_by Constant d = d.result
result_by Record d = some (t_of d.file d.name)
result_by Def d = d.result

abbrev pub result_is : Declared → Option Ty
result_is d = result_by d.sort d

abbrev pub meaning_is : Book → Meaning → Sig
meaning_is k (Found s) = sig_is (k.sigs s.0)
meaning_is k Unknown = s_unknown
meaning_is k Several = s_several

-- the slots to come, by the two words that stand for them: n is one more than the next one's index, or 0 where there are none
abbrev pub slots_left : Book → ℕ → ℕ → List Slot
slots_left k s n = pick (n == 0) [] (drop (n - 1) (k.sigs s).slots)

abbrev pub slots_is : Book → Maybe Slots → List Slot
slots_is k None = []
slots_is k (Some s) = drop s.next (k.sigs s.sig.0).slots

-- a lookup's answers
abbrev pub MeaningSays : Book → Query → Maybe Meaning → Type 0
MeaningSays k q None = k.knows q ≡ lacks q
MeaningSays k q (Some m) = k.knows q ≡ has (k_sig (meaning_is k m))

abbrev pub YesSays : Book → Query → Maybe Bool → Type 0
YesSays k q None = k.knows q ≡ lacks q
YesSays k q (Some b) = k.knows q ≡ has (k_yes b)

abbrev pub slot_type : Option Slot → Option (Option Ty)
slot_type none = none
slot_type (some s) = some s.ty

-- what is wanted
abbrev pub query_is : Book → List ℕ → Want → Query
query_is k line (Here s) = q_here (span_of line s).w
query_is k line (There t) = q_there (k.types t.0).file (k.types t.0).name
query_is k line (File s) = q_file (span_of line s).w
query_is k line (Before s) = q_before (span_of line s).w

-- where the parts of the row begin
abbrev pub code_end : Bounds → ℕ
code_end b = b.base + 5 * b.count

abbrev pub names_at : Bounds → ℕ
names_at b = b.base + 17 * b.count

abbrev pub frames_at : Bounds → ℕ
frames_at b = b.base + 20 * b.count

-- frames, names and what was said, and their words
abbrev pub frame_is : Book → Frame → Fr
frame_is k v = record { ty = typ k v.ty.0; from = v.span.from; to = v.span.to; slots = slots_is k v.slots }

abbrev pub frame_by : Book → ℕ → ℕ → ℕ → ℕ → ℕ → Fr
frame_by k a b c d e = record { ty = typ k a; from = b; to = c; slots = slots_left k d e }

abbrev pub frame_at : Book → List ℕ → ℕ → Fr
frame_at k ws i = frame_by k (slice_index ws i) (slice_index ws (i + 1)) (slice_index ws (i + 2)) (slice_index ws (i + 3)) (slice_index ws (i + 4))

abbrev pub slots_row : Maybe Slots → List ℕ
slots_row None = 0 ∷ 0 ∷ []
slots_row (Some s) = s.sig.0 ∷ (s.next + 1) ∷ []

abbrev pub frame_row : Frame → List ℕ
frame_row v = v.ty.0 ∷ v.span.from ∷ v.span.to ∷ slots_row v.slots

abbrev pub frames_in : Book → ℕ → ℕ → List ℕ → List Fr
frames_in k f zero ws = []
frames_in k f (suc h) ws = frame_at k ws (f + 5 * h) ∷ frames_in k f h ws

abbrev pub bound_is : Book → List ℕ → Bound → Named
bound_is k line x = record { name = span_of line x.span; ty = typ k x.ty.0 }

abbrev pub bound_words : ℕ → ℕ → ℕ → Bound
bound_words a b c = record { span = record { from = a; to = b }; ty = record { 0 = c } }

abbrev pub bound_at : List ℕ → ℕ → Bound
bound_at ws i = bound_words (slice_index ws i) (slice_index ws (i + 1)) (slice_index ws (i + 2))

abbrev pub bound_row : Bound → List ℕ
bound_row x = x.span.from ∷ x.span.to ∷ x.ty.0 ∷ []

abbrev pub names_in : Book → List ℕ → ℕ → ℕ → List ℕ → List Named
names_in k line f zero ws = []
names_in k line f (suc n) ws = bound_is k line (bound_at ws (f + 3 * n)) ∷ names_in k line f n ws

abbrev pub noted_type : ℕ → ℕ → Option Ty → Said
noted_type a b o = said none [] (opt o [] (λ t. record { from = a; to = b; ty = t } ∷ [])) []

abbrev pub event_said : Book → List ℕ → ℕ → ℕ → ℕ → ℕ → Said
event_said k line t a b x = pick (t == 0) (said none (fault a b x ∷ []) [] []) (pick (t == 1) (noted_type a b (typ k x))
    (pick (t == 2) (said none [] [] (link_to (piece line a b) (k.sigs x).file (k.sigs x).name ∷ []))
    (pick (t == 3) (said none [] [] (record { from = a; to = b; sort = 1; file = []; name = (piece line a b).w; at = x } ∷ []))
    (said none [] [] (record { from = a; to = b; sort = 2; file = (piece line a b).w; name = []; at = 0 } ∷ [])))))

abbrev pub event_in : Book → List ℕ → List ℕ → ℕ → Said
event_in k line ws i = event_said k line (slice_index ws i) (slice_index ws (i + 1)) (slice_index ws (i + 2)) (slice_index ws (i + 3))

abbrev pub event_by : ℕ → ℕ → ℕ → ℕ → Event
event_by t a b x = record { span = record { from = a; to = b }; said = pick (t == 0) (Blames x) (pick (t == 1) (Types (record { 0 = x })) (pick (t == 2) (Links_to (ToDeclared (record { 0 = x }))) (pick (t == 3) (Links_to (Local x)) (Links_to ToFile)))) }

abbrev pub event_at : List ℕ → ℕ → Event
event_at ws i = event_by (slice_index ws i) (slice_index ws (i + 1)) (slice_index ws (i + 2)) (slice_index ws (i + 3))

-- the things said in a row, one behind the other
abbrev pub events_of : List ℕ → List Event
events_of [] = []
events_of (t ∷ []) = []
events_of (t ∷ a ∷ []) = []
events_of (t ∷ a ∷ b ∷ []) = []
events_of (t ∷ a ∷ b ∷ x ∷ ws) = event_by t a b x ∷ events_of ws

-- n of them from a place on
abbrev pub events_at : List ℕ → ℕ → ℕ → List Event
events_at ws i zero = []
events_at ws i (suc n) = event_at ws i ∷ events_at ws (i + 4) n

abbrev pub event_words : ℕ → ℕ → Told → List ℕ
event_words a b (Blames n) = 0 ∷ a ∷ b ∷ n ∷ []
event_words a b (Types w) = 1 ∷ a ∷ b ∷ w.0 ∷ []
event_words a b (Links_to (ToDeclared s)) = 2 ∷ a ∷ b ∷ s.0 ∷ []
event_words a b (Links_to (Local at1)) = 3 ∷ a ∷ b ∷ at1 ∷ []
event_words a b (Links_to ToFile) = 4 ∷ a ∷ b ∷ 0 ∷ []

abbrev pub event_row : Event → List ℕ
event_row e = event_words e.span.from e.span.to e.said

-- where a name links to
abbrev pub link_is : Book → Tok → Link → Links
link_is k t (ToDeclared s) = link_to t (k.sigs s.0).file (k.sigs s.0).name
link_is k t (Local a) = record { from = t.from; to = t.to; sort = 1; file = []; name = t.w; at = a }
link_is k t ToFile = record { from = t.from; to = t.to; sort = 2; file = t.w; name = []; at = 0 }

abbrev pub told_is : Book → Tok → Told → Said
told_is k t (Blames n) = said none (fault t.from t.to n ∷ []) [] []
told_is k t (Types w) = noted_type t.from t.to (typ k w.0)
told_is k t (Links_to l) = said none [] [] (link_is k t l ∷ [])

abbrev pub event_is : Book → List ℕ → Event → Said
event_is k line e = told_is k (span_of line e.span) e.said

abbrev pub said_in : Book → List ℕ → ℕ → ℕ → List ℕ → Output
said_in k line f zero ws = silent
said_in k line f (suc n) ws = add (said_in k line f n ws) (event_in k line ws (f + 4 * n))

-- the state in which the words are
abbrev pub means : Book → List ℕ → Bounds → Place → List ℕ → State
means k line b p ws = state (frames_in k (frames_at b) p.height ws) (names_in k line (names_at b) p.names ws) (said_in k line (code_end b) p.events ws)

-- what the writes do to a state
abbrev pub with_frame : Fr → State → State
with_frame f σ = state (f ∷ σ.stack) σ.bound σ.out

abbrev pub with_name : Named → State → State
with_name x σ = state σ.stack (x ∷ σ.bound) σ.out

abbrev pub with_said : Said → State → State
with_said s σ = state σ.stack σ.bound (add σ.out s)

abbrev pub without_frame : State → State
without_frame σ = state (pop σ.stack) σ.bound σ.out

abbrev pub without_name : State → State
without_name σ = state σ.stack (pop σ.bound) σ.out

-- the line lies before the code, and that begins in the row
pub record Within (b : Bounds) (ws : List ℕ) : Type 0 where
  pub line_in : b.len ≤ b.base
  pub base_in : b.base ≤ length ws

-- there are words enough for all operations, and no more was written than for all of them
pub record Fits (b : Bounds) (p : Place) (ws : List ℕ) : Type 0 where
  pub line_in : b.len ≤ b.base
  pub enough : b.base + 25 * b.count ≤ length ws
  pub frames_fit : p.height ≤ b.count
  pub names_fit : p.names ≤ b.count
  pub said_fit : p.events ≤ 3 * b.count

-- a row written from a place on
abbrev pub pasted : List ℕ → ℕ → List ℕ → List ℕ
pasted ws at1 row1 = take at1 ws ++ (row1 ++ drop (at1 + length row1) ws)

-- from ws at p to vs at q, a state becomes what F makes of it
pub record Writes (b : Bounds) (p : Place) (ws : List ℕ) (q : Place) (vs : List ℕ) (F : Book → List ℕ → State → State) : Type 0 where
  pub before : take (code_end b) vs ≡ take (code_end b) ws
  pub becomes : (k : Book) (line : List ℕ) → means k line b q vs ≡ F k line (means k line b p ws)

abbrev pub FindSays : List Named → Word → (Bound → Named) → Maybe Bound → Type 0
FindSays g w f None = find g w ≡ none
FindSays g w f (Some x) = find g w ≡ some (f x)

-- what is wrong, if anything is
abbrev pub blamed : Maybe Wrong → ℕ → ℕ → List Fault
blamed None a b = []
blamed (Some f) a b = fault a b (fault_number f) ∷ []

abbrev pub links_is : Book → Tok → Maybe Link → List Links
links_is k t None = []
links_is k t (Some l) = link_is k t l ∷ []

-- what is found of a name: a type alone, a fault alone, and either with a link
abbrev pub well : TypeWord → Verdict
well w = record { ty = w; fault = None; link = None }

abbrev pub ill : Wrong → Verdict
ill f = record { ty = record { 0 = 0 }; fault = Some f; link = None }

abbrev pub with_link : Verdict → Link → Verdict
with_link v l = record { ty = v.ty; fault = v.fault; link = Some l }

-- what is found of a name: its type, what is wrong, where it links to
abbrev pub verdict_said : Book → Tok → Verdict → Said
verdict_said k t v = said (typ k v.ty.0) (blamed v.fault t.from t.to) [] (links_is k t v.link)

-- a value there, its type noted
abbrev pub valued : ℕ → ℕ → Option Ty → State → State
valued a b o σ = with_frame (value o a b) (with_said (noted_type a b o) σ)
