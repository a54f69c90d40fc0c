-- The small world: what its four files declare, by numbers, and what is known of names. All is known.
--   x      use ports | use more | def base(p port) num = 1 | def flag() bool = 1 < 2 | kind port2 = Mine
--          rec odd = bad nosuch, n num, n bool | def lost(a nosuch) nosuch = 1 | def add(a num, b num) num = a + b
--   ports  kind port = Vik, Sund | rec ticket = start port, end port, age num
--   more   use deep | kind port2 = Oslo, Sund | rec hold = v s, back hold | def k() num = 1 | kind k = Lone
--   deep   kind s = S
-- A line is looked at as if it stood at the end of x.
use Rattle.std.specs.Prelude.{◌≡◌, ℕ, ◌+◌, ◌<◌, Bool, true, false, ◌&&◌, List, [], ◌∷◌, map, Some, None, Option as Maybe, ◌==◌}
use Rattle.std.proofs.Math.Option.{Option, some, none}
use Rattle.base.specs.Base.{pick, Word, same}
use Rattle.semantics.specs.Names.{Ty, t_num, t_bool, Slot, Sig, s_unknown, s_several}
use Rattle.semantics.specs.Walk.{Query, q_here, q_there, q_file, q_before, k_sig, k_yes, Fetch, has}
use Rattle.semantics.specs.declared.sort.Sort.{Sort}
use Rattle.semantics.specs.declared.sort.Sort.TheVariants.{Kind, Constant, Record, Def}
use Rattle.checker.specs.declared.lookup.Meaning.{Meaning}
use Rattle.checker.specs.declared.lookup.Meaning.TheVariants.{Found, Unknown, Several}
use Rattle.checker.specs.Rows.{Origin, Declared, Book, ty_of, sig_is, result_is}
use Rattle.checker.specs.declared.lookup.«Type».{«Type» as Typ}
use Rattle.checker.specs.declared.lookup.«Type».TheVariants.{Num, Bool as Truth, Of}
use Rattle.checker.specs.Types.{typed, SomeSmall}
use Rattle.world.specs.declared.cards.Card.{Card}
use Rattle.world.specs.declared.cards.Slot.{Slot as Cell}

-- names of files, and names
abbrev pub f_x : Word
f_x = 120 ∷ []

abbrev pub f_ports : Word
f_ports = 112 ∷ 111 ∷ 114 ∷ 116 ∷ 115 ∷ []

abbrev pub f_more : Word
f_more = 109 ∷ 111 ∷ 114 ∷ 101 ∷ []

abbrev pub f_deep : Word
f_deep = 100 ∷ 101 ∷ 101 ∷ 112 ∷ []

abbrev pub n_base : Word
n_base = 98 ∷ 97 ∷ 115 ∷ 101 ∷ []

abbrev pub n_flag : Word
n_flag = 102 ∷ 108 ∷ 97 ∷ 103 ∷ []

abbrev pub n_port2 : Word
n_port2 = 112 ∷ 111 ∷ 114 ∷ 116 ∷ 50 ∷ []

abbrev pub n_Mine : Word
n_Mine = 77 ∷ 105 ∷ 110 ∷ 101 ∷ []

abbrev pub n_odd : Word
n_odd = 111 ∷ 100 ∷ 100 ∷ []

abbrev pub n_lost : Word
n_lost = 108 ∷ 111 ∷ 115 ∷ 116 ∷ []

abbrev pub n_add : Word
n_add = 97 ∷ 100 ∷ 100 ∷ []

abbrev pub n_port : Word
n_port = 112 ∷ 111 ∷ 114 ∷ 116 ∷ []

abbrev pub n_Vik : Word
n_Vik = 86 ∷ 105 ∷ 107 ∷ []

abbrev pub n_Sund : Word
n_Sund = 83 ∷ 117 ∷ 110 ∷ 100 ∷ []

abbrev pub n_ticket : Word
n_ticket = 116 ∷ 105 ∷ 99 ∷ 107 ∷ 101 ∷ 116 ∷ []

abbrev pub n_Oslo : Word
n_Oslo = 79 ∷ 115 ∷ 108 ∷ 111 ∷ []

abbrev pub n_hold : Word
n_hold = 104 ∷ 111 ∷ 108 ∷ 100 ∷ []

abbrev pub n_k : Word
n_k = 107 ∷ []

abbrev pub n_Lone : Word
n_Lone = 76 ∷ 111 ∷ 110 ∷ 101 ∷ []

abbrev pub n_s : Word
n_s = 115 ∷ []

abbrev pub n_p : Word
n_p = 112 ∷ []

abbrev pub n_bad : Word
n_bad = 98 ∷ 97 ∷ 100 ∷ []

abbrev pub n_n : Word
n_n = 110 ∷ []

abbrev pub n_a : Word
n_a = 97 ∷ []

abbrev pub n_b : Word
n_b = 98 ∷ []

abbrev pub n_start : Word
n_start = 115 ∷ 116 ∷ 97 ∷ 114 ∷ 116 ∷ []

abbrev pub n_end : Word
n_end = 101 ∷ 110 ∷ 100 ∷ []

abbrev pub n_age : Word
n_age = 97 ∷ 103 ∷ 101 ∷ []

abbrev pub n_v : Word
n_v = 118 ∷ []

abbrev pub n_back : Word
n_back = 98 ∷ 97 ∷ 99 ∷ 107 ∷ []

-- the types by number; the last for all that are left
abbrev pub origin : Word → Word → Origin
origin f n = record { file = f; name = n }

abbrev pub o_port : Origin
o_port = origin f_ports n_port

abbrev pub o_ticket : Origin
o_ticket = origin f_ports n_ticket

abbrev pub o_own : Origin
o_own = origin f_x n_port2

abbrev pub o_odd : Origin
o_odd = origin f_x n_odd

abbrev pub o_far : Origin
o_far = origin f_more n_port2

abbrev pub o_hold : Origin
o_hold = origin f_more n_hold

abbrev pub o_deep : Origin
o_deep = origin f_deep n_s

abbrev pub type_of : ℕ → Origin
type_of n = pick (n == 0) o_port (pick (n == 1) o_ticket (pick (n == 2) o_own (pick (n == 3) o_odd (pick (n == 4) o_far (pick (n == 5) o_hold o_deep)))))

-- what is declared by number; the last for all that are left
abbrev pub slot1 : Word → Option Ty → Slot
slot1 n o = record { name = n; ty = o }

abbrev pub declares : Word → Word → Sort → List Slot → Option Ty → Declared
declares f n s ss o = record { file = f; name = n; sort = s; slots = ss; result = o }

abbrev pub d_base : Declared
d_base = declares f_x n_base Def (slot1 n_p (some (ty_of o_port)) ∷ []) (some t_num)

abbrev pub d_flag : Declared
d_flag = declares f_x n_flag Def [] (some t_bool)

abbrev pub d_own : Declared
d_own = declares f_x n_port2 Kind [] none

abbrev pub d_Mine : Declared
d_Mine = declares f_x n_Mine Constant [] (some (ty_of o_own))

abbrev pub d_odd : Declared
d_odd = declares f_x n_odd Record (slot1 n_bad none ∷ slot1 n_n (some t_num) ∷ slot1 n_n (some t_bool) ∷ []) none

abbrev pub d_lost : Declared
d_lost = declares f_x n_lost Def (slot1 n_a none ∷ []) none

abbrev pub d_add : Declared
d_add = declares f_x n_add Def (slot1 n_a (some t_num) ∷ slot1 n_b (some t_num) ∷ []) (some t_num)

abbrev pub d_port : Declared
d_port = declares f_ports n_port Kind [] none

abbrev pub d_Vik : Declared
d_Vik = declares f_ports n_Vik Constant [] (some (ty_of o_port))

abbrev pub d_ticket : Declared
d_ticket = declares f_ports n_ticket Record (slot1 n_start (some (ty_of o_port)) ∷ slot1 n_end (some (ty_of o_port)) ∷ slot1 n_age (some t_num) ∷ []) none

abbrev pub d_far : Declared
d_far = declares f_more n_port2 Kind [] none

abbrev pub d_Oslo : Declared
d_Oslo = declares f_more n_Oslo Constant [] (some (ty_of o_far))

abbrev pub d_hold : Declared
d_hold = declares f_more n_hold Record (slot1 n_v (some (ty_of o_deep)) ∷ slot1 n_back (some (ty_of o_hold)) ∷ []) none

abbrev pub d_k : Declared
d_k = declares f_more n_k Def [] (some t_num)

abbrev pub d_Lone : Declared
d_Lone = declares f_more n_Lone Constant [] none

abbrev pub d_s : Declared
d_s = declares f_deep n_s Kind [] none

abbrev pub sig_of : ℕ → Declared
sig_of n = pick (n == 0) d_base (pick (n == 1) d_flag (pick (n == 2) d_own (pick (n == 3) d_Mine (pick (n == 4) d_odd (pick (n == 5) d_lost (pick (n == 6) d_add (pick (n == 7) d_port (pick (n == 8) d_Vik (pick (n == 9) d_ticket (pick (n == 10) d_far (pick (n == 11) d_Oslo (pick (n == 12) d_hold (pick (n == 13) d_k (pick (n == 14) d_Lone d_s))))))))))))))

-- what names mean
abbrev pub sig_no : ℕ → Meaning
sig_no n = Found (record { 0 = n })

abbrev pub own_is : Word → Maybe ℕ
own_is w = pick (same w n_base) (Some 0) (pick (same w n_flag) (Some 1) (pick (same w n_port2) (Some 2) (pick (same w n_Mine) (Some 3) (pick (same w n_odd) (Some 4) (pick (same w n_lost) (Some 5) (pick (same w n_add) (Some 6) None))))))

abbrev pub used_is : Word → Meaning
used_is w = pick (same w n_port) (sig_no 7) (pick (same w n_Vik) (sig_no 8) (pick (same w n_Sund) Several (pick (same w n_ticket) (sig_no 9) (pick (same w n_Oslo) (sig_no 11) (pick (same w n_hold) (sig_no 12) (pick (same w n_k) (sig_no 13) (pick (same w n_Lone) (sig_no 14) Unknown)))))))

abbrev pub own_or : Maybe ℕ → Meaning → Meaning
own_or (Some n) m = sig_no n
own_or None m = m

abbrev pub here_is : Word → Meaning
here_is w = own_or (own_is w) (used_is w)

abbrev pub there_is : Word → Word → Meaning
there_is f n = pick (same f f_ports && same n n_port) (sig_no 7) (pick (same f f_ports && same n n_ticket) (sig_no 9) (pick (same f f_x && same n n_port2) (sig_no 2) (pick (same f f_x && same n n_odd) (sig_no 4) (pick (same f f_more && same n n_port2) (sig_no 10) (pick (same f f_more && same n n_hold) (sig_no 12) (pick (same f f_deep && same n n_s) (sig_no 15) Unknown))))))

-- the same, of a type by its number
abbrev pub type_sig : ℕ → ℕ
type_sig n = pick (n == 0) 7 (pick (n == 1) 9 (pick (n == 2) 2 (pick (n == 3) 4 (pick (n == 4) 10 (pick (n == 5) 12 15)))))

abbrev pub is_some : Maybe ℕ → Bool
is_some (Some n) = true
is_some None = false

abbrev pub file_is : Word → Bool
file_is w = pick (same w f_ports) true (pick (same w f_more) true (same w f_deep))

-- the book
abbrev pub meant : Meaning → Sig
meant (Found s) = sig_is (sig_of s.0)
meant Unknown = s_unknown
meant Several = s_several

abbrev pub known : Query → Fetch Query
known (q_here w) = has (k_sig (meant (here_is w)))
known (q_there f n) = has (k_sig (meant (there_is f n)))
known (q_file w) = has (k_yes (file_is w))
known (q_before w) = has (k_yes (is_some (own_is w)))

abbrev pub small_world : Book
small_world = record { types = type_of; sigs = sig_of; knows = known }

-- a card says what is declared; its types can be packed
abbrev pub cell_is : Cell → Slot
cell_is s = slot1 s.name.now (typed small_world s.ty)

abbrev pub CellsSmall : List Cell → Type 0
CellsSmall [] = Unit {0}
CellsSmall (s ∷ ss) = SomeSmall s.ty × CellsSmall ss

-- the types of a card are those of the world, by their numbers
abbrev pub Numbered : Maybe Typ → Type 0
Numbered None = Unit {0}
Numbered (Some Num) = Unit {0}
Numbered (Some Truth) = Unit {0}
Numbered (Some (Of t)) = t.0 < 7

abbrev pub CellsNumbered : List Cell → Type 0
CellsNumbered [] = Unit {0}
CellsNumbered (s ∷ ss) = Numbered s.ty × CellsNumbered ss

abbrev pub CardNumbered : Card → Type 0
CardNumbered c = Numbered c.result × CellsNumbered c.slots.now

pub record CardSays (c : Card) (d : Declared) : Type 0 where
  pub file : c.file.now ≡ d.file
  pub name : c.name.now ≡ d.name
  pub sort : c.sort ≡ d.sort
  pub small : SomeSmall c.result
  pub result : typed small_world c.result ≡ result_is d
  pub cells_small : CellsSmall c.slots.now
  pub slots : map cell_is c.slots.now ≡ d.slots

-- the number of the first one of that name, the first having number n
abbrev pub first_called : Word → ℕ → List Card → Maybe ℕ
first_called w n [] = None
first_called w n (c ∷ cs) = pick (same w c.name.now) (Some n) (first_called w (n + 1) cs)
