-- Names looked up in the symbol table at x of a row: what stands in its words, whatever the row is.
-- What is declared goes by its handle, the place of its words in the row. A handle that is found lies below the limit, so that it can be
-- packed as a type.
use Rattle.std.specs.Prelude.{◌≡◌, ℕ, zero, suc, ◌+◌, ◌-◌, min, Bool, true, false, not, ◌&&◌, ◌||◌, List, [], ◌∷◌, length, Some, None, Option as Perhaps, ◌==◌, nat_lt}
use Rattle.std.proofs.Math.Option.{Option, some, none}
use Rattle.base.specs.Base.{pick, Word, same}
use Rattle.lexer.specs.Words.{k_num, k_bool}
use Rattle.grammar.specs.Grammar.{Field}
use Rattle.semantics.specs.Names.{Ty, t_num, t_bool, Slot, Sig, s_unknown, s_several}
use Rattle.semantics.specs.Check.{field_of}
use Rattle.semantics.specs.Walk.{Query, q_here, q_there, q_file, q_before, k_sig, k_yes, Fetch, has}
use Rattle.semantics.specs.declared.sort.Sort.{Sort}
use Rattle.semantics.specs.declared.sort.Sort.TheVariants.{Kind, Constant, Record, Def}
use Rattle.checker.specs.declared.lookup.Meaning.{Meaning}
use Rattle.checker.specs.declared.lookup.Meaning.TheVariants.{Found, Unknown, Several}
use Rattle.checker.specs.declared.lookup.«Type».{«Type» as Typ}
use Rattle.checker.specs.declared.lookup.«Type».TheVariants.{Num, Bool as Truth, Of}
use Rattle.checker.specs.Rows.{Origin, Declared, Book, ty_of, sig_is, slot_type}
use Rattle.symbols.specs.Table.{word, text_at, file_name, used_in, first_decl, decl_count, decl_name, decl_type, decl_fields, decl_long}

-- a handle is below this, and lies in the row
abbrev pub limit : ℕ
limit = 4294967290

abbrev pub in_row : List ℕ → ℕ → Bool
in_row ws d = nat_lt d (min (length ws) limit)

-- the first of n declarations from d on that has a name
abbrev pub seek : List ℕ → Word → ℕ → ℕ → Perhaps ℕ
seek ws w zero d = None
seek ws w (suc n) d = pick (in_row ws d) (pick (same (decl_name ws d) w) (Some d) (seek ws w n (d + decl_long ws d))) None

-- the first of n files from the k-th on that has a name, and of all files
abbrev pub named_from : List ℕ → ℕ → Word → ℕ → ℕ → Perhaps ℕ
named_from ws x w zero k = None
named_from ws x w (suc n) k = pick (same (file_name ws x k) w) (Some k) (named_from ws x w n (k + 1))

abbrev pub file_named : List ℕ → ℕ → Word → Perhaps ℕ
file_named ws x w = named_from ws x w (word ws x) 0

abbrev pub is_there : Perhaps ℕ → Bool
is_there None = false
is_there (Some n) = true

-- what the k-th file itself declares under a name
abbrev pub own : List ℕ → ℕ → ℕ → Word → Perhaps ℕ
own ws x k w = seek ws w (decl_count ws x k) (first_decl ws x k)

-- the same among its first declarations alone
abbrev pub own_before : List ℕ → ℕ → ℕ → ℕ → Word → Perhaps ℕ
own_before ws x k n w = seek ws w (min n (decl_count ws x k)) (first_decl ws x k)

-- what the file of a name declares under a name
abbrev pub own_of : List ℕ → ℕ → Word → Perhaps ℕ → Perhaps ℕ
own_of ws x n None = None
own_of ws x n (Some k) = own ws x k n

abbrev pub declared_in : List ℕ → ℕ → Word → Word → Perhaps ℕ
declared_in ws x f n = own_of ws x n (file_named ws x f)

-- what a name means in the k-th file: what that declares; else what the files declare that it uses
abbrev pub found : ℕ → Meaning
found d = Found (record { 0 = d })

abbrev pub or_other : Meaning → ℕ → Meaning
or_other Unknown d = found d
or_other Several d = Several
or_other (Found s) d = Several

abbrev pub also : Perhaps ℕ → Meaning → Meaning
also None m = m
also (Some d) m = or_other m d

abbrev pub among_used : List ℕ → ℕ → Word → List ℕ → Meaning → Meaning
among_used ws x w [] m = m
among_used ws x w (g ∷ gs) m = among_used ws x w gs (also (own ws x g w) m)

abbrev pub found_or : Perhaps ℕ → Meaning → Meaning
found_or None m = m
found_or (Some d) m = found d

abbrev pub meaning : List ℕ → ℕ → ℕ → Word → Meaning
meaning ws x k w = found_or (own ws x k w) (among_used ws x w (used_in ws x k) Unknown)

-- the type that a word names in the k-th file: a kind and a record are types
abbrev pub is_type : ℕ → Bool
is_type s = s == 0 || s == 2

abbrev pub found_type : List ℕ → Meaning → Perhaps Typ
found_type ws Unknown = None
found_type ws Several = None
found_type ws (Found s) = pick (is_type (word ws (s.0 + 3))) (Some (Of (record { 0 = s.0 }))) None

abbrev pub type_named : List ℕ → ℕ → ℕ → Word → Perhaps Typ
type_named ws x k w = pick (same w k_num) (Some Num) (pick (same w k_bool) (Some Truth) (found_type ws (meaning ws x k w)))

-- where a handle's thing is declared, and the type that one stands for
abbrev pub origin : List ℕ → ℕ → ℕ → Origin
origin ws x d = record { file = file_name ws x (word ws d); name = decl_name ws d }

abbrev pub type_is : List ℕ → ℕ → Perhaps Typ → Option Ty
type_is ws x None = none
type_is ws x (Some Num) = some t_num
type_is ws x (Some Truth) = some t_bool
type_is ws x (Some (Of t)) = some (ty_of (origin ws x t.0))

-- the type of the first slot of a name
abbrev pub FieldIs : List ℕ → ℕ → List Slot → Word → Perhaps (Perhaps Typ) → Type 0
FieldIs ws x ss w None = field_of ss w ≡ none
FieldIs ws x ss w (Some t) = slot_type (field_of ss w) ≡ some (type_is ws x t)

-- what is declared there, its types by the names that they have in its own file. What lies past the limit is no type.
abbrev pub sort_by : ℕ → Sort
sort_by s = pick (s == 0) Kind (pick (s == 1) Constant (pick (s == 2) Record Def))

abbrev pub sort_at : List ℕ → ℕ → Sort
sort_at ws d = pick (nat_lt d limit) (sort_by (word ws (d + 3))) Def

abbrev pub slot_of : List ℕ → ℕ → ℕ → Field → Slot
slot_of ws x k f = record { name = f.name.w; ty = type_is ws x (type_named ws x k f.ty.w) }

abbrev pub slots_of : List ℕ → ℕ → ℕ → List Field → List Slot
slots_of ws x k [] = []
slots_of ws x k (f ∷ fs) = slot_of ws x k f ∷ slots_of ws x k fs

abbrev pub declared_at : List ℕ → ℕ → ℕ → Declared
declared_at ws x d = record { file = file_name ws x (word ws d); name = decl_name ws d; sort = sort_at ws d; slots = slots_of ws x (word ws d) (decl_fields ws d); result = type_is ws x (type_named ws x (word ws d) (decl_type ws d)) }

-- all of it is known: of the k-th file's line before which the file has n declarations
abbrev pub meant : List ℕ → ℕ → Meaning → Sig
meant ws x Unknown = s_unknown
meant ws x Several = s_several
meant ws x (Found s) = sig_is (declared_at ws x s.0)

abbrev pub other_file : List ℕ → ℕ → ℕ → Word → Bool
other_file ws x k w = is_there (file_named ws x w) && not (same w (file_name ws x k))

abbrev pub known : List ℕ → ℕ → ℕ → ℕ → Query → Fetch Query
known ws x k n (q_here w) = has (k_sig (meant ws x (meaning ws x k w)))
known ws x k n (q_there f w) = has (k_sig (meant ws x (found_or (declared_in ws x f w) Unknown)))
known ws x k n (q_file w) = has (k_yes (other_file ws x k w))
known ws x k n (q_before w) = has (k_yes (is_there (own_before ws x k n w)))

-- the part of a row that is looked in
abbrev pub looked_in : ℕ → ℕ → List ℕ → List ℕ
looked_in from to ws = text_at ws from (to - from)

abbrev pub plain_book : List ℕ → ℕ → ℕ → ℕ → Book
plain_book ws x k n = record { types = origin ws x; sigs = declared_at ws x; knows = known ws x k n }
