-- What is true of what is said of a line, in words of the subject.
use Rattle.std.specs.Prelude.{◌≡◌, Bool, true, false, List, [], ◌∷◌, ◌++◌, ◌⊎◌, ℕ, ◌*◌, ◌≤◌, length}
use Rattle.std.proofs.Math.Option.{Option, some, none}
use Rattle.base.specs.Base.{Word, same}
use Rattle.lexer.specs.Tokens.{Tok, Line, pieces}
use Rattle.lexer.specs.Words.{is_name}
use Rattle.grammar.specs.Grammar.{E, e_num, e_name, e_call, e_field, e_op, e_if, e_let, e_par, Es, no, and_then, from_of, to_of, Field, Item, nothing, i_use, i_kind, i_rec, i_def, i_bad, item}
use Rattle.semantics.specs.Names.{File, Texts, find_file, Ty, Sig, s_unknown, s_several, s_type, s_const, s_rec, s_def}
use Rattle.semantics.specs.Check.{Fault, Typed, Link, faults_in, types_in, links_in, ty_in, Local, find, Look, check, locals, of_item}
use Rattle.semantics.specs.Answers.{faults, type_of, where_is}
use Rattle.semantics.specs.Read.{sources}

-- each of these is so; one of them is; x is one of them
abbrev pub Each : {A : Type 0} → (A → Type 0) → List A → Type 0
Each P [] = Unit {0}
Each P (x ∷ xs) = P x × Each P xs

abbrev pub One : {A : Type 0} → (A → Type 0) → List A → Type 0
One P [] = ⊥
One P (x ∷ xs) = P x ⊎ One P xs

abbrev pub Among : {A : Type 0} → A → List A → Type 0
Among x xs = One (λ y. x ≡ y) xs

-- an expression with the names bound in the line where it stands
pub record Part : Type 0 where
  pub locals : List Local
  pub expr : E

abbrev pub part : List Local → E → Part
part g e = record { locals = g; expr = e }

-- an expression and all within it. What is in brackets is a part, and so is it with the brackets
abbrev mutual
  pub parts : Look → (Word → Word → Sig) → List Local → E → List Part
  parts here there g (e_num t) = part g (e_num t) ∷ []
  parts here there g (e_name t) = part g (e_name t) ∷ []
  parts here there g (e_call f es n) = part g (e_call f es n) ∷ all_parts here there g es
  parts here there g (e_field e x) = part g (e_field e x) ∷ parts here there g e
  parts here there g (e_op o a b) = part g (e_op o a b) ∷ (parts here there g a ++ parts here there g b)
  parts here there g (e_if n a b c) = part g (e_if n a b c) ∷ (parts here there g a ++ (parts here there g b ++ parts here there g c))
  parts here there g (e_let n x a b) = part g (e_let n x a b) ∷ (parts here there g a ++ parts here there (record { name = x; ty = ty_in (check here there g a) } ∷ g) b)
  parts here there g (e_par n e m) = part g (e_par n e m) ∷ parts here there g e

  pub all_parts : Look → (Word → Word → Sig) → List Local → Es → List Part
  all_parts here there g no = []
  all_parts here there g (and_then e es) = parts here there g e ++ all_parts here there g es

-- the expressions of a line: those of a def's expression, in which its parameters are bound
abbrev pub item_parts : Look → (Word → Word → Sig) → Item → List Part
item_parts here there nothing = []
item_parts here there (i_use t) = []
item_parts here there (i_kind t cs) = []
item_parts here there (i_rec t fs) = []
item_parts here there (i_def t ps r e) = parts here there (locals here ps []) e
item_parts here there (i_bad a b) = []

-- the type that is said of a part
abbrev pub part_type : Look → (Word → Word → Sig) → Part → Option Ty
part_type here there p = ty_in (check here there p.locals p.expr)

-- a fault at the place of a part that has a type
abbrev pub Blamed : Look → (Word → Word → Sig) → Fault → Part → Type 0
Blamed here there f p = (t : Ty) × (part_type here there p ≡ some t) × (f.from ≡ from_of p.expr) × (f.to ≡ to_of p.expr)

-- What has no type isn't held against what is around it: wherever another type is wanted (fault 5), the fault stands at a part that has one.
abbrev pub UntypedUnblamed : Type 0
UntypedUnblamed =
    ((here : Look) (there : Word → Word → Sig) (g : List Local) (e : E) → Each (λ f. f.sort ≡ 5 → One (Blamed here there f) (parts here there g e)) (faults_in (check here there g e)))
    × ((me : Word) (here : Look) (there : Word → Word → Sig) (file_there : Word → Bool) (before : List Word) (it : Item) → Each (λ f. f.sort ≡ 5 → One (Blamed here there f) (item_parts here there it)) (faults_in (of_item me here there file_there before it)))

-- a noted type is that of a part, at the part's place
abbrev pub Notes : Look → (Word → Word → Sig) → Typed → Part → Type 0
Notes here there t p = (part_type here there p ≡ some t.ty) × (t.from ≡ from_of p.expr) × (t.to ≡ to_of p.expr)

-- Each type that is noted in a line is the type of an expression of the line, at its place.
abbrev pub TypesMean : Type 0
TypesMean = (me : Word) (here : Look) (there : Word → Word → Sig) (file_there : Word → Bool) (before : List Word) (it : Item) → Each (λ t. One (Notes here there t) (item_parts here there it)) (types_in (of_item me here there file_there before it))

-- All that is said of a line stands in it: of each fault, each typed part and each link, from ≤ to ≤ the line's length.
abbrev pub StandsIn : ℕ → ℕ → ℕ → Type 0
StandsIn n a b = (a ≤ b) × (b ≤ n)

abbrev pub WithinLine : Type 0
WithinLine = (me : Word) (here : Look) (there : Word → Word → Sig) (file_there : Word → Bool) (before : List Word) (l : Line) →
    Each (λ f. StandsIn (length l.bytes) f.from f.to) (faults_in (of_item me here there file_there before (item l)))
    × Each (λ t. StandsIn (length l.bytes) t.from t.to) (types_in (of_item me here there file_there before (item l)))
    × Each (λ k. StandsIn (length l.bytes) k.from k.to) (links_in (of_item me here there file_there before (item l)))

-- Each fault of a line has a number from 1 to 9, and it is 1 only where the line isn't understood, at the place where it isn't.
abbrev pub FaultNumbers : Type 0
FaultNumbers = (me : Word) (here : Look) (there : Word → Word → Sig) (file_there : Word → Bool) (before : List Word) (it : Item) →
    Each (λ f. (1 ≤ f.sort) × (f.sort ≤ 9) × (f.sort ≡ 1 → it ≡ i_bad f.from f.to)) (faults_in (of_item me here there file_there before it))

-- Of a line of n bytes there are said at most 2 * n faults, n types and n links.
abbrev pub LittleSaid : Type 0
LittleSaid = (me : Word) (here : Look) (there : Word → Word → Sig) (file_there : Word → Bool) (before : List Word) (l : Line) →
    (length (faults_in (of_item me here there file_there before (item l))) ≤ 2 * length l.bytes)
    × (length (types_in (of_item me here there file_there before (item l))) ≤ length l.bytes)
    × (length (links_in (of_item me here there file_there before (item l))) ≤ length l.bytes)

-- threes of numbers: from, behind, and a fault's number; in a text of n bytes
abbrev pub Threes : ℕ → List ℕ → Type 0
Threes n [] = Unit {0}
Threes n (a ∷ []) = ⊥
Threes n (a ∷ b ∷ []) = ⊥
Threes n (a ∷ b ∷ k ∷ xs) = ((a ≤ b) × (b ≤ n) × (1 ≤ k) × (k ≤ 9)) × Threes n xs

-- What is answered for the faults of a file are threes of numbers: a place in its text, and a number from 1 to 9.
abbrev pub FaultsInText : Type 0
FaultsInText = (p : Texts) (f : Word) (x : File) (ns : List ℕ) → find_file p f ≡ some x → faults p f ≡ some ns → Threes (length x.text) ns

-- what a name is declared as: by this file, under this name
abbrev pub Declared : Sig → Word → Word → Type 0
Declared s_unknown f n = ⊥
Declared s_several f n = ⊥
Declared (s_type g m) f n = (f ≡ g) × (n ≡ m)
Declared (s_const g m o) f n = (f ≡ g) × (n ≡ m)
Declared (s_rec g m ss) f n = (f ≡ g) × (n ≡ m)
Declared (s_def g m ss o) f n = (f ≡ g) × (n ≡ m)

-- where a name leads: to where it is bound in the line, if it is; else to what is declared under it
abbrev pub Leads : Sig → Option Local → Link → Type 0
Leads s none k = (k.sort ≡ 0) × Declared s k.file k.name
Leads s (some x) k = (k.sort ≡ 1) × (k.at ≡ x.name.from)

-- the name that an expression begins with, alone or called
abbrev pub name_in : E → Option Tok
name_in (e_num t) = none
name_in (e_name t) = some t
name_in (e_call f es n) = some f
name_in (e_field e x) = none
name_in (e_op o a b) = none
name_in (e_if n a b c) = none
name_in (e_let n x a b) = none
name_in (e_par n e m) = none

-- the words of a line that stand for types
abbrev pub field_types : List Field → List Tok
field_types [] = []
field_types (x ∷ xs) = x.ty ∷ field_types xs

abbrev pub type_words : Item → List Tok
type_words nothing = []
type_words (i_use t) = []
type_words (i_kind t cs) = []
type_words (i_rec t fs) = field_types fs
type_words (i_def t ps r e) = r ∷ field_types ps
type_words (i_bad a b) = []

-- what a link at piece t of a line says: t is the file that a use names, which is there and isn't this one; or t stands for a type,
-- and is declared so; or t is the name of a part of the line, alone or called, and leads there
abbrev pub Means : Word → Look → (Word → Word → Sig) → (Word → Bool) → Item → Tok → Link → Type 0
Means me here there file_there it t k =
    ((it ≡ i_use t) × (k.sort ≡ 2) × (k.file ≡ t.w) × (file_there t.w ≡ true) × (same t.w me ≡ false))
    ⊎ ((Among t (type_words it) × Leads (here t.w) none k)
    ⊎ One (λ p. (name_in p.expr ≡ some t) × Leads (here t.w) (find p.locals t.w) k) (item_parts here there it))

-- Each link of a line stands at a name, which is a piece of the line, and goes to what that name means there.
abbrev pub LinksMean : Type 0
LinksMean = (me : Word) (here : Look) (there : Word → Word → Sig) (file_there : Word → Bool) (before : List Word) (l : Line) →
    Each (λ k. (t : Tok) × Among t (pieces l) × (is_name t.w ≡ true) × (k.from ≡ t.from) × (k.to ≡ t.to) × Means me here there file_there (item l) t k) (links_in (of_item me here there file_there before (item l)))

-- What is bound in a line where an expression stands are names in pieces of that line: its parameters, and its lets.
abbrev pub BoundInLine : Type 0
BoundInLine = (here : Look) (there : Word → Word → Sig) (l : Line) → Each (λ p. Each (λ x. Among x.name (pieces l)) p.locals) (item_parts here there (item l))

-- What is answered depends on what the lines of files say, where they begin and how long they are, and on nothing else: where two projects
-- are alike in that, every answer is the same. So what stands in a note or between pieces is never looked at.
abbrev pub ItemsOnly : Type 0
ItemsOnly = (p q : Texts) → sources p ≡ sources q → (f : Word) → (faults p f ≡ faults q f) × ((n : ℕ) → type_of p f n ≡ type_of q f n) × ((n : ℕ) → where_is p f n ≡ where_is q f n)
