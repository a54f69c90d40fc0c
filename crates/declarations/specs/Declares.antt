-- What the code says of the names that a line declares, against the definition's declarations.
use Rattle.std.specs.Prelude.{◌≡◌, ℕ, ◌≤◌, List, [], ◌∷◌, length, Some, None, Option, ◌≢◌}
use Rattle.std.specs.List.{slice_get}
use Rattle.lexer.specs.Tokens.{Tok}
use Rattle.lexer.specs.declared.reader.Piece.{Piece}
use Rattle.grammar.specs.Grammar.{Field, Item as Meant, nothing, i_use, i_kind, i_rec, i_def, i_bad}
use Rattle.grammar.specs.Code.{slots_onto, o_const, o_slot}
use Rattle.semantics.specs.Names.{Decl, decl, decls_item, uses_item}
use Rattle.semantics.specs.Numbers.{sort_number}
use Rattle.parser.specs.Rows.{ops, op_is}
use Rattle.parser.specs.declared.code.Span.{Span}
use Rattle.parser.specs.declared.code.Op.{Op}
use Rattle.parser.specs.declared.code.Op.TheVariants.{Const, Slot}
use Rattle.syntax.specs.View.{piece_of, ViewSays}
use Rattle.syntax.specs.declared.view.Item.{Item}
use Rattle.declarations.specs.declared.declare.Declaration.{Declaration}
use Rattle.declarations.specs.declared.fields.FieldAt.{FieldAt}

-- the name of the constant that an operation is, or it is none
abbrev pub ConstSays : Op → Option Span → Type 0
ConstSays op (Some s) = op ≡ Const s
ConstSays op None = (line : List ℕ) (t : Tok) → op_is line op ≢ o_const t

-- the places of the field that an operation is, or it is none
abbrev pub SlotSays : Op → Option (Span × Span) → Type 0
SlotSays op (Some p) = op ≡ Slot p.0 p.1
SlotSays op None = (line : List ℕ) (f : Field) → op_is line op ≢ o_slot f

-- d is the definition's declaration x of a line that begins at 0: its name and places, its sort, its type's word, and the fields whose operations it has
abbrev pub DeclSays : List ℕ → Decl → Declaration → Type 0
DeclSays line x d = (fs : List Field) × (x ≡ decl 0 (piece_of d.name) (sort_number d.sort) d.ty.text.now fs) × (ops line d.fields.code.now ≡ slots_onto fs []) × (d.fields.line.now ≡ line)

-- the i-th of these declarations, or there are no more than i
abbrev pub AtSays : List ℕ → List Decl → ℕ → Option Declaration → Type 0
AtSays line ds i (Some d) = (x : Decl) × (slice_get ds i ≡ Some x) × DeclSays line x d
AtSays line ds i None = length ds ≤ i

-- the i-th name that is declared by the line of which this is the view, whatever line and item it is the view of
abbrev pub DeclaredSays : Item → ℕ → Option Declaration → Type 0
DeclaredSays view i r = (line : List ℕ) (it : Meant) → ViewSays line it view → AtSays line (decls_item 0 it) i r

-- how many names it declares
abbrev pub CountSays : Item → ℕ → Type 0
CountSays view n = (line : List ℕ) (it : Meant) → ViewSays line it view → n ≡ length (decls_item 0 it)

-- the piece of the type that all have which an item declares: of a kind and its constants the kind's name, of a record its own, of a def
-- its result's
abbrev pub TypeWord : Meant → Tok → Type 0
TypeWord nothing t = ⊥
TypeWord (i_use u) t = ⊥
TypeWord (i_kind k cs) t = t ≡ k
TypeWord (i_rec n fs) t = t ≡ n
TypeWord (i_def n ps r e) t = t ≡ r
TypeWord (i_bad a b) t = ⊥

-- that piece, or the item declares nothing
abbrev pub TypeSays : Meant → Option Piece → Type 0
TypeSays it (Some p) = TypeWord it (piece_of p)
TypeSays it None = decls_item 0 it ≡ []

-- that piece of the line of which this is the view, whatever line and item it is the view of
abbrev pub TypedSays : Item → Option Piece → Type 0
TypedSays view r = (line : List ℕ) (it : Meant) → ViewSays line it view → TypeSays it r

-- the file that an item uses, with the piece that names it, or it uses none
abbrev pub FileSays : Meant → Option Piece → Type 0
FileSays it (Some p) = (it ≡ i_use (piece_of p)) × (uses_item it ≡ p.text.now ∷ [])
FileSays it None = uses_item it ≡ []

-- the file that is used by the line of which this is the view, whatever line and item it is the view of
abbrev pub UsedSays : Item → Option Piece → Type 0
UsedSays view r = (line : List ℕ) (it : Meant) → ViewSays line it view → FileSays it r

-- the i-th of these fields, or there are no more than i
abbrev pub FieldSays : List Field → ℕ → Option FieldAt → Type 0
FieldSays fs i (Some f) = slice_get fs i ≡ Some (record { name = piece_of f.name; ty = piece_of f.ty })
FieldSays fs i None = length fs ≤ i
