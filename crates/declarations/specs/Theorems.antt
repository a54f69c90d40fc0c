-- What is true of the names that a line declares.
use Rattle.std.specs.Prelude.{◌≡◌, ℕ, List, []}
use Rattle.lexer.specs.Tokens.{Tok, Line, pieces}
use Rattle.grammar.specs.Grammar.{Field, i_bad, item}
use Rattle.semantics.specs.Names.{Decl, decls_item}
use Rattle.semantics.specs.Theorems.{Each, One, Among}

-- a piece names what is declared: its word and its place are the declaration's
abbrev pub Names : Decl → Tok → Type 0
Names d t = (d.name ≡ t.w) × (d.from ≡ t.from) × (d.to ≡ t.to)

-- a field's name and its type's word are pieces
abbrev pub FieldIn : List Tok → Field → Type 0
FieldIn ts f = Among f.name ts × Among f.ty ts

-- what is declared stands in pieces: its name, its type's word, and its fields
abbrev pub DeclIn : List Tok → Decl → Type 0
DeclIn ts d = One (Names d) ts × One (λ t. d.ty ≡ t.w) ts × Each (FieldIn ts) d.fields

-- Whatever a line declares stands in the line's own pieces, and a line that isn't understood declares nothing.
abbrev pub DeclaredInLine : Type 0
DeclaredInLine =
    ((s : ℕ) (l : Line) → Each (DeclIn (pieces l)) (decls_item s (item l)))
    × ((s : ℕ) (l : Line) (a b : ℕ) → item l ≡ i_bad a b → decls_item s (item l) ≡ [])
