-- The symbol table in words: what files declare, and which files they use. It stands in a row from a place x on; places are counted from
-- the row's beginning.
--
--   word             what stands there
--   x                how many files
--   x + 1 + 6 * k    of the k-th file: where its name stands, and its length; where the list of the files that it uses stands, and how many
--                    they are; where its declarations begin, and how many they are
--
--   word of a declaration d    what stands there
--   0                          its file's place in the order of files
--   1                          where its line begins in the file
--   2                          where its line's bytes stand in the row
--   3                          its sort: 0 a kind, 1 a constant, 2 a record, 3 a def
--   4 5                        its name's place in the line
--   6 7                        its type's word's place in the line
--   8                          how many fields or parameters it has
--   9 ..                       of each its name's place and its type's word's place, four words
--
-- Declarations of a file stand one behind the other. All is read as it stands, 0 past the row's end: what the words say is defined for
-- any row.
use Rattle.std.specs.Prelude.{ℕ, zero, suc, ◌+◌, ◌-◌, ◌*◌, List, [], ◌∷◌, take, drop, slice_index}
use Rattle.base.specs.Base.{Word}
use Rattle.lexer.specs.Tokens.{Tok, tok}
use Rattle.grammar.specs.Grammar.{Field}
use Rattle.semantics.specs.Names.{Decl}

abbrev pub word : List ℕ → ℕ → ℕ
word ws i = slice_index ws i

-- so many words from a place on
abbrev pub text_at : List ℕ → ℕ → ℕ → Word
text_at ws from len = take len (drop from ws)

-- what stands between two places of a line that begins at l
abbrev pub part_at : List ℕ → ℕ → ℕ → ℕ → Word
part_at ws l a b = take (b - a) (drop (l + a) ws)

-- the k-th file's words: its name, the files that it uses, its declarations
abbrev pub file_row : ℕ → ℕ → ℕ
file_row x k = x + 1 + 6 * k

abbrev pub file_name : List ℕ → ℕ → ℕ → Word
file_name ws x k = text_at ws (word ws (file_row x k)) (word ws (file_row x k + 1))

abbrev pub used_in : List ℕ → ℕ → ℕ → List ℕ
used_in ws x k = text_at ws (word ws (file_row x k + 2)) (word ws (file_row x k + 3))

abbrev pub first_decl : List ℕ → ℕ → ℕ → ℕ
first_decl ws x k = word ws (file_row x k + 4)

abbrev pub decl_count : List ℕ → ℕ → ℕ → ℕ
decl_count ws x k = word ws (file_row x k + 5)

-- a declaration's name, its type's word, and its fields
abbrev pub decl_name : List ℕ → ℕ → Word
decl_name ws d = part_at ws (word ws (d + 2)) (word ws (d + 4)) (word ws (d + 5))

abbrev pub decl_type : List ℕ → ℕ → Word
decl_type ws d = part_at ws (word ws (d + 2)) (word ws (d + 6)) (word ws (d + 7))

abbrev pub tok_at : List ℕ → ℕ → ℕ → Tok
tok_at ws l i = tok (part_at ws l (word ws i) (word ws (i + 1))) (word ws i) (word ws (i + 1))

abbrev pub fields_at : List ℕ → ℕ → ℕ → ℕ → List Field
fields_at ws l zero i = []
fields_at ws l (suc n) i = record { name = tok_at ws l i; ty = tok_at ws l (i + 2) } ∷ fields_at ws l n (i + 4)

abbrev pub decl_fields : List ℕ → ℕ → List Field
decl_fields ws d = fields_at ws (word ws (d + 2)) (word ws (d + 8)) (d + 9)

abbrev pub decl_at : List ℕ → ℕ → Decl
decl_at ws d = record { name = decl_name ws d; start = word ws (d + 1); from = word ws (d + 4); to = word ws (d + 5); sort = word ws (d + 3); ty = decl_type ws d; fields = decl_fields ws d }

-- how many words it takes, and n of them from one on
abbrev pub decl_long : List ℕ → ℕ → ℕ
decl_long ws d = 9 + 4 * word ws (d + 8)

abbrev pub decls_from : List ℕ → ℕ → ℕ → List Decl
decls_from ws zero d = []
decls_from ws (suc n) d = decl_at ws d ∷ decls_from ws n (d + decl_long ws d)
