-- What is true of reading lines, in words of the subject.
use Rattle.std.specs.Prelude.{◌≡◌, true, List, [], ◌∷◌, ◌++◌, ◌⊎◌, ℕ, ◌+◌, ◌*◌, ◌≤◌, length}
use Rattle.base.specs.Base.{Word}
use Rattle.lexer.specs.Tokens.{Tok, tok, end_of, blank, toks, gap}
use Rattle.grammar.specs.Grammar.{E, Es, no, and_then, e_num, e_name, e_call, e_field, e_op, e_if, e_let, e_par, Field, Item, nothing, i_use, i_kind, i_rec, i_def, i_bad, expr, reads1, settled, item_of}

-- The number that bounds how deep calls go says nothing of what is read, once it is at least 10 for each piece and 10 more:
-- an expression is read alike at any two such numbers, so is a line, and what a line says is what is read at any such number.
abbrev pub DepthEnough : Type 0
DepthEnough =
    ((n m : ℕ) (ts : List Tok) → 10 * length ts + 10 ≤ n → 10 * length ts + 10 ≤ m → expr n ts ≡ expr m ts)
    × ((n m : ℕ) (t : Tok) (ts : List Tok) → 10 * length ts + 10 ≤ n → 10 * length ts + 10 ≤ m → reads1 n t ts ≡ reads1 m t ts)
    × ((n : ℕ) (t : Tok) (ts : List Tok) → 10 * length ts + 10 ≤ n → item_of (t ∷ ts) ≡ settled (t ∷ ts) (reads1 n t ts))

-- one of these pieces goes from a to b
abbrev pub PieceAt : ℕ → ℕ → List Tok → Type 0
PieceAt a b ts = (us : List Tok) × (t : Tok) × (vs : List Tok) × (ts ≡ us ++ (t ∷ vs)) × (a ≡ t.from) × (b ≡ t.to)

-- Where a line isn't understood, the place is one of its pieces, or the end of its last piece.
abbrev pub WrongPlace : Type 0
WrongPlace = (ts : List Tok) (a b : ℕ) → item_of ts ≡ i_bad a b → PieceAt a b ts ⊎ ((a ≡ end_of ts) × (b ≡ end_of ts))

-- what a line says with every place set to 0
abbrev pub bare_tok : Tok → Tok
bare_tok t = tok t.w 0 0

abbrev pub bares : List Tok → List Tok
bares [] = []
bares (t ∷ ts) = bare_tok t ∷ bares ts

abbrev mutual
  pub bare_e : E → E
  bare_e (e_num t) = e_num (bare_tok t)
  bare_e (e_name t) = e_name (bare_tok t)
  bare_e (e_call f es n) = e_call (bare_tok f) (bare_es es) 0
  bare_e (e_field e x) = e_field (bare_e e) (bare_tok x)
  bare_e (e_op o a b) = e_op o (bare_e a) (bare_e b)
  bare_e (e_if n a b c) = e_if 0 (bare_e a) (bare_e b) (bare_e c)
  bare_e (e_let n x a b) = e_let 0 (bare_tok x) (bare_e a) (bare_e b)
  bare_e (e_par n e m) = e_par 0 (bare_e e) 0

  pub bare_es : Es → Es
  bare_es no = no
  bare_es (and_then e es) = and_then (bare_e e) (bare_es es)

abbrev pub bare_fields : List Field → List Field
bare_fields [] = []
bare_fields (x ∷ xs) = record { name = bare_tok x.name; ty = bare_tok x.ty } ∷ bare_fields xs

abbrev pub bare : Item → Item
bare nothing = nothing
bare (i_use t) = i_use (bare_tok t)
bare (i_kind t cs) = i_kind (bare_tok t) (bares cs)
bare (i_rec t fs) = i_rec (bare_tok t) (bare_fields fs)
bare (i_def t ps r e) = i_def (bare_tok t) (bare_fields ps) (bare_tok r) (bare_e e)
bare (i_bad a b) = i_bad 0 0

-- the words of pieces
abbrev pub words : List Tok → List Word
words [] = []
words (t ∷ ts) = t.w ∷ words ts

-- What a line says depends on the words of its pieces only, but for places.
abbrev pub WordsOnly : Type 0
WordsOnly = (ts us : List Tok) → words ts ≡ words us → bare (item_of ts) ≡ bare (item_of us)

-- no piece lies over the border behind n bytes: each ends there or before, or begins there or behind
abbrev pub Apart : ℕ → List Tok → Type 0
Apart n [] = Unit {0}
Apart n (t ∷ ts) = ((t.to ≤ n) ⊎ (n ≤ t.from)) × Apart n ts

-- A blank may be put in wherever it is not inside a piece: at a line's beginning or end, beside a blank, between two pieces, in a note.
-- The words of the pieces stay the same, and so does what the line says, but for places.
abbrev pub BlanksFree : Type 0
BlanksFree = (c : ℕ) (xs ys : List ℕ) → blank c ≡ true → Apart (length xs) (toks gap 0 (xs ++ ys)) →
    (words (toks gap 0 (xs ++ (c ∷ ys))) ≡ words (toks gap 0 (xs ++ ys)))
    × (bare (item_of (toks gap 0 (xs ++ (c ∷ ys)))) ≡ bare (item_of (toks gap 0 (xs ++ ys))))
