-- A text as lines, and a line as pieces (tokens), each with its place.
use Rattle.std.specs.Prelude.{ℕ, ◌+◌, ◌-◌, Bool, ◌&&◌, ◌||◌, List, [], ◌∷◌, ◌++◌, length, take, drop, ◌==◌, nat_le}
use Rattle.base.specs.Base.{pick, Word}

-- a piece with its place in its line: from, and behind it
pub record Tok : Type 0 where
  pub w : Word
  pub from : ℕ
  pub to : ℕ

abbrev pub tok : Word → ℕ → ℕ → Tok
tok w f t = record { w = w; from = f; to = t }

-- words of letters, digits and _; ==; any other byte by itself; # to the end is a note
abbrev pub letter : ℕ → Bool
letter c = (nat_le 97 c && nat_le c 122) || ((nat_le 65 c && nat_le c 90) || (c == 95 || (nat_le 48 c && nat_le c 57)))

abbrev pub blank : ℕ → Bool
blank c = c == 32 || (c == 13 || c == 9)

-- where the cutting of a line stands: between pieces; in a word that began there; behind a first =; in a note
pub data Mode : Type 0 where
  gap : Mode
  in_word : Word → ℕ → Mode
  equals : ℕ → Mode
  note : Mode

-- the pieces that a byte ends, and where the cutting stands behind it
pub record Turn : Type 0 where
  pub out : List Tok
  pub mode : Mode

abbrev pub turn : List Tok → Mode → Turn
turn o m = record { out = o; mode = m }

-- at: the place of byte c
abbrev pub fresh : List Tok → ℕ → ℕ → Turn
fresh o at c = pick (blank c) (turn o gap) (pick (c == 35) (turn o note) (pick (letter c) (turn o (in_word (c ∷ []) at)) (pick (c == 61) (turn o (equals at)) (turn (o ++ (tok (c ∷ []) at (at + 1) ∷ [])) gap))))

abbrev pub turns : Mode → ℕ → ℕ → Turn
turns gap at c = fresh [] at c
turns (in_word w f) at c = pick (letter c) (turn [] (in_word (w ++ (c ∷ [])) f)) (fresh (tok w f at ∷ []) at c)
turns (equals f) at c = pick (c == 61) (turn (tok (61 ∷ 61 ∷ []) f (at + 1) ∷ []) gap) (fresh (tok (61 ∷ []) f at ∷ []) at c)
turns note at c = turn [] note

-- the piece that the line's end ends
abbrev pub last1 : Mode → ℕ → List Tok
last1 gap at = []
last1 (in_word w f) at = tok w f at ∷ []
last1 (equals f) at = tok (61 ∷ []) f at ∷ []
last1 note at = []

-- the pieces of the bytes from a place on
abbrev pub toks : Mode → ℕ → List ℕ → List Tok
toks m at [] = last1 m at
toks m at (c ∷ cs) = let t = turns m at c in t.out ++ toks t.mode (at + 1) cs

-- a line: where it begins in its file, and how long it is
pub record Line : Type 0 where
  pub start : ℕ
  pub bytes : List ℕ

-- the lines of what is left of a text: s is where the line begins, acc its bytes so far
abbrev pub cut : ℕ → List ℕ → List ℕ → List Line
cut s acc [] = record { start = s; bytes = acc } ∷ []
cut s acc (c ∷ cs) = pick (c == 10) (record { start = s; bytes = acc } ∷ cut (1 + (s + length acc)) [] cs) (cut s (acc ++ (c ∷ [])) cs)

abbrev pub lines : List ℕ → List Line
lines t = cut 0 [] t

abbrev pub pieces : Line → List Tok
pieces l = toks gap 0 l.bytes

-- what is left of a line from a place on that isn't inside a piece
abbrev pub left : List ℕ → ℕ → List Tok
left l at = toks gap at (drop at l)

-- the piece of a line between two places
abbrev pub piece : List ℕ → ℕ → ℕ → Tok
piece l a b = tok (take (b - a) (drop a l)) a b

-- the word of the next piece, empty where there is none; and what is behind it
abbrev pub next : List Tok → Word
next [] = []
next (t ∷ ts) = t.w

abbrev pub tail1 : List Tok → List Tok
tail1 [] = []
tail1 (t ∷ ts) = ts

-- where the last piece ends
abbrev pub end_of : List Tok → ℕ
end_of [] = 0
end_of (t ∷ []) = t.to
end_of (t ∷ u ∷ ts) = end_of (u ∷ ts)
