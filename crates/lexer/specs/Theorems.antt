-- What holds of the pieces of every line.
use Rattle.std.specs.Prelude.{◌≡◌, ℕ, ◌+◌, ◌-◌, ◌<◌, ◌≤◌, Bool, ◌&&◌, ◌||◌, List, [], ◌∷◌, length, take, drop, nat_eq, nat_le, nat_lt, slice_index}
use Rattle.base.specs.Base.{pick, any_of}
use Rattle.lexer.specs.Tokens.{Tok, gap, toks, blank}

-- a piece that stands in the line, at or behind a place, and whose word is the bytes between its places
pub record Lies (line : List ℕ) (at : ℕ) (t : Tok) : Type 0 where
  pub behind : at ≤ t.from
  pub some_bytes : t.from < t.to
  pub within : t.to ≤ length line
  pub bytes : t.w ≡ take (t.to - t.from) (drop t.from line)

-- each at or behind the end of the one before
abbrev pub Rising : List ℕ → ℕ → List Tok → Type 0
Rising line at [] = Unit
Rising line at (t ∷ ts) = Lies line at t × Rising line t.to ts

-- the pieces of a line stand in it one behind the other, and hold its bytes
abbrev pub PiecesRise : Type 0
PiecesRise = (line : List ℕ) → Rising line 0 (toks gap 0 line)

-- 1 if a byte lies between two places, else 0
abbrev pub between : ℕ → ℕ → ℕ → ℕ
between from to i = pick (nat_le from i && nat_lt i to) 1 0

-- in how many pieces a byte lies
abbrev pub pieces_at : ℕ → List Tok → ℕ
pieces_at i [] = 0
pieces_at i (t ∷ ts) = between t.from t.to i + pieces_at i ts

-- whether a byte stands in a note: it is a #, or one stands before it
abbrev pub in_note : List ℕ → ℕ → Bool
in_note line i = any_of (λ c. nat_eq c 35) (take (i + 1) line)

-- a byte that is blank or stands in a note lies in no piece, and every other in exactly one
abbrev pub BytesCovered : Type 0
BytesCovered = (line : List ℕ) (i : ℕ) → i < length line → pieces_at i (toks gap 0 line) ≡ pick (blank (slice_index line i) || in_note line i) 0 1
