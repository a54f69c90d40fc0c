-- A record: the entry of a key in words.
--
--   word      what stands there
--   0 1 2     the key: kind, a, b
--   3         the depth of the next older record of its bucket, 0 if there is none
--   4         how many words the answer has
--   5         how many questions it asked
--   6         how many words the row of their answers has
--   7 ..      the answer; the keys asked, three words each; the row: each answer with its length before it
--
-- The row is what a rule is told, word for word, so a record is written by copying three rows and read without moving anything.
use Rattle.std.specs.Prelude.{ℕ, zero, suc, ◌+◌, ◌-◌, ◌*◌, List, [], ◌∷◌, ◌++◌, length, take, drop, slice_index}
use Rattle.engine.specs.declared.key.Key.{Key}
use Rattle.engine.specs.Engine.{Ans, Got, Entry}

-- the key that stands at the front of these words
abbrev pub key_of : List ℕ → Key
key_of ws = record { kind = slice_index ws 0; a = slice_index ws 1; b = slice_index ws 2 }

-- n questions with their answers, from their keys, three words each, and from the row of answers, each with its length before it
abbrev pub gots_of : ℕ → List ℕ → List ℕ → List Got
gots_of zero ks row = []
gots_of (suc n) ks row = record { key = key_of ks; ans = take (slice_index row 0) (drop 1 row) } ∷ gots_of n (drop 3 ks) (drop (1 + slice_index row 0) row)

-- how many words of a row n answers take
abbrev pub row_long : ℕ → List ℕ → ℕ
row_long zero row = 0
row_long (suc n) row = (1 + slice_index row 0) + row_long n (drop (1 + slice_index row 0) row)

-- how many words the record at the front takes
abbrev pub size : List ℕ → ℕ
size ws = 7 + (slice_index ws 4 + (3 * slice_index ws 5 + slice_index ws 6))

-- the keys that the record at the front asked, and what is behind them
abbrev pub keys_in : List ℕ → List ℕ
keys_in ws = drop (7 + slice_index ws 4) ws

-- the row of the answers that it got, and what is behind it
abbrev pub row_in : List ℕ → List ℕ
row_in ws = drop (7 + (slice_index ws 4 + 3 * slice_index ws 5)) ws

-- the entry that the record at the front holds
unfoldable pub entry_of : List ℕ → Entry
entry_of ws = record { key = key_of ws; ans = take (slice_index ws 4) (drop 7 ws); gots = gots_of (slice_index ws 5) (keys_in ws) (row_in ws) }

-- what is behind the record at the front: the next older records
abbrev pub older : List ℕ → List ℕ
older ws = drop (size ws) ws

-- the entries of the n records from the front on, the newest first
abbrev pub records : ℕ → List ℕ → List Entry
records zero ws = []
records (suc n) ws = entry_of ws ∷ records n (older ws)

-- the last d words of a row: what stands at the depth d
abbrev pub deep : ℕ → List ℕ → List ℕ
deep d ws = drop (length ws - d) ws

-- words put over others, from the place i on
abbrev pub puts : ℕ → List ℕ → List ℕ → List ℕ
puts i xs ws = take i ws ++ (xs ++ drop (i + length xs) ws)

-- a record in words
abbrev pub packed : Key → ℕ → List ℕ → ℕ → List ℕ → List ℕ → List ℕ
packed k prev ans n keys row = k.kind ∷ k.a ∷ k.b ∷ prev ∷ length ans ∷ n ∷ length row ∷ (ans ++ (keys ++ row))

-- how many words questions with their answers take in a record, an entry as a record, and entries one after the other
abbrev pub gots_long : List Got → ℕ
gots_long [] = 0
gots_long (g ∷ gs) = (4 + length g.ans) + gots_long gs

abbrev pub entry_long : Entry → ℕ
entry_long e = 7 + (length e.ans + gots_long e.gots)

abbrev pub entries_long : List Entry → ℕ
entries_long [] = 0
entries_long (e ∷ es) = entry_long e + entries_long es

-- an entry from its parts
abbrev pub made : Key → Ans → List Got → Entry
made k a gs = record { key = k; ans = a; gots = gs }
