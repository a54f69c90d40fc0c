-- Small rules, over cells that stand in words: a cell that is 0 is empty.
--
--   kind a b      what it's worth
--   0 a           an input: the word of cell a, or nothing if it's empty
--   1 a 0         1 if cell a is above 9, else 0
--   1 a b         the word of cell a, 0 if it's empty
--   2 n           how many of the first n cells are above 9
--   3 l s         a diamond of l levels: both keys of the level below added up, and s; at level 0, cells 0 and 1
--   4             cell 1 if cell 0 is 0, else cell 2: what is asked hangs on what was told
--
-- An answer to a question is one word, so the i-th stands at 2 i + 1 in the row that a rule is told.
use Rattle.std.specs.Prelude.{◌≡◌, ℕ, zero, suc, ◌+◌, ◌*◌, ◌%◌, List, [], ◌∷◌, length, ◌==◌, nat_le, nat_lt, slice_index}
use Rattle.engine.specs.declared.key.Key.{Key}
use Rattle.base.specs.Base.{pick}
use Rattle.engine.specs.Engine.{Then, ask, done, Rules, Inputs}
use Rattle.engine.specs.Says.{row}
use Rattle.trials.specs.declared.small.Next.{Next}
use Rattle.trials.specs.declared.small.Next.TheVariants.{Ask, Done}

abbrev pub key : ℕ → ℕ → ℕ → Key
key n a b = record { kind = n; a = a; b = b }

-- the answer to the i-th question, and the sum of the first n
abbrev pub got_at : List ℕ → ℕ → ℕ
got_at ws i = slice_index ws (2 * i + 1)

abbrev pub sum : ℕ → List ℕ → ℕ
sum zero ws = 0
sum (suc n) ws = (sum n ws + got_at ws n) % 65536

-- one of the two keys below a level
abbrev pub below : ℕ → ℕ → Key
below zero s = key 1 s 1
below (suc l) s = key 3 l s

-- what a rule does next, told n answers in the row ws
abbrev pub step : ℕ → ℕ → ℕ → ℕ → List ℕ → Then
step zero a b n ws = done (0 ∷ [])
step (suc zero) a b n ws = pick (n == 0) (ask (key 0 a 0)) (done (pick (b == 0) (pick (nat_le 10 (got_at ws 0)) 1 0) (got_at ws 0) ∷ []))
step (suc (suc zero)) a b n ws = pick (nat_lt n a) (ask (key 1 n 0)) (done (sum n ws ∷ []))
step (suc (suc (suc zero))) a b n ws = pick (nat_lt n 2) (ask (below (a % 64) n)) (done ((sum n ws + b) % 65536 ∷ []))
step (suc (suc (suc (suc zero)))) a b n ws = pick (n == 0) (ask (key 1 0 1)) (pick (n == 1) (ask (key 1 (pick (got_at ws 0 == 0) 1 2) 1)) (done (got_at ws 1 ∷ [])))
step (suc (suc (suc (suc (suc m))))) a b n ws = done (0 ∷ [])

abbrev pub rank_of : ℕ → ℕ → ℕ
rank_of zero a = 0
rank_of (suc zero) a = 1
rank_of (suc (suc zero)) a = 2
rank_of (suc (suc (suc zero))) a = 2 + a % 64
rank_of (suc (suc (suc (suc zero)))) a = 2
rank_of (suc (suc (suc (suc (suc m))))) a = 0

abbrev pub most_of : ℕ → ℕ → ℕ
most_of zero a = 0
most_of (suc zero) a = 1
most_of (suc (suc zero)) a = a
most_of (suc (suc (suc zero))) a = 2
most_of (suc (suc (suc (suc zero)))) a = 2
most_of (suc (suc (suc (suc (suc m))))) a = 0

abbrev pub small : Rules
small = record { input = λ k. (k.kind == 0); next = λ k as₁. step k.kind k.a k.b (length as₁) (row as₁); rank = λ k. rank_of k.kind k.a; most = λ k. most_of k.kind k.a }

-- the cells, as inputs
abbrev pub cells : List ℕ → Inputs
cells ws k = pick (slice_index ws k.a == 0) [] (slice_index ws k.a ∷ [])

-- what a rule of these does, in code
abbrev pub NextSays : Then → Next → Type 0
NextSays t (Ask q) = t ≡ ask q
NextSays t (Done v) = t ≡ done (v ∷ [])
