-- Rows of bytes by number, with an index by hash: what the words stand for, and what makes a search right.
--
--   word                      what stands there
--   0                         how many numbers there are: each is less
--   1                         where the pool ends
--   2 ..                      for each of nb buckets the number that it was given last, or 0
--   2 + nb + 2 * n            for each number n < cap the place of its bytes in the pool, 0 where the number is free
--   2 + nb + 2 * n + 1        and the next older number of its bucket, or 0
--   2 + nb + 2 * cap ..       the pool: a length and so many words, again and again
--   from the pool's end on    free
--
-- The pool only grows. Number 0 is never used, and its place is 0: a chain ends there. Along a chain places fall, so a search ends, and
-- the index is right by facts over all numbers, ordered by place: nothing is said of what can be reached.
use Rattle.std.specs.Prelude.{◌≡◌, ℕ, ◌+◌, ◌*◌, ◌%◌, ◌<◌, ◌≤◌, List, [], ◌∷◌, length, take, drop, slice_index, slice_set}

-- a number for a row of words; h is that of the words before
abbrev pub hash_from : ℕ → List ℕ → ℕ
hash_from h [] = h
hash_from h (c ∷ cs) = hash_from ((h * 31 + c) % 16777213) cs

abbrev pub count : List ℕ → ℕ
count m = slice_index m 0

abbrev pub end : List ℕ → ℕ
end m = slice_index m 1

abbrev pub head : List ℕ → ℕ → ℕ
head m b = slice_index m (2 + b)

abbrev pub place : ℕ → List ℕ → ℕ → ℕ
place nb m n = slice_index m (2 + nb + 2 * n)

abbrev pub link : ℕ → List ℕ → ℕ → ℕ
link nb m n = slice_index m (2 + nb + 2 * n + 1)

abbrev pub pool : ℕ → ℕ → ℕ
pool nb cap = 2 + nb + 2 * cap

-- the words at a place of the pool, and those that a number stands for
abbrev pub bytes_at : List ℕ → ℕ → List ℕ
bytes_at m p = take (slice_index m p) (drop (p + 1) m)

abbrev pub bytes : ℕ → List ℕ → ℕ → List ℕ
bytes nb m n = bytes_at m (place nb m n)

-- c numbers, and chains over them by heads, places, links and bytes: a chain keeps to its bucket, places fall along it, a head is the newest
-- of its bucket, nothing lies between a number and its link, and no two numbers have the same bytes
pub record Chained (nb c : ℕ) (hd pl nx : ℕ → ℕ) (by : ℕ → List ℕ) : Type 0 where
  pub buckets : 0 < nb
  pub zero_row : (0 < c) × (pl 0 ≡ 0)
  pub heads : (b : ℕ) → b < nb → (hd b < c) × (0 < hd b → 0 < pl (hd b)) × (0 < pl (hd b) → hash_from 0 (by (hd b)) % nb ≡ b)
  pub links : (n : ℕ) → n < c → 0 < pl n → (nx n < c) × (pl (nx n) < pl n) × (0 < nx n → 0 < pl (nx n)) × (0 < pl (nx n) → hash_from 0 (by (nx n)) % nb ≡ hash_from 0 (by n) % nb)
  pub newest : (n : ℕ) → n < c → 0 < pl n → pl n ≤ pl (hd (hash_from 0 (by n) % nb))
  pub older : (n k : ℕ) → n < c → 0 < pl n → k < c → 0 < pl k → hash_from 0 (by n) % nb ≡ hash_from 0 (by k) % nb → pl k < pl n → pl k ≤ pl (nx n)
  pub apart : (n k : ℕ) → n < c → 0 < pl n → k < c → 0 < pl k → by n ≡ by k → n ≡ k

-- a row of words is in order: each place is that of bytes in the pool, and the chains are right
pub record Sound (nb cap : ℕ) (m : List ℕ) : Type 0 where
  pub counted : count m ≤ cap
  pub pool_from : pool nb cap ≤ end m
  pub pool_to : end m ≤ length m
  pub small : length m < 4294967296
  pub places : (n : ℕ) → n < count m → 0 < place nb m n → (pool nb cap ≤ place nb m n) × (place nb m n + 1 + slice_index m (place nb m n) ≤ end m)
  pub chained : Chained nb (count m) (head m) (place nb m) (link nb m) (bytes nb m)

-- a number in use
abbrev pub Live : ℕ → List ℕ → ℕ → Type 0
Live nb m n = (n < count m) × (0 < place nb m n)

-- those in use are in use still, with their bytes
abbrev pub Grown : ℕ → List ℕ → List ℕ → Type 0
Grown nb m m' = (k : ℕ) → Live nb m k → Live nb m' k × (bytes nb m' k ≡ bytes nb m k)

-- what stands in the pool stays
pub record Pooled (nb cap : ℕ) (m m' : List ℕ) : Type 0 where
  pub longer : end m ≤ end m'
  pub same_words : (i : ℕ) → pool nb cap ≤ i → i < end m → slice_index m' i ≡ slice_index m i

-- n's row and its chain's new head written, with where the pool ends now and how many numbers there are
abbrev pub entered : ℕ → ℕ → ℕ → ℕ → ℕ → ℕ → List ℕ → List ℕ
entered nb b n p e c m = slice_set (slice_set (slice_set (slice_set (slice_set m (2 + nb + 2 * n) p) (2 + nb + 2 * n + 1) (head m b)) (2 + b) n) 1 e) 0 c

-- the words from one place up to another stay
abbrev pub Same : ℕ → ℕ → List ℕ → List ℕ → Type 0
Same a b m m' = (i : ℕ) → a ≤ i → i < b → slice_index m' i ≡ slice_index m i

-- no more numbers than before
pub record NoMore (nb : ℕ) (m m' : List ℕ) : Type 0 where
  pub counts : count m' ≡ count m
  pub only : (k : ℕ) → Live nb m' k → Live nb m k × (bytes nb m' k ≡ bytes nb m k)
