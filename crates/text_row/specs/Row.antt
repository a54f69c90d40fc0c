-- One row of words for all: parts of it by their places.
use Rattle.std.specs.Prelude.{ℕ, ◌+◌, ◌*◌, List}
use Rattle.std.specs.List.{between}

-- v words for a table of files; nine times as many for lines by number and files' records: v buckets, 2 * v numbers, and a pool
abbrev pub table : ℕ → ℕ → List ℕ → List ℕ
table v t m = between t (t + v) m

abbrev pub half : ℕ → ℕ → List ℕ → List ℕ
half v a m = between a (a + 9 * v) m
