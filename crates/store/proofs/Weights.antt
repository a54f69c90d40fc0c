-- What a file costs in words, in its weight: two words a byte and some.
use Rattle.std.proofs.Common.{ℕ, ◌+◌, ◌*◌, ◌≤◌, List, [], ◌∷◌, length, arith, length-append}
use Rattle.interner.specs.Lines.{tails, joined}

-- a line: its length and its bytes in the pool, and its number in the file's record
abbrev pub costs : List (List ℕ) → ℕ
costs [] = 0
costs (l ∷ ls) = (2 + length l) + costs ls

pub tails_costs : (ls : List (List ℕ)) → costs ls ≤ 2 * length (tails ls)
tails_costs [] = omega arith
tails_costs (l ∷ ls) = let h = tails_costs ls in let e = length-append l (tails ls) in omega arith

pub joined_costs : (l : List ℕ) (ls : List (List ℕ)) → costs (l ∷ ls) ≤ 2 * length (joined (l ∷ ls)) + 2
joined_costs l ls = let h = tails_costs ls in let e = length-append l (tails ls) in omega arith

-- with its name, its record's two words and its place in the table
pub file_costs : (name l : List ℕ) (ls : List (List ℕ)) → (1 + length name) + 3 + costs (l ∷ ls) ≤ 2 * (16 + (length name + length (joined (l ∷ ls))))
file_costs name l ls = let h = joined_costs l ls in omega arith
