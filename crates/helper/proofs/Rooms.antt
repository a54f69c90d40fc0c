-- How much room texts take at most.
use Rattle.std.proofs.Common.{◌+◌, ◌*◌, ◌≤◌, [], ◌∷◌, arith}
use native.Mathlib.Nat.{max-le}
use Rattle.semantics.specs.Names.{Texts}
use Rattle.semantics.specs.Answers.{weigh_texts}
use Rattle.helper.specs.Says.{largest, room}

largest_le : (p : Texts) → largest p ≤ weigh_texts p
largest_le [] = omega arith
largest_le (x ∷ xs) = let h : largest xs ≤ weigh_texts xs = largest_le xs in max-le (omega arith) (omega arith)

pub room_le : (p : Texts) → room p ≤ 65536 + 512 * weigh_texts p
room_le p = let h = largest_le p in omega arith
