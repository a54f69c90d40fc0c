-- Answers given: numbers at the front of what is lent, o before and o' after.
use Rattle.std.specs.Prelude.{◌≡◌, ℕ, ◌+◌, ◌*◌, ◌<◌, List, length, take, drop, Ok, Err, Result}
use Rattle.findings.specs.declared.give.Short.{Short}
use Rattle.findings.specs.Gathered.{gathered}

-- all of the answer a, or nothing where it is longer than what is lent
abbrev pub GivenSays : List ℕ → List ℕ → List ℕ → Result ℕ Short → Type 0
GivenSays a o o' (Ok n) = (n ≡ length a) × (take n o' ≡ a) × (drop n o' ≡ drop n o)
GivenSays a o o' (Err s) = (s.0 ≡ length a) × (length o < s.0) × (o' ≡ o)

-- a row put at a place of another
pub record Put (row1 : List ℕ) (k : ℕ) (o o' : List ℕ) : Type 0 where
  pub long : length o' ≡ length o
  pub before : take k o' ≡ take k o
  pub within : take (length row1) (drop k o') ≡ row1
  pub behind : drop (k + length row1) o' ≡ drop (k + length row1) o

-- after i of the faults gathered from q on
pub record Giving (vs : List ℕ) (q i : ℕ) (o o' : List ℕ) : Type 0 where
  pub long : length o' ≡ length o
  pub front : take (3 * i) o' ≡ gathered vs q i
  pub behind : drop (3 * i) o' ≡ drop (3 * i) o
