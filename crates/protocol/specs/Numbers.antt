-- Which number bytes are.
use Rattle.std.specs.Prelude.{ℕ, ◌+◌, ◌-◌, ◌*◌, Bool, true, ◌&&◌, List, [], ◌∷◌, Some, None, Option as Perhaps, nat_le, nat_lt}
use Rattle.base.specs.Base.{pick}

abbrev pub is_digit : ℕ → Bool
is_digit c = nat_le 48 c && nat_le c 57

abbrev pub all_digits : List ℕ → Bool
all_digits [] = true
all_digits (c ∷ cs) = is_digit c && all_digits cs

-- the value of digits behind a value so far
abbrev pub value_on : ℕ → List ℕ → ℕ
value_on n [] = n
value_on n (c ∷ cs) = value_on (n * 10 + (c - 48)) cs

-- numbers go up to here
abbrev pub limit : ℕ
limit = 18446744073709551616

-- one digit more behind a value, if it is one and the value fits
abbrev pub one_more : ℕ → ℕ → Perhaps ℕ
one_more n c = pick (is_digit c && nat_lt (n * 10 + (c - 48)) limit) (Some (n * 10 + (c - 48))) None

-- nothing but digits, and below the limit
abbrev pub digits_value : List ℕ → Perhaps ℕ
digits_value cs = pick (all_digits cs && nat_lt (value_on 0 cs) limit) (Some (value_on 0 cs)) None

-- and one digit at least
abbrev pub number_of : List ℕ → Perhaps ℕ
number_of [] = None
number_of (c ∷ cs) = digits_value (c ∷ cs)
