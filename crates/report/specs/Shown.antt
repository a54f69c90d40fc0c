-- How a line and the mark under a place of it are shown.
use Rattle.std.specs.Prelude.{ℕ, ◌-◌, ◌&&◌, ◌||◌, List, ◌++◌, map, replicate, ◌==◌, nat_le, nat_lt}
use Rattle.base.specs.Base.{pick}

-- a byte that can be printed is itself; a tab or a return a blank; any other a question mark: one sign for one byte
abbrev pub shown : ℕ → ℕ
shown c = pick (nat_le 32 c && nat_le c 126) c (pick (c == 9 || c == 13) 32 63)

abbrev pub all_shown : List ℕ → List ℕ
all_shown cs = map shown cs

abbrev pub wide : ℕ → ℕ → ℕ
wide from to = pick (nat_lt from to) (to - from) 1

-- blanks up to the place, and a mark for each byte of the piece, or one behind the last piece
abbrev pub mark : ℕ → ℕ → List ℕ
mark from to = replicate from 32 ++ replicate (wide from to) 94
