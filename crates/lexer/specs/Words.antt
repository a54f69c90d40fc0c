-- What a piece can be: the fixed words, names, numbers and operators.
use Rattle.std.specs.Prelude.{ℕ, Bool, true, not, ◌&&◌, ◌||◌, List, [], ◌∷◌, ◌==◌, nat_le}
use Rattle.std.proofs.Math.Option.{Option, some, none}
use Rattle.base.specs.Base.{pick, or_else, when1, Word, same, among}
use Rattle.lexer.specs.Tokens.{letter}

-- the reserved words (k-) and the signs (t-), by their bytes
abbrev pub k_use : Word
k_use = (117 ∷ 115 ∷ 101 ∷ [])

abbrev pub k_kind : Word
k_kind = (107 ∷ 105 ∷ 110 ∷ 100 ∷ [])

abbrev pub k_rec : Word
k_rec = (114 ∷ 101 ∷ 99 ∷ [])

abbrev pub k_def : Word
k_def = (100 ∷ 101 ∷ 102 ∷ [])

abbrev pub k_let : Word
k_let = (108 ∷ 101 ∷ 116 ∷ [])

abbrev pub k_in : Word
k_in = (105 ∷ 110 ∷ [])

abbrev pub k_if : Word
k_if = (105 ∷ 102 ∷ [])

abbrev pub k_then : Word
k_then = (116 ∷ 104 ∷ 101 ∷ 110 ∷ [])

abbrev pub k_else : Word
k_else = (101 ∷ 108 ∷ 115 ∷ 101 ∷ [])

abbrev pub k_and : Word
k_and = (97 ∷ 110 ∷ 100 ∷ [])

abbrev pub k_or : Word
k_or = (111 ∷ 114 ∷ [])

abbrev pub k_num : Word
k_num = (110 ∷ 117 ∷ 109 ∷ [])

abbrev pub k_bool : Word
k_bool = (98 ∷ 111 ∷ 111 ∷ 108 ∷ [])

abbrev pub t_lp : Word
t_lp = (40 ∷ [])

abbrev pub t_rp : Word
t_rp = (41 ∷ [])

abbrev pub t_comma : Word
t_comma = (44 ∷ [])

abbrev pub t_colon : Word
t_colon = (58 ∷ [])

abbrev pub t_gets : Word
t_gets = (61 ∷ [])

abbrev pub t_is : Word
t_is = (61 ∷ 61 ∷ [])

abbrev pub t_less : Word
t_less = (60 ∷ [])

abbrev pub t_plus : Word
t_plus = (43 ∷ [])

abbrev pub t_minus : Word
t_minus = (45 ∷ [])

abbrev pub t_times : Word
t_times = (42 ∷ [])

abbrev pub t_dot : Word
t_dot = (46 ∷ [])

-- the words that are no names
abbrev pub kept : List Word
kept = k_use ∷ k_kind ∷ k_rec ∷ k_def ∷ k_let ∷ k_in ∷ k_if ∷ k_then ∷ k_else ∷ k_and ∷ k_or ∷ k_num ∷ k_bool ∷ []

abbrev pub first : Word → ℕ
first [] = 0
first (c ∷ cs) = c

-- it begins with a digit; it is all digits; it is a name; it can stand for a type
abbrev pub is_number : Word → Bool
is_number w = nat_le 48 (first w) && nat_le (first w) 57

abbrev pub digits : Word → Bool
digits [] = true
digits (c ∷ cs) = (nat_le 48 c && nat_le c 57) && digits cs

abbrev pub is_name : Word → Bool
is_name w = letter (first w) && (not (is_number w) && not (among w kept))

abbrev pub is_type : Word → Bool
is_type w = same w k_num || (same w k_bool || is_name w)

-- operators by their number: 0 + 1 - 2 * 3 == 4 < 5 and 6 or. Levels: 1 or; 2 and; 3 one comparison; 4 sums; 5 products
abbrev pub op_at : ℕ → Word → Option ℕ
op_at l w = pick (l == 1) (when1 (same w k_or) (some 6)) (pick (l == 2) (when1 (same w k_and) (some 5)) (pick (l == 4) (or_else (when1 (same w t_plus) (some 0)) (when1 (same w t_minus) (some 1))) (pick (l == 5) (when1 (same w t_times) (some 2)) none)))

abbrev pub compares : Word → Option ℕ
compares w = or_else (when1 (same w t_is) (some 3)) (when1 (same w t_less) (some 4))

-- the operator that a word is at a level, comparisons too
abbrev pub op_any : ℕ → Word → Option ℕ
op_any j w = pick (j == 3) (compares w) (op_at j w)
