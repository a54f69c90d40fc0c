-- The kind of a piece, part by part: of a word that begins with a small letter or a digit, and of a byte by itself.
use Rattle.std.specs.Prelude.{ℕ, Bool, ◌&&◌, ◌==◌, nat_le}
use Rattle.base.specs.Base.{pick, Word, same}
use Rattle.lexer.specs.Words.{digits, k_use, k_kind, k_rec, k_def, k_let, k_in, k_if, k_then, k_else, k_and, k_or, k_num, k_bool}
use Rattle.lexer.specs.declared.token.Operator.TheVariants.{Plus, Minus, Times, Less, And, Or}
use Rattle.lexer.specs.declared.token.Token.{Token}
use Rattle.lexer.specs.declared.token.Token.TheVariants.{Use, Kind, Rec, Def, Let, In, If, Then, Else, Num, Bool as TypeBool, Open, Close, Comma, Gets, Dot, Sign, Number, BadNumber, Name, Other}

-- a word that begins with a small letter: one of the fixed words, or a name
abbrev pub keyword : Word → Token
keyword w =
    pick (same w k_use) Use (pick (same w k_kind) Kind (pick (same w k_rec) Rec (pick (same w k_def) Def
    (pick (same w k_let) Let (pick (same w k_in) In (pick (same w k_if) If (pick (same w k_then) Then (pick (same w k_else) Else
    (pick (same w k_and) (Sign And) (pick (same w k_or) (Sign Or) (pick (same w k_num) Num (pick (same w k_bool) TypeBool
    Name))))))))))))

-- a byte that is no letter, by itself
abbrev pub sign : ℕ → Token
sign c =
    pick (c == 40) Open (pick (c == 41) Close (pick (c == 44) Comma (pick (c == 61) Gets (pick (c == 46) Dot
    (pick (c == 60) (Sign Less) (pick (c == 43) (Sign Plus) (pick (c == 45) (Sign Minus) (pick (c == 42) (Sign Times)
    Other))))))))

-- the bytes 0 to 9
abbrev pub digit : ℕ → Bool
digit c = nat_le 48 c && nat_le c 57

-- the bytes a to z
abbrev pub small : ℕ → Bool
small c = nat_le 97 c && nat_le c 122

-- a word that begins with a digit
abbrev pub number : Word → Token
number w = pick (digits w) Number BadNumber
