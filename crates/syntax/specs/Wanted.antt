-- What can be wanted of the next piece, as a test on its token.
use Rattle.std.specs.Prelude.{Bool, true, false}
use Rattle.base.specs.Base.{Word, same}
use Rattle.lexer.specs.Words.{is_name, is_type, t_gets, t_lp, t_rp, t_comma}
use Rattle.lexer.specs.declared.token.Token.{Token}
use Rattle.lexer.specs.declared.token.Token.TheVariants.{Num, Bool as TypeBool, Open, Close, Comma, Gets, Name}
use Rattle.syntax.specs.declared.wanted.Wanted.{Wanted}
use Rattle.syntax.specs.declared.wanted.Wanted.TheVariants.{Name as AName, TypeWord as AType, Gets as AGets, Open as AOpen, Close as AClose, Comma as AComma}

-- whether a word is what is wanted
abbrev pub wants : Wanted → Word → Bool
wants AName w = is_name w
wants AType w = is_type w
wants AGets w = same w t_gets
wants AOpen w = same w t_lp
wants AClose w = same w t_rp
wants AComma w = same w t_comma

-- and whether a token is
abbrev pub fits : Wanted → Token → Bool
fits AName Name = true
fits AName _ = false
fits AType Num = true
fits AType TypeBool = true
fits AType Name = true
fits AType _ = false
fits AGets Gets = true
fits AGets _ = false
fits AOpen Open = true
fits AOpen _ = false
fits AClose Close = true
fits AClose _ = false
fits AComma Comma = true
fits AComma _ = false
