use Rattle.std.proofs.Common.{◌≡◌, ◌<◌, Bool, false, length, get_or, sym, ap, ◌∙◌, rules}
use Rattle.base.specs.Base.{pick}
use Rattle.lexer.specs.Tokens.{letter}
use Rattle.lexer.specs.declared.token.Operator.TheVariants.{Equal}
use Rattle.lexer.specs.declared.token.Token.TheVariants.{Sign, Other}
use Rattle.lexer.proofs.Signs.{small_word, one_sign, more_signs}
use Rattle.lexer.proofs.token.token_of.Goals as goal

pub returns-in-len1-up : goal.returns-in-len1-up
returns-in-len1-up c =
    let w = c.args.w.now in
    let l : 0 < length w = search rules in
    c.keyword.ensures ∙ sym (small_word w l (sym c.if-is_small.ensures))

pub returns-in-len1 : goal.returns-in-len1
returns-in-len1 c =
    let w = c.args.w.now in
    let n : letter (get_or w 0 0) ≡ false = sym c.if-is_letter.ensures in
    let l : length w ≡ 1 = search rules in
    c.sign.ensures ∙ sym (one_sign w l n)

pub returns-in_default : goal.returns-in_default
returns-in_default c =
    let w = c.args.w.now in
    let n : letter (get_or w 0 0) ≡ false = sym c.if-is_letter.ensures in
    let l : 1 < length w = search rules in
    sym (more_signs w l n ∙ ap (λ (b : Bool). pick b (Sign Equal) Other) (sym c.if-spells.ensures))

pub returns-in_default-2 : goal.returns-in_default-2
returns-in_default-2 c =
    let w = c.args.w.now in
    let n : letter (get_or w 0 0) ≡ false = sym c.if-is_letter.ensures in
    let l : 1 < length w = search rules in
    sym (more_signs w l n ∙ ap (λ (b : Bool). pick b (Sign Equal) Other) (sym c.if-spells.ensures))
