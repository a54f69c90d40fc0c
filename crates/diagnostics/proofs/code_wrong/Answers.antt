use Rattle.std.proofs.Common.{[], ◌∷◌, ◌++◌, Ok, sym, refl, ap, ◌∙◌, subst, arith}
use Rattle.grammar.specs.Code.{o_bad}
use Rattle.parser.proofs.Words.{ops_none}
use Rattle.syntax.specs.declared.read.Refusal.{Refusal}
use Rattle.diagnostics.specs.Diagnose.{WrongSays}
use Rattle.diagnostics.proofs.code_wrong.Goals as goal

pub returns-in-Wrong : goal.returns-in-Wrong
returns-in-Wrong c =
    let P : Refusal → Type 0 = λ f. WrongSays f c.args.base c.emit.new.words (Ok 1) in
    record {
      front = c.emit.ensures.below c.args.base (omega arith);
      codes = subst P (sym c.in-Wrong.is) (refl, λ line. c.emit.ensures.adds line ∙ ap (λ os. os ++ (o_bad c.in-Wrong.place.from c.in-Wrong.place.to ∷ [])) (ops_none line c.args.base c.args.words.now (omega arith)));
    }
