-- The first that a kind declares is the kind.
use Rattle.std.proofs.Common.{[], ◌∷◌, refl, ap, ◌∙◌}
use Rattle.std.specs.List.{slice_get}
use Rattle.semantics.specs.Names.{decl, consts}
use Rattle.syntax.specs.View.{piece_of}
use Rattle.declarations.proofs.declare.of_kind.Goals as goal

pub returns-then-i-eq0 : goal.returns-then-i-eq0
returns-then-i-eq0 c = λ line cs e p.
    let k = c.args.name.text.now in
    let d = decl 0 (piece_of c.args.name) 0 k [] in
    (d, ap (λ n. slice_get (d ∷ consts 0 k cs) n) c.if-i-eq0.true, ([], refl, c.empty.ensures.code line, c.empty.ensures.line ∙ p))
