use Rattle.std.proofs.Common.{refl, ◌∙◌, arith}
use Rattle.std.proofs.lemmas.List.{at_drop_all}
use Rattle.lexer.specs.Tokens.{gap, toks}
use Rattle.lexer.proofs.Places.{note_at}
use Rattle.lexer.proofs.reader.Reader.next.Goals as goal
use Rattle.lexer.proofs.reader.Reader.next.Goals.{then-from-line-via-then-from-line, then-from-line-via-else-from-line+then-line-from-eq-NOTE}

pub returns-then-from-line : goal.returns-then-from-line
returns-then-from-line c =
    let xs = c.args.self.now.line.now in
    let i = c.blanks_end-from.result in
    let told = c.blanks_end-from.ensures in
    record {
      line = refl;
      within = omega arith;
      reads =
          told.same ∙
          elim c.then-from-line.branch [
            | then-from-line-via-then-from-line w ↦ at_drop_all (toks gap i) xs i w.if-from-line.true
            | then-from-line-via-else-from-line+then-line-from-eq-NOTE w ↦ note_at xs i w.if-from-line.false (told.stops w.if-from-line.false) w.if-line-from-eq-NOTE.true
          ];
      text = tt;
      behind = tt;
    }
