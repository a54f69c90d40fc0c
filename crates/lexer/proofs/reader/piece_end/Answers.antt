use Rattle.std.proofs.Common.{sym, arith}
use Rattle.lexer.proofs.Places.{two_equal, one_equal, one_other}
use Rattle.lexer.proofs.reader.piece_end.Goals as goal
use Rattle.lexer.proofs.reader.piece_end.Goals.{else-line-from-eq-EQUALS-via-then-line-from-eq-EQUALS+then-from-line+else-line-from-eq-EQUALS-2, else-line-from-eq-EQUALS-via-then-line-from-eq-EQUALS+else-from-line, else-line-from-eq-EQUALS-via-else-line-from-eq-EQUALS}

pub returns-then-line-from-eq-EQUALS-2 : goal.returns-then-line-from-eq-EQUALS-2
returns-then-line-from-eq-EQUALS-2 c =
    record {
      within = omega arith;
      onward = omega arith;
      reads = two_equal c.args.line.now c.args.from c.requires.within c.requires.not_blank c.requires.no_note (sym c.if-is_letter.ensures) c.if-from-line.true c.if-line-from-eq-EQUALS.true c.if-line-from-eq-EQUALS-2.true;
    }

pub returns-else-line-from-eq-EQUALS : goal.returns-else-line-from-eq-EQUALS
returns-else-line-from-eq-EQUALS c =
    let xs = c.args.line.now in
    let i = c.args.from in
    let l = sym c.if-is_letter.ensures in
    record {
      within = omega arith;
      onward = omega arith;
      reads =
          elim c.else-line-from-eq-EQUALS.branch [
            | else-line-from-eq-EQUALS-via-then-line-from-eq-EQUALS+then-from-line+else-line-from-eq-EQUALS-2 w ↦ one_equal xs i c.requires.within c.requires.not_blank c.requires.no_note l w.if-line-from-eq-EQUALS.true (λ _. w.if-line-from-eq-EQUALS-2.false)
            | else-line-from-eq-EQUALS-via-then-line-from-eq-EQUALS+else-from-line w ↦ one_equal xs i c.requires.within c.requires.not_blank c.requires.no_note l w.if-line-from-eq-EQUALS.true (λ h _. absurd (omega (arith, w.if-from-line.false)))
            | else-line-from-eq-EQUALS-via-else-line-from-eq-EQUALS w ↦ one_other xs i c.requires.within c.requires.not_blank c.requires.no_note l w.if-line-from-eq-EQUALS.false
          ];
    }
