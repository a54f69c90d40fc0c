use Rattle.std.proofs.Common.{refl, arith}
use Rattle.std.proofs.lemmas.Result.{err_from_is_err_and}
use Rattle.parser.specs.declared.turn.Cursor.{Cursor}
use Rattle.parser.proofs.Loop.{starts, ready, few_waiting, onwards, lessens, reads_it, reads_bad}
use Rattle.parser.proofs.parse.parse.Goals as goal

pub loop-m-init : goal.loop-m-init
loop-m-init c =
    let b : Cursor = record { len = c.args.len; base = c.args.base; at = c.args.from; depth = 0; count = 0 } in
    let r = c.requires.room in
    starts b c.args.words.now refl refl c.requires.begins (omega arith)

pub advance-requires : goal.advance-requires
advance-requires c =
    let r = c.requires in
    let l = c.loop-m in
    (ready r.before r.short r.room l.auto.words l.invariant, few_waiting r.before r.short r.room l.auto.words l.invariant)

pub loop-m-smaller : goal.loop-m-smaller
loop-m-smaller c = lessens c.requires.before c.loop-m.invariant c.in-Go.m c.in-Go.q (rw c.in-Go.is at c.in_ok-m.ensures)

pub loop-m-preserved : goal.loop-m-preserved
loop-m-preserved c = onwards c.requires.before c.loop-m.invariant c.in-Go.m c.in-Go.q (rw c.in-Go.is at c.in_ok-m.ensures)

pub returns-in-Won-clause-reads : goal.returns-in-Won-clause-reads
returns-in-Won-clause-reads c = reads_it c.requires.before c.loop-m.invariant c.in-Won.q (rw c.in-Won.is at c.in_ok-m.ensures)

pub returns-in_err-m-clause-reads : goal.returns-in_err-m-clause-reads
returns-in_err-m-clause-reads c =
    let r = err_from_is_err_and c.from_residual.result c.from_residual.ensures.1 in
    rw (r.1, r.2) (reads_bad c.requires.before c.loop-m.invariant c.in_err-m.field-0.0 c.in_err-m.ensures)
