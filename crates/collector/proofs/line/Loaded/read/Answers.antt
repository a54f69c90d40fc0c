-- A line read.
use Rattle.std.proofs.Common.{Err, refl, subst}
use Rattle.syntax.specs.Line.{LineSays}
use Rattle.collector.proofs.Loading.{read_kept, read_line_is, read_loads, read_wrong}
use Rattle.collector.proofs.line.Loaded.read.Goals as goal

pub returns-in-Ok : goal.returns-in-Ok
returns-in-Ok c =
    let l = c.args.l in
    let ws = c.args.words.now in
    let vs = c.read_line.new.words in
    let e = c.args.line in
    let r = c.in-Ok.ensures.reads in (
      read_kept l ws vs e c.requires.order c.requires.slot c.read_line.auto.words c.read_line.ensures.front,
      read_loads l ws vs e c.requires.order c.requires.slot c.read_line.auto.words c.read_line.ensures.front c.in-Ok.count c.min-count.result c.min-count.ensures r.0 r.1,
      refl,
      refl,
      read_line_is l ws vs e c.requires.order c.requires.slot c.read_line.auto.words c.read_line.ensures.front,
    )

pub returns-in-Err-Wrong : goal.returns-in-Err-Wrong
returns-in-Err-Wrong c =
    let l = c.args.l in
    let ws = c.args.words.now in
    let vs = c.read_line.new.words in
    let e = c.args.line in (
      read_kept l ws vs e c.requires.order c.requires.slot c.read_line.auto.words c.read_line.ensures.front,
      read_wrong l ws vs e c.requires.order c.requires.slot c.read_line.auto.words c.read_line.ensures.front _ _ (subst (λ z. LineSays ws e.len l.work vs (Err z)) c.in-Err-Wrong.field-0-is c.in-Err-Wrong.ensures.reads),
      refl,
      refl,
      read_line_is l ws vs e c.requires.order c.requires.slot c.read_line.auto.words c.read_line.ensures.front,
    )
