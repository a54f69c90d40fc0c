use Rattle.syntax.proofs.Progress.{chain, still, stopped, fails}
use Rattle.syntax.proofs.reading.Reading.block.Goals as goal

pub returns-in_err-list : goal.returns-in_err-list
returns-in_err-list c = fails c.from_residual-in_err-list.result c.from_residual-in_err-list.ensures.1 (chain c.requires.line_in c.in_ok-start.ensures.reads (stopped _ c.in_err-list.ensures.reads))

pub returns : goal.returns
returns c =
    let start = c.in_ok-start.ensures.reads in
    chain c.requires.line_in start (chain (still c.requires.line_in start) c.in_ok-list.ensures.reads c.end.ensures)
