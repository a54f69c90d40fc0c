use Rattle.syntax.proofs.Progress.{chain, still, stopped, fails}
use Rattle.syntax.proofs.reading.Reading.def.Goals as goal

pub returns-in_err-params : goal.returns-in_err-params
returns-in_err-params c = fails c.from_residual-in_err-params.result c.from_residual-in_err-params.ensures.1 (chain c.requires.line_in c.in_ok-start.ensures.reads (stopped _ c.in_err-params.ensures.reads))

pub returns-in_err-outcome : goal.returns-in_err-outcome
returns-in_err-outcome c =
    let start = c.in_ok-start.ensures.reads in
    fails c.from_residual-in_err-outcome.result c.from_residual-in_err-outcome.ensures.1 (chain c.requires.line_in start (chain (still c.requires.line_in start) c.in_ok-params.ensures.reads (stopped _ c.in_err-outcome.ensures.reads)))

pub returns-in_err-body : goal.returns-in_err-body
returns-in_err-body c =
    let start = c.in_ok-start.ensures.reads in
    let params = c.in_ok-params.ensures.reads in
    let l = still c.requires.line_in start in
    fails c.from_residual-in_err-body.result c.from_residual-in_err-body.ensures.1 (chain c.requires.line_in start (chain l params (chain (still l params) c.in_ok-outcome.ensures.reads (stopped _ c.in_err-body.ensures.reads))))

pub returns : goal.returns
returns c =
    let start = c.in_ok-start.ensures.reads in
    let params = c.in_ok-params.ensures.reads in
    let outcome = c.in_ok-outcome.ensures.reads in
    let l = still c.requires.line_in start in
    let m = still l params in
    chain c.requires.line_in start (chain l params (chain m outcome (chain (still m outcome) c.in_ok-body.ensures.reads c.last.ensures)))
