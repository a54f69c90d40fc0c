use Rattle.std.proofs.Common.{◌≡◌, drop, rules}
use Rattle.std.specs.List.{prefix_len}
use Rattle.lexer.specs.Tokens.{blank}
use Rattle.lexer.proofs.Runs.{run_fits, rest_at}
use Rattle.lexer.proofs.Places.{blank_run, blank_stops}
use Rattle.lexer.proofs.reader.blanks_end.Goals as goal

-- how many blanks there are
long : (c : goal.After-blank_len) → c.blank_len.result ≡ prefix_len blank (drop c.args.from c.args.line.now)
long c = rest_at blank c.args.line.now c.args.from c.min.result _ c.min.ensures c.blank_len.ensures

pub overflow_add-result : goal.overflow_add-result
overflow_add-result c = let h = run_fits blank c.args.line.now c.args.from in let e = long c in search (rules, h, e)

pub returns-clause-same : goal.returns-clause-same
returns-clause-same c = blank_run c.args.line.now c.args.from c.blank_len.result (long c)

pub returns-clause-stops : goal.returns-clause-stops
returns-clause-stops c = blank_stops c.args.line.now c.args.from c.blank_len.result (long c)
