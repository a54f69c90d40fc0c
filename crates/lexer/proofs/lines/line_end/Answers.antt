use Rattle.std.proofs.Common.{◌≡◌, drop, rules}
use Rattle.std.specs.List.{prefix_len}
use Rattle.lexer.specs.Lines.{goes_on}
use Rattle.lexer.proofs.Cuts.{line_ends}
use Rattle.lexer.proofs.Runs.{run_fits, rest_at}
use Rattle.lexer.proofs.lines.line_end.Goals as goal

-- how many bytes the line has
long : (c : goal.After-line_len) → c.line_len.result ≡ prefix_len goes_on (drop c.args.from c.args.text.now)
long c = rest_at goes_on c.args.text.now c.args.from c.min.result _ c.min.ensures c.line_len.ensures

pub overflow_add-result : goal.overflow_add-result
overflow_add-result c = let h = run_fits goes_on c.args.text.now c.args.from in let e = long c in search (rules, h, e)

pub returns : goal.returns
returns c = line_ends c.args.text.now c.args.from c.line_len.result (long c)
