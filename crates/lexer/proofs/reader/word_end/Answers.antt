use Rattle.std.proofs.Common.{◌≡◌, drop, ap, ◌∙◌, rules}
use Rattle.std.specs.List.{prefix_len}
use Rattle.lexer.specs.Tokens.{letter}
use Rattle.lexer.proofs.Runs.{run_fits, rest}
use Rattle.lexer.proofs.Places.{word_run}
use Rattle.lexer.proofs.reader.word_end.Goals as goal

-- how many letters there are
long : (c : goal.After-letter_len) → c.letter_len.result ≡ prefix_len letter (drop c.args.from c.args.line.now)
long c = c.letter_len.ensures ∙ ap (prefix_len letter) (rest c.args.line.now c.args.from)

pub overflow_add-result : goal.overflow_add-result
overflow_add-result c = let h = run_fits letter c.args.line.now c.args.from in let e = long c in search (rules, h, e)

pub returns-clause-within : goal.returns-clause-within
returns-clause-within c = (word_run c.args.line.now c.args.from c.letter_len.result (long c) c.requires.within c.requires.not_blank c.requires.begins).0

pub returns-clause-reads : goal.returns-clause-reads
returns-clause-reads c = (word_run c.args.line.now c.args.from c.letter_len.result (long c) c.requires.within c.requires.not_blank c.requires.begins).2
