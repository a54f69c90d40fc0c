use Rattle.std.proofs.Common.{take, ◌∙◌}
use Rattle.parser.specs.Rows.{span_of}
use Rattle.checker.specs.Rows.{means, bound_is}
use Rattle.checker.proofs.Words.{found_is}
use Rattle.checker.proofs.rows.Bounds.is_bound.Goals as goal

pub returns : goal.returns
returns c = λ k. let line = take c.args.self.len c.args.words.now in c.is_some.ensures ∙ found_is (means k line c.args.self c.args.p c.args.words.now).bound (span_of line c.args.name).w (bound_is k line) c.find.result (c.find.ensures k)
