use Rattle.std.proofs.Common.{take, ap}
use Rattle.protocol.proofs.Cuts.{tail_some, head_none, tail_none}
use Rattle.protocol.proofs.header.cut.Goals as goal

pub returns-in-Some-clause-before : goal.returns-in-Some-clause-before
returns-in-Some-clause-before c = ap (λ k. take k c.args.bytes.now) c.in-Some.ensures.1

pub returns-in-Some-clause-behind : goal.returns-in-Some-clause-behind
returns-in-Some-clause-behind c = tail_some c.args.bytes.now c.in-Some.at c.in-Some.ensures.1

pub returns-in-None-clause-before : goal.returns-in-None-clause-before
returns-in-None-clause-before c = head_none c.args.bytes.now c.in-None.ensures

pub returns-in-None-clause-behind : goal.returns-in-None-clause-behind
returns-in-None-clause-behind c = tail_none c.args.bytes.now c.in-None.ensures
