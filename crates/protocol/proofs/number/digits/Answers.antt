use Rattle.std.proofs.Common.{◌∙◌}
use Rattle.protocol.proofs.Values.{step, stop, whole}
use Rattle.protocol.proofs.number.digits.Goals as goal

pub returns-in_err-value : goal.returns-in_err-value
returns-in_err-value c = c.from_residual.ensures ∙ stop c.args.bytes.now c.loop-c.c-index c.loop-c.value c.loop-c-test.true c.loop-c.invariant c.in_err-value.ensures

pub loop-c-preserved : goal.loop-c-preserved
loop-c-preserved c = step c.args.bytes.now c.loop-c.c-index c.loop-c.value c.in_ok-value.value c.loop-c-test.true c.loop-c.invariant c.in_ok-value.ensures

pub returns : goal.returns
returns c = whole c.args.bytes.now c.loop-c.c-index c.loop-c.value c.loop-c-test.false c.loop-c.invariant
