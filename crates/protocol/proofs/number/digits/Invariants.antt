use Rattle.std.proofs.Common.{◌≡◌, drop}
use Rattle.protocol.proofs.Values.{read_on}
use Rattle.protocol.proofs.number.digits.Given as goal

abbrev pub invariant-loop-c : goal.invariant-loop-c
invariant-loop-c l = read_on l.value (drop l.c-index l.bytes) ≡ read_on 0 l.bytes
