-- A constant for each operation, and the kind.
use Rattle.std.proofs.Common.{length, ap, arith}
use Rattle.declarations.proofs.Found.{ops_length, consts_length}
use Rattle.declarations.proofs.declare.with_kind.Goals as goal

pub returns : goal.returns
returns c = λ line kind cs e.
    omega (arith, c.len.ensures, ops_length line c.args.names.code.now, ap length e, consts_length 0 kind cs)
