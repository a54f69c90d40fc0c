-- What is proved by hand of record_of.
use Rattle.std.proofs.Common.{arith}
use Rattle.text_row.proofs.Changing.{k_row, record_says}
use Rattle.text_row.proofs.row.Row.record_of.Goals as goal

pub overflow_add-result : goal.overflow_add-result
overflow_add-result c = omega (arith, k_row _ _ _ c.requires.0 c.requires.1.0 c.requires.1.1)

pub overflow_add-result-2 : goal.overflow_add-result-2
overflow_add-result-2 c = omega (arith, k_row _ _ _ c.requires.0 c.requires.1.0 c.requires.1.1)

pub offset_bounds-mem-unit : goal.offset_bounds-mem-unit
offset_bounds-mem-unit c = omega (arith, k_row _ _ _ c.requires.0 c.requires.1.0 c.requires.1.1)

pub bounds-mem-unit : goal.bounds-mem-unit
bounds-mem-unit c = k_row _ _ _ c.requires.0 c.requires.1.0 c.requires.1.1

pub returns : goal.returns
returns c = record_says _ _ _ c.requires.0 c.requires.1.0 c.requires.1.1
