-- What is proved by hand of copy_line.
use Rattle.std.proofs.Common.{ℕ, ◌+◌, ◌-◌, get_or, sym, ap, ◌∙◌, subst, arith}
use Rattle.text_row.specs.Row.{half}
use Rattle.text_row.specs.Copies.{CopySays}
use Rattle.text_row.proofs.Writes.{copy_in, copy_room, copy_says}
use Rattle.text_row.proofs.half.Half.copy_line.Goals as goal

pub copy_within-requires : goal.copy_within-requires
copy_within-requires c = let q = rw c.sizes-sizes.ensures at c.place_of-p.ensures in let e = ap (λ (p : ℕ). get_or (half c.args.self.unit c.args.self.at c.args.mem.now) p 0) q in let x = copy_in _ _ _ _ _ c.requires in let y = copy_room _ _ _ _ _ c.requires in record { start_le_end = omega arith; in_bounds = omega (arith, c.requires.above, c.requires.room); dest_in_bounds = omega arith; not_exhausted = tt }

pub returns : goal.returns
returns c = let q = rw c.sizes-sizes.ensures at c.place_of-p.ensures in let e = ap (λ (p : ℕ). get_or (half c.args.self.unit c.args.self.at c.args.mem.now) p 0) q in subst (λ (x : ℕ). CopySays c.args.self.unit c.args.self.at c.args.n c.args.to c.args.mem.now c.copy_within.new.self (c.args.to + x)) (sym e) (copy_says _ _ _ _ _ c.requires c.copy_within.new.self c.copy_within.ensures.len (λ k a b. c.copy_within.ensures.by_index.0 k 0 a (omega arith) ∙ ap (λ (p : ℕ). get_or c.args.mem.now (c.args.self.at + (p + 1) + (k - c.args.to)) 0) q) (λ k a. c.copy_within.ensures.by_index.1 k 0 a))
