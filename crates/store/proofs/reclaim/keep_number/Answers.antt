-- What is proved by hand of keep_number.
use Rattle.std.proofs.Common.{List, ℕ, length, sym, ap, subst, arith}
use Rattle.interner.specs.Interner.{CanAdd, Added}
use Rattle.store.proofs.Keeps.{can, did}
use Rattle.store.proofs.reclaim.keep_number.Goals as goal

pub add-requires : goal.add-requires
add-requires c = let e = c.line_of-key.ensures in let l = ap length e in subst (λ (x : List ℕ). CanAdd c.args.from.sizes.buckets c.args.from.sizes.cap c.args.row.now c.args.n x) (sym e) (can _ _ _ _ _ c.requires.0 c.requires.1.0 c.requires.1.1 (omega arith) (omega (arith, l, c.requires.1.1.sound.pool_to)))

pub returns : goal.returns
returns c = did _ _ _ _ _ c.requires.0 c.requires.1.0 c.requires.1.1 _ (subst (λ (x : List ℕ). Added c.args.from.sizes.buckets c.args.from.sizes.cap c.args.row.now c.args.n x c.add.new.words) c.line_of-key.ensures c.add.ensures) (c.add.ensures.count_kept (omega (arith, c.requires.1.1.counts, c.requires.1.0.0)))
