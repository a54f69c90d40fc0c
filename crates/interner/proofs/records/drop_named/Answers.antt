-- What is proved by hand of drop_named.
use Rattle.std.proofs.Common.{arith}
use Rattle.interner.proofs.Places.{drop_begins, drop_passes, drop_keeps, drop_ends, place_in}
use Rattle.interner.proofs.records.drop_named.Goals as goal

pub loop-k-init : goal.loop-k-init
loop-k-init c = drop_begins _ _ _ c.requires.in_table

pub bounds-words-p : goal.bounds-words-p
bounds-words-p c = let e = c.loop-k.invariant.rest c.loop-k.k (omega arith) in let r = place_in _ _ c.loop-k.k c.requires c.loop-k-test.true in omega arith

pub loop-k-preserved-then-words-p : goal.loop-k-preserved-then-words-p
loop-k-preserved-then-words-p c = drop_passes _ _ _ _ _ _ c.loop-k.invariant c.loop-k-test.true c.if-words-p.true

pub loop-k-preserved : goal.loop-k-preserved
loop-k-preserved c = drop_keeps _ _ _ _ _ _ c.loop-k.invariant c.loop-k-test.true c.if-words-p.false

pub returns : goal.returns
returns c = drop_ends _ _ _ _ _ _ c.loop-k.invariant (omega arith)
