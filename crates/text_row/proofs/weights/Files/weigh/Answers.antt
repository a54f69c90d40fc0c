-- What is proved by hand of weigh.
use Rattle.std.proofs.Common.{◌≡◌, ◌+◌, min, arith}
use Rattle.text_row.proofs.Loads.{some_in, some_is, some_end, weigh_ends, weigh_most, weigh_on}
use Rattle.text_row.proofs.weights.Files.weigh.Goals as goal

pub overflow_add-total-in-loop-p-2 : goal.overflow_add-total-in-loop-p-2
overflow_add-total-in-loop-p-2 c =
    let s = some_is _ _ c.requires.fits.in_table c.places.ensures c.args.from _ _ c.min.ensures c.requires.there c.loop-p.p-index c.loop-p-test.true in
    let n = some_in _ _ c.requires.fits.in_table c.places.ensures c.args.from _ _ c.min.ensures c.requires.there c.loop-p.p-index c.loop-p-test.true in
    let q = rw s at (rw c.sizes-sizes.ensures at c.place_of.ensures) in
    rw s (rw q (omega (arith, weigh_most _ _ _ _ c.requires.fits _ _ _ _ _ (omega (arith, c.requires.there)) n c.loop-p.invariant, c.requires.light)))

pub loop-p-preserved : goal.loop-p-preserved
loop-p-preserved c =
    let s = some_is _ _ c.requires.fits.in_table c.places.ensures c.args.from _ _ c.min.ensures c.requires.there c.loop-p.p-index c.loop-p-test.true in
    let n = some_in _ _ c.requires.fits.in_table c.places.ensures c.args.from _ _ c.min.ensures c.requires.there c.loop-p.p-index c.loop-p-test.true in
    let q = rw s at (rw c.sizes-sizes.ensures at c.place_of.ensures) in
    let m = rw s at c.max-largest.ensures in
    let k : min c.args.from c.args.to + (c.loop-p.p-index + 1) ≡ min c.args.from c.args.to + c.loop-p.p-index + 1 = omega arith in
    rw s (rw m (rw q (rw k (weigh_on _ _ _ _ c.requires.fits _ _ _ _ _ (omega (arith, c.requires.there)) n c.loop-p.invariant))))

pub returns : goal.returns
returns c = weigh_ends _ _ _ _ _ _ (some_end _ _ c.requires.fits.in_table c.places.ensures c.args.from _ _ c.min.ensures c.requires.there c.loop-p.p-index c.loop-p-test.false) c.loop-p.invariant
