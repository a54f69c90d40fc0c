-- What is proved by hand of gather.
use Rattle.std.proofs.Common.{◌≡◌, ◌+◌, ◌-◌, ◌<◌, length, take, sym, ap, ◌∙◌, subst, arith}
use Rattle.memo.specs.Record.{deep, size, puts}
use Rattle.memo.proofs.Places.{stands, deep_long}
use Rattle.memo.proofs.Unpacks.{plain_few}
use Rattle.memo.proofs.Repacks.{Gather, gather_begins, gather_ends, at_gather, gather_skip, gather_full, gather_take}
use Rattle.memo.proofs.repack.gather.Goals as goal

pub loop-d-init : goal.loop-d-init
loop-d-init c = gather_begins c.args.words.now c.args.work.now c.requires

pub size-requires : goal.size-requires
size-requires c = let s = stands c.args.words.now c.loop-d.d c.requires (at_gather c.args.words.now c.loop-d.work c.loop-d.d c.loop-d.g c.loop-d.n c.requires c.loop-d.invariant c.loop-d-test.true) in (omega arith, omega arith)

pub overflow_sub-next : goal.overflow_sub-next
overflow_sub-next c = let s = stands c.args.words.now c.loop-d.d c.requires (at_gather c.args.words.now c.loop-d.work c.loop-d.d c.loop-d.g c.loop-d.n c.requires c.loop-d.invariant c.loop-d-test.true) in let e = c.size.ensures in omega arith

pub is_oldest-requires : goal.is_oldest-requires
is_oldest-requires c = (c.requires, at_gather c.args.words.now c.loop-d.work c.loop-d.d c.loop-d.g c.loop-d.n c.requires c.loop-d.invariant c.loop-d-test.true)

pub loop-d-preserved-then-not-is_oldest : goal.loop-d-preserved-then-not-is_oldest
loop-d-preserved-then-not-is_oldest c = subst (λ q. Gather c.args.words.now c.loop-d.work (c.loop-d.d - q) c.loop-d.g c.loop-d.n) (sym c.size.ensures) (gather_skip c.args.words.now c.requires c.loop-d.work c.loop-d.d c.loop-d.g c.loop-d.n c.loop-d-test.true c.loop-d.invariant c.if-not-is_oldest.ensures)

pub newest-newest-requires : goal.newest-newest-requires
newest-newest-requires c = (c.requires, at_gather c.args.words.now c.loop-d.work c.loop-d.d c.loop-d.g c.loop-d.n c.requires c.loop-d.invariant c.loop-d-test.true)

pub size-s-requires : goal.size-s-requires
size-s-requires c =
    let s = stands c.args.words.now c.newest-newest.result.depth c.requires c.newest-newest.ensures.is.stands in
    let w = ap length c.newest-newest.ensures.within in
    (omega arith, omega arith)

pub returns-then-work-g : goal.returns-then-work-g
returns-then-work-g c =
    let e : c.size-s.result ≡ size (deep c.newest-newest.result.depth c.args.words.now) = c.size-s.ensures ∙ ap (λ q. size (deep c.newest-newest.result.depth q)) c.newest-newest.ensures.within in
    let k = c.loop-d.auto.work in
    let q : length c.loop-d.work - c.loop-d.g < size (deep c.newest-newest.result.depth c.args.words.now) = omega arith in
    let r = gather_full c.args.words.now c.requires c.loop-d.work c.loop-d.d c.loop-d.g c.loop-d.n c.loop-d-test.true c.loop-d.invariant c.if-not-is_oldest.ensures c.newest-newest.result.depth c.newest-newest.ensures.is q in
    omega arith

pub part-requires : goal.part-requires
part-requires c =
    let s = stands c.args.words.now c.newest-newest.result.depth c.requires c.newest-newest.ensures.is.stands in
    let w = ap length c.newest-newest.ensures.within in
    let e : c.size-s.result ≡ size (deep c.newest-newest.result.depth c.args.words.now) = c.size-s.ensures ∙ ap (λ q. size (deep c.newest-newest.result.depth q)) c.newest-newest.ensures.within in
    (omega arith, omega arith)

pub overflow_add-n : goal.overflow_add-n
overflow_add-n c = let f = plain_few c.loop-d.n (deep c.loop-d.g c.loop-d.work) c.loop-d.invariant.plain in let l = deep_long c.loop-d.work c.loop-d.g c.loop-d.invariant.within in let i = c.loop-d.invariant.within in let e = c.size-s.ensures in omega arith

pub loop-d-preserved : goal.loop-d-preserved
loop-d-preserved c =
    let w = c.newest-newest.ensures.within in
    let d = c.newest-newest.result.depth in
    let es : c.size-s.result ≡ size (deep d c.args.words.now) = c.size-s.ensures ∙ ap (λ q. size (deep d q)) w in
    let i = c.loop-d.invariant.within in
    let pe = c.put.ensures ∙ ap (λ q. puts (length c.loop-d.work - c.loop-d.g - c.size-s.result) q c.loop-d.work) c.part.ensures ∙ (λ t. puts (length c.loop-d.work - c.loop-d.g - es t) (take (es t) (deep d (w t))) c.loop-d.work) in
    subst (λ q. Gather c.args.words.now c.put.new.words (c.loop-d.d - q) (c.loop-d.g + c.size-s.result) (c.loop-d.n + 1)) (sym c.size.ensures)
    (subst (λ q. Gather c.args.words.now c.put.new.words (c.loop-d.d - size (deep c.loop-d.d c.args.words.now)) (c.loop-d.g + q) (c.loop-d.n + 1)) (sym es)
    (gather_take c.args.words.now c.requires c.loop-d.work c.loop-d.d c.loop-d.g c.loop-d.n c.loop-d-test.true c.loop-d.invariant c.if-not-is_oldest.ensures d c.newest-newest.ensures.is c.put.new.words (omega arith) pe))

pub returns : goal.returns
returns c = gather_ends c.args.words.now c.loop-d.work c.loop-d.g c.loop-d.n c.requires (subst (λ q. Gather c.args.words.now c.loop-d.work q c.loop-d.g c.loop-d.n) c.loop-d-test.false c.loop-d.invariant)
