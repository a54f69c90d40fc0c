-- What is proved by hand of rebuild.
use Rattle.std.proofs.Common.{◌≡◌, ◌+◌, ◌-◌, sym, ◌∙◌, subst, arith}
use Rattle.memo.specs.Record.{size, deep}
use Rattle.memo.specs.Log.{spare}
use Rattle.memo.specs.Says.{gathered, StoreSays}
use Rattle.memo.proofs.Places.{deep_long}
use Rattle.memo.proofs.Repacks.{Rebuild, rebuild_step, rebuild_one, parts_asked, parts_small}
use Rattle.memo.proofs.repack.rebuild.Goals as goal

pub parts-requires : goal.parts-requires
parts-requires c = let o = rebuild_one c.loop.words c.args.work.now (gathered c.args.work.now c.args.m) c.loop.d (c.args.m.count - c.loop.counter) (spare c.forget.new.words) c.loop.invariant.rest (λ e. omega arith) in (o.2, o.3)

pub append-stored-requires-clause-small : goal.append-stored-requires-clause-small
append-stored-requires-clause-small c =
    let l = deep c.loop.d c.args.work.now in
    let p = c.parts.result in
    let o = rebuild_one c.loop.words c.args.work.now (gathered c.args.work.now c.args.m) c.loop.d (c.args.m.count - c.loop.counter) (spare c.forget.new.words) c.loop.invariant.rest (λ e. omega arith) in
    let s = parts_small l p.key p.ans.now p.count p.keys.now p.row.now o.0 c.parts.ensures in
    let d = deep_long c.args.work.now c.loop.d o.3 in
    let w = c.requires.small.0 in
    let v = c.requires.small.1 in
    let a = c.loop.auto.words in
    let b = c.forget.auto.words in
    (omega arith, omega arith, omega arith, omega arith)

pub append-stored-requires-clause-asked : goal.append-stored-requires-clause-asked
append-stored-requires-clause-asked c =
    let p = c.parts.result in
    let o = rebuild_one c.loop.words c.args.work.now (gathered c.args.work.now c.args.m) c.loop.d (c.args.m.count - c.loop.counter) (spare c.forget.new.words) c.loop.invariant.rest (λ e. omega arith) in
    let a = parts_asked (deep c.loop.d c.args.work.now) p.key p.ans.now p.count p.keys.now p.row.now o.0 o.1 c.parts.ensures in
    (a.0, a.1)

pub size-d-requires : goal.size-d-requires
size-d-requires c = let o = rebuild_one c.loop.words c.args.work.now (gathered c.args.work.now c.args.m) c.loop.d (c.args.m.count - c.loop.counter) (spare c.forget.new.words) c.loop.invariant.rest (λ e. omega arith) in (omega (arith, o.2), o.3)

pub overflow_sub-d : goal.overflow_sub-d
overflow_sub-d c = let o = rebuild_one c.loop.words c.args.work.now (gathered c.args.work.now c.args.m) c.loop.d (c.args.m.count - c.loop.counter) (spare c.forget.new.words) c.loop.invariant.rest (λ e. omega arith) in let e = c.size-d.ensures in omega (arith, o.2)

pub loop-preserved : goal.loop-preserved
loop-preserved c =
    let work = c.args.work.now in
    let es = gathered work c.args.m in
    let n = c.args.m.count - c.loop.counter in
    let p = c.parts.result in
    let o = rebuild_one c.loop.words work es c.loop.d n (spare c.forget.new.words) c.loop.invariant.rest (λ e. omega arith) in
    let a = parts_asked (deep c.loop.d work) p.key p.ans.now p.count p.keys.now p.row.now o.0 o.1 c.parts.ensures in
    let room = c.requires.says.room in
    let all = c.forget.ensures.room in
    let z : n - 1 ≡ c.args.m.count - (c.loop.counter + 1) = omega arith in
    let vs = c.append-stored.new.words in
    let s = subst (λ e. StoreSays e c.loop.words vs c.append-stored.result) a.2 c.append-stored.ensures.says in
    let x = rebuild_step c.loop.words work es c.loop.d n (spare c.forget.new.words) c.loop.invariant.rest (λ e. omega arith) c.requires.says.apart (omega arith) vs c.append-stored.result c.append-stored.ensures.fits s in
    record {
      rest = subst (λ q. Rebuild vs work es (c.loop.d - q) (c.args.m.count - (c.loop.counter + 1)) (spare c.forget.new.words)) (sym c.size-d.ensures) (subst (λ j. Rebuild vs work es (c.loop.d - size (deep c.loop.d work)) j (spare c.forget.new.words)) z x);
      buckets = c.append-stored.ensures.buckets ∙ c.loop.invariant.buckets;
    }
