-- What is proved by hand of pop.
use Rattle.std.proofs.Common.{◌≡◌, suc, ◌-◌, get_or, sym, ap, ◌∙◌, subst, arith}
use Rattle.memo.specs.Log.{Fits, pointed, bucket}
use Rattle.memo.specs.Says.{Popped}
use Rattle.memo.proofs.Pops.{sized, pop_fits, pop_popped, pop_buckets}
use Rattle.memo.proofs.mark.pop.Goals as goal

pub size-size-requires : goal.size-size-requires
size-size-requires c =
    let ws = c.args.words.now in
    let p = c.requires.1 in
    let r = c.requires.0.room in
    let s = sized ws c.requires.0 (get_or ws 1 0 - 1) (omega arith) in
    (omega arith, omega arith)

pub key-requires : goal.key-requires
key-requires c =
    let ws = c.args.words.now in
    let p = c.requires.1 in
    let r = c.requires.0.room in
    let s = sized ws c.requires.0 (get_or ws 1 0 - 1) (omega arith) in
    (omega arith, omega arith)

pub word-prev-requires : goal.word-prev-requires
word-prev-requires c =
    let ws = c.args.words.now in
    let p = c.requires.1 in
    let r = c.requires.0.room in
    let s = sized ws c.requires.0 (get_or ws 1 0 - 1) (omega arith) in
    (omega arith, omega arith)

pub overflow_sub-depth : goal.overflow_sub-depth
overflow_sub-depth c =
    let ws = c.args.words.now in
    let p = c.requires.1 in
    let e = c.size-size.ensures in
    let s = sized ws c.requires.0 (get_or ws 1 0 - 1) (omega arith) in
    omega arith

pub returns : goal.returns
returns c =
    let ws = c.args.words.now in
    let p = c.requires.1 in
    let n = get_or ws 1 0 - 1 in
    let en : get_or ws 1 0 ≡ suc n = omega arith in
    let eb = c.bucket_of-b.ensures.is ∙ ap (λ k. bucket k (get_or ws 2 0)) c.key.ensures in
    let ep = c.word-prev.ensures in
    let es = c.size-size.ensures in
    let e = c.point.ensures ∙ (λ t. pointed ws (eb t) (ep t) (get_or ws 0 0 - es t) n) in
    record { fits = subst Fits (sym e) (pop_fits ws c.requires.0 n en); popped = subst (Popped ws) (sym e) (pop_popped ws c.requires.0 n en); buckets = ap (λ v. get_or v 2 0) e ∙ pop_buckets ws c.requires.0 n en }
