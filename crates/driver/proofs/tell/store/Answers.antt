-- What is proved by hand of store.
use Rattle.std.proofs.Common.{◌≡◌, ◌+◌, ◌-◌, ◌*◌, length, take, drop, sym, ap, ◌∙◌, subst, arith, length-drop}
use Rattle.std.proofs.lemmas.List.{length-take-le}
use Rattle.memo.specs.Record.{made, gots_of, row_long}
use Rattle.memo.specs.Says.{StoreSays}
use Rattle.memo.proofs.Rows.{gots_are, row_whole, keys_long}
use Rattle.driver.proofs.Tells.{put_work, parts_of}
use Rattle.driver.proofs.tell.store.Goals as goal

pub append-requires-clause-asked : goal.append-requires-clause-asked
append-requires-clause-asked c =
    let w = c.args.work.now in
    let t = c.args.told in
    let h = length w - c.args.f in
    let dl = length-drop h w in
    let tl = length-take-le (h + 3 * t.count - h) (drop h w) (omega arith) in
    let lk : length c.put_in_order.new.asked ≡ 3 * t.count = c.put_in_order.auto.asked ∙ tl ∙ (omega arith) in
    let x = c.requires.told in
    let gs = x.0 in
    let o = parts_of t.count c.args.r c.args.f c.args.n t.from w c.put_in_order.new.asked c.requires.inside.0 c.requires.inside.1 c.requires.inside.2 lk gs x.1 x.2 x.3 x.4 c.put_in_order.ensures in
    let n = x.3 in
    (ap length o.keys1 ∙ keys_long gs ∙ ap (λ j. 3 * j) n, (λ i. row_long (sym n i) (o.row1 i)) ∙ row_whole gs ∙ sym (ap length o.row1))

pub returns : goal.returns
returns c =
    let w = c.args.work.now in
    let t = c.args.told in
    let h = length w - c.args.f in
    let dl = length-drop h w in
    let tl = length-take-le (h + 3 * t.count - h) (drop h w) (omega arith) in
    let lk : length c.put_in_order.new.asked ≡ 3 * t.count = c.put_in_order.auto.asked ∙ tl ∙ (omega arith) in
    let k = c.requires.inside in
    record {
      work = put_work t.count c.args.r c.args.f c.args.n t.from w c.put_in_order.new.asked k.0 k.1 k.2 lk;
      says = λ gs us e n row.
          let o = parts_of t.count c.args.r c.args.f c.args.n t.from w c.put_in_order.new.asked k.0 k.1 k.2 lk gs us e n row c.put_in_order.ensures in
          let a = c.append.ensures in
          let is = (λ i. made t.key (o.ans1 i) (gots_of (sym n i) (o.keys1 i) (o.row1 i))) ∙ ap (made t.key (take c.args.n (drop c.args.r w))) (gots_are gs) in
          record { fits = a.fits; says = subst (λ q. StoreSays q c.args.memo.now c.append.new.words c.append.result) is a.says; keeps = a.keeps; buckets = a.buckets };
    }
