-- What is proved by hand of tidy.
use Rattle.std.proofs.Common.{ℕ, List, length, drop, sym, ap, ◌∙◌, subst, inr, arith}
use Rattle.std.specs.Prelude.{Result, Ok, Err, ⊤}
use Rattle.memo.specs.declared.log.NoRoom.{NoRoom}
use Rattle.memo.specs.Log.{Fits, kept_entries, spare, capacity}
use Rattle.memo.specs.Says.{RepackSays}
use Rattle.driver.specs.Says.{memo_in}
use Rattle.driver.specs.Bringing.{TidySays}
use Rattle.driver.proofs.Lent.{memo_long, front_memo, parted}
use Rattle.driver.proofs.state.Desk.tidy.Goals as goal

tidied : (ws vs : List ℕ) (n : ℕ) (r : Result ⊤ NoRoom) → RepackSays ws vs n r → TidySays ws vs n r
tidied ws vs n (Ok u) s = (s.0, inr s.1)
tidied ws vs n (Err e) s = (ap kept_entries s.0, s.1)

pub overflow_sub-used : goal.overflow_sub-used
unfolding spare capacity
overflow_sub-used c = let a = c.spare.ensures in let b = c.capacity-room.ensures in omega arith

pub overflow_mul-used : goal.overflow_mul-used
unfolding spare capacity
overflow_mul-used c =
    let a = c.spare.ensures in
    let b = c.capacity-room.ensures in
    let k = ap length c.kept-kept.ensures in
    let l = memo_long c.args.mem.now c.args.self.known c.args.self.memo c.requires.low (omega arith) in
    omega arith

pub repack-requires : goal.repack-requires
repack-requires c =
    let s = c.args.self in
    let u = c.split_at_mut-front.result.0.now in
    let e = front_memo s.known s.memo c.args.mem.now u c.requires.low c.split_at_mut-front.ensures.front in
    let el = ap length e in
    let l = memo_long c.args.mem.now s.known s.memo c.requires.low (omega arith) in
    let b = c.split_at_mut-front.ensures.back_len in
    (subst Fits (sym e) c.requires.fits, (omega arith, omega arith))

pub returns-clause-fits : goal.returns-clause-fits
returns-clause-fits c =
    let s = c.args.self in
    let ws = c.args.mem.now in
    let u = c.split_at_mut-front.result.0.now in
    let front = c.split_at_mut-front.ensures.front in
    let e = front_memo s.known s.memo ws u c.requires.low front in
    let l = memo_long ws s.known s.memo c.requires.low (omega arith) in
    let p = parted s.known s.memo ws u c.repack.new.words c.repack.new.work c.requires.low (omega arith) front (c.repack.auto.words ∙ ap length e ∙ l) in
    subst Fits (sym p.memo1) c.repack.ensures.fits

pub returns-clause-says : goal.returns-clause-says
returns-clause-says c =
    let s = c.args.self in
    let ws = c.args.mem.now in
    let u = c.split_at_mut-front.result.0.now in
    let front = c.split_at_mut-front.ensures.front in
    let e = front_memo s.known s.memo ws u c.requires.low front in
    let l = memo_long ws s.known s.memo c.requires.low (omega arith) in
    let p = parted s.known s.memo ws u c.repack.new.words c.repack.new.work c.requires.low (omega arith) front (c.repack.auto.words ∙ ap length e ∙ l) in
    let r = c.repack.result in
    let n = ap length c.split_at_mut-front.ensures.back in
    let t = tidied _ _ _ r c.repack.ensures.says in
    subst (λ q. TidySays (memo_in s.known s.memo ws) q (length (drop s.memo ws)) r) (sym p.memo1) (subst (λ q. TidySays (memo_in s.known s.memo ws) c.repack.new.words q r) n (subst (λ q. TidySays q c.repack.new.words (length c.split_at_mut-front.result.1.now) r) e t))
