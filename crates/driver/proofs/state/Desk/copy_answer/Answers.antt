-- What is proved by hand of copy_answer.
use Rattle.std.proofs.Common.{◌≡◌, ◌+◌, ◌-◌, length, take, drop, sym, ap, ◌∙◌, subst, arith, length-drop}
use borrow.Rule.Slice.PartMut.{put_mid}
use Rattle.memo.specs.Record.{deep, puts}
use Rattle.memo.specs.Log.{Fits, Record, entry_at}
use Rattle.memo.proofs.Puts.{putMid_puts, length_puts}
use Rattle.driver.proofs.Words.{placed}
use Rattle.driver.proofs.Lent.{front_memo, parted_same, shorter}
use Rattle.driver.proofs.state.Desk.copy_answer.Goals as goal

pub answer-answer-requires : goal.answer-answer-requires
answer-answer-requires c =
    let s = c.args.self in
    let e = sym (front_memo s.known s.memo c.args.mem.now c.split_at_mut-front.result.0.now c.requires.area.low c.split_at_mut-front.ensures.front) in
    (subst Fits e c.requires.area.fits, subst (λ q. Record q c.args.depth) e c.requires.record1)

pub returns : goal.returns
returns c =
    let s = c.args.self in
    let ws = c.args.mem.now in
    let t = s.rows + 1 in
    let a = c.answer-answer.result.now in
    let u = c.split_at_mut-front.result.0.now in
    let w0 = c.split_at_mut-front.result.1.now in
    let back = c.split_at_mut-front.ensures.back in
    let e = front_memo s.known s.memo ws u c.requires.area.low c.split_at_mut-front.ensures.front in
    let ea = c.answer-answer.ensures ∙ ap (λ q. (entry_at q c.args.depth).ans) e in
    let w1 = put_mid t (t + length a - t) w0 c.copy_from_slice.new.self in
    let p : w1 ≡ puts t a w0 = putMid_puts t _ w0 c.copy_from_slice.new.self a c.copy_from_slice.ensures.after (omega arith) in
    let wl = length-drop s.memo ws in
    let bl = ap length back in
    let lw : length w1 ≡ length w0 = ap length p ∙ length_puts t a w0 (omega arith) in
    let l = parted_same s.memo ws u w1 (omega arith) c.split_at_mut-front.ensures.front (omega arith) in
    let x = placed t a w0 w1 p (omega arith) in
    let vl = ap length l.work in (
      ap length ea,
      ap (λ q. take (length a) (drop t q)) l.work ∙ x.is ∙ ea,
      omega arith,
      l.long,
      l.before,
      ap (take s.rows) l.work ∙ shorter s.rows t w1 w0 (omega arith) x.below ∙ ap (take s.rows) back,
      ap (deep s.frames) l.work ∙ x.above s.frames (omega arith) ∙ ap (deep s.frames) back,
    )
