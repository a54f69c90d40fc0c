-- What is proved by hand of back_frame.
use Rattle.std.proofs.Common.{◌≡◌, ◌-◌, ◌∷◌, length, drop, sym, refl, ap, ◌∙◌, subst, arith, length-drop}
use Rattle.engine.specs.Machine.{works, back, backed}
use Rattle.driver.specs.declared.state.Now.TheVariants.{Back}
use Rattle.driver.specs.declared.stack.Head.TheVariants.{Looks, Works}
use borrow.Rule.Slice.PartMut.{put_mid}
use Rattle.memo.specs.Record.{deep}
use Rattle.memo.proofs.Places.{deep_long}
use Rattle.driver.specs.Says.{memo_in, HeadSays}
use Rattle.driver.specs.Doing.{Doing}
use Rattle.driver.proofs.Lent.{lent, whole, same_memo, area_on}
use Rattle.driver.proofs.Returns.{frame_seven, looks_there, return_look, return_work}
use Rattle.driver.proofs.state.Desk.back_frame.Goals as goal

pub newest-requires : goal.newest-requires
newest-requires c =
    let s = c.args.self in
    let ws = c.args.mem.now in
    let t = c.requires.there in
    let q = frame_seven _ _ _ t.2 t.3 t.4.4 in
    let wl = length-drop s.memo ws in
    let w = ap length (whole s.memo ws) in
    let d = deep_long (drop s.memo ws) s.frames (omega arith) in
    (omega arith, omega arith)

pub back_look-requires : goal.back_look-requires
back_look-requires c =
    let s = c.args.self in
    let ws = c.args.mem.now in
    let t = c.requires.there in
    let q = frame_seven _ _ _ t.2 t.3 t.4.4 in
    let wl = length-drop s.memo ws in
    let d = deep_long (drop s.memo ws) s.frames (omega arith) in
    let a = c.in-Looks in
    let h = subst (λ q. HeadSays (Looks a.key a.depth a.here) (deep s.frames q) (deep (s.frames - 7) q)) (whole s.memo ws) a.ensures in
    let room = t.4.2 in
    record { area = c.requires.area; room = (omega arith, omega arith); reads = h; looks = looks_there _ _ _ _ _ _ _ _ t.2 t.3 h t.4.4 }

pub returns-in-Looks : goal.returns-in-Looks
returns-in-Looks c =
    let s = c.args.self in
    let ws = c.args.mem.now in
    let a = c.in-Looks in
    let h = subst (λ q. HeadSays (Looks a.key a.depth a.here) (deep s.frames q) (deep (s.frames - 7) q)) (whole s.memo ws) a.ensures in
    return_look s.known s.memo s.rows s.frames c.args.n ws _ _ _ _ _ h c.back_look.new.mem c.back_look.result c.back_look.ensures

pub returns-in-Works : goal.returns-in-Works
returns-in-Works c =
    let s = c.args.self in
    let ws = c.args.mem.now in
    let memo = s.memo in
    let r = s.rows in
    let f = s.frames in
    let n = c.args.n in
    let a = c.requires.area in
    let v = c.back_work.new.work in
    let k = length ws - memo in
    let vs = put_mid memo k ws v in
    let wl = length-drop memo ws in
    let wh = whole memo ws in
    let vl : length v ≡ k = c.back_work.auto.work ∙ ap length wh ∙ wl in
    let l = lent memo k ws v refl vl (omega arith) in
    let t = c.back_work.result in
    let b = c.back_work.ensures in
    let rm = b.room in
    let lw = ap length wh in
    let told = c.in-Works.told in
    let h = subst (λ q. HeadSays (Works told) (deep f q) (deep (f - 7) q)) wh c.in-Works.ensures in
    let ms = memo_in s.known memo ws in
    let en = same_memo s.known memo ws vs a.low l.before in (
      area_on s.known memo r f t.rows t.frames ws vs a l.long l.before (omega arith),
      l.before,
      return_work s.known memo r f n ws _ told h (memo_in s.known memo vs) (drop memo vs) t
          (λ m x j gs q st d. subst (λ ms. Doing ms (drop memo vs) t.rows t.frames t.now (backed m x (works j gs q ∷ st))) (sym en) (subst (λ u. Doing ms u t.rows t.frames t.now (backed m x (works j gs q ∷ st))) (sym l.work) (b.says ms m x j gs q st (subst (λ u. Doing ms u r f (Back n) (back m x (works j gs q ∷ st))) (sym wh) d)))),
    )
