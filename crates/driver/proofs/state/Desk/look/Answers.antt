-- What is proved by hand of look.
use Rattle.std.proofs.Common.{◌≡◌, ◌+◌, ◌-◌, length, take, drop, sym, refl, ap, ◌∙◌, subst, arith, length-drop}
use Rattle.std.specs.Prelude.{Ok}
use borrow.Rule.Slice.PartMut.{put_mid}
use Rattle.memo.specs.Record.{deep}
use Rattle.memo.specs.Says.{GotSays}
use Rattle.memo.specs.Log.{entry_at}
use Rattle.memo.proofs.Gots.{looking}
use Rattle.driver.specs.Rows.{look_words}
use Rattle.driver.specs.Says.{memo_in}
use Rattle.driver.specs.Doing.{LookSays}
use Rattle.driver.proofs.Lent.{memo_long, lent, whole, same_memo, area_on}
use Rattle.driver.proofs.Looked.{look_next, look_end}
use Rattle.driver.proofs.state.Desk.look.Goals as goal

pub push_head-requires : goal.push_head-requires
push_head-requires c =
    let s = c.args.self in
    let ws = c.args.mem.now in
    let a = c.requires.area in
    let n = c.asked.ensures ∙ ap (λ q. length (entry_at q c.args.depth).gots) c.kept.ensures in
    let l = looking (memo_in s.known s.memo ws) c.args.depth c.args.here.index c.args.here.place a.fits c.requires.looks (omega arith) in
    let ml = memo_long ws s.known s.memo a.low (omega arith) in
    let wl = length-drop s.memo ws in
    let wh = ap length (whole s.memo ws) in
    let rm = c.room.ensures in
    (omega arith, (omega arith, omega arith, omega arith))

pub returns-then-here-asked : goal.returns-then-here-asked
returns-then-here-asked c =
    let s = c.args.self in
    let a = c.requires.area in
    let ws = c.args.mem.now in
    let memo = s.memo in
    let f = s.frames in
    let r = s.rows in
    let d = c.args.depth in
    let i = c.args.here.index in
    let q = c.args.here.place in
    let v = c.push_head.new.work in
    let k = length ws - memo in
    let vs = put_mid memo k ws v in
    let wl = length-drop memo ws in
    let wh = whole memo ws in
    let rm = c.room.ensures in
    let vl : length v ≡ k = c.push_head.auto.work ∙ ap length wh ∙ wl in
    let l = lent memo k ws v refl vl (omega arith) in
    let b = l.before in
    let w = drop memo ws in
    let added : deep (f + 7) (drop memo vs) ≡ look_words c.args.k.now d i q (deep f w) = ap (deep (f + 7)) l.work ∙ c.push_head.ensures.adds ∙ ap (λ x. look_words c.args.k.now d i q (deep f x)) wh in
    let rows : take r (drop memo vs) ≡ take r w = ap (take r) l.work ∙ c.push_head.ensures.below r (omega (arith, ap length wh)) ∙ ap (take r) wh in
    let g = subst (λ x. GotSays x d i c.got.result.key c.got.result.ans.now c.got.result.next.place) c.kept.ensures c.got.ensures.says in (
      area_on s.known memo r f r (f + 7) ws vs a l.long b (omega arith),
      b,
      look_next (memo_in s.known memo ws) (memo_in s.known memo vs) w (drop memo vs) r f d i q c.args.k.now _ _ _ (same_memo s.known memo ws vs a.low b) c.requires.looks g added rows,
    )

pub returns : goal.returns
returns c =
    let s = c.args.self in
    let a = c.requires.area in
    let ws = c.args.mem.now in
    let memo = s.memo in
    let vs = c.copy_answer.new.mem in
    let x = c.in_ok-n.ensures in
    let b = x.4 in
    let n = c.asked.ensures ∙ ap (λ q. length (entry_at q c.args.depth).gots) c.kept.ensures in
    subst (λ t. LookSays s c.args.k.now c.args.depth c.args.here.index ws vs (Ok t)) (sym c.at.ensures) (
      area_on s.known memo s.rows s.frames s.rows s.frames ws vs a x.3 b (omega arith),
      b,
      look_end (memo_in s.known memo ws) (memo_in s.known memo vs) (drop memo ws) (drop memo vs) s.rows s.frames c.args.depth c.args.here.index c.in_ok-n.n c.args.k.now (same_memo s.known memo ws vs a.low b) (omega arith) x.0 x.1 x.2 x.5 x.6,
    )
