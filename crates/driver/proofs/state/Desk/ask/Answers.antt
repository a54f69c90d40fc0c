-- What is proved by hand of ask.
use Rattle.std.proofs.Common.{◌≡◌, ◌+◌, ◌-◌, length, take, drop, refl, ap, ◌∙◌, arith, length-drop}
use borrow.Rule.Slice.PartMut.{put_mid}
use Rattle.memo.specs.Record.{deep}
use Rattle.driver.specs.Rows.{work_words}
use Rattle.driver.specs.Says.{memo_in}
use Rattle.driver.proofs.Lent.{lent, whole, same_memo, area_on}
use Rattle.driver.proofs.Tells.{ask_turn}
use Rattle.driver.proofs.state.Desk.ask.Goals as goal

pub returns : goal.returns
returns c =
    let a = c.requires.area in
    let ws = c.args.mem.now in
    let known = c.args.self.known in
    let memo = c.args.self.memo in
    let f = c.args.self.frames in
    let r = c.args.self.rows in
    let v = c.push_work.new.work in
    let k = length ws - memo in
    let vs = put_mid memo k ws v in
    let wl = length-drop memo ws in
    let wh = whole memo ws in
    let vl : length v ≡ k = c.push_work.auto.work ∙ ap length wh ∙ wl in
    let l = lent memo k ws v refl vl (omega arith) in
    let w = drop memo ws in
    let added : deep (f + 10) (drop memo vs) ≡ work_words c.args.told.key c.args.told.count c.args.told.from c.args.q.now (deep f w) =
    ap (deep (f + 10)) l.work ∙ c.push_work.ensures.adds ∙ ap (λ q. work_words c.args.told.key c.args.told.count c.args.told.from c.args.q.now (deep f q)) wh in
    let rows : take r (drop memo vs) ≡ take r w = ap (take r) l.work ∙ c.push_work.ensures.below r (omega (arith, ap length wh)) ∙ ap (take r) wh in (
      area_on known memo r f r (f + 10) ws vs a l.long l.before (omega arith),
      l.before,
      ask_turn (memo_in known memo ws) (memo_in known memo vs) w (drop memo vs) r f c.args.told.key c.args.told.count c.args.told.from c.args.q.now (same_memo known memo ws vs a.low l.before) added rows,
    )
