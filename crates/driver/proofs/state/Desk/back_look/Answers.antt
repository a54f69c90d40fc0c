-- What is proved by hand of back_look.
use Rattle.std.proofs.Common.{◌-◌, sym, refl, subst, arith, length-drop}
use Rattle.std.specs.Prelude.{Ok}
use Rattle.driver.specs.Doing.{BackSays}
use Rattle.driver.proofs.Lent.{area_on}
use Rattle.driver.proofs.Calls.{back_same, back_other}
use Rattle.driver.proofs.state.Desk.back_look.Goals as goal

pub returns : goal.returns
returns c =
    let s = c.args.self in
    back_same s.known s.memo s.rows s.frames c.args.n c.args.mem.now c.args.k.now c.args.depth c.args.here.index c.args.here.place c.requires.reads c.in-Some.next c.in-Some.ensures c.look.new.mem c.look.result c.look.ensures

pub returns-in_default : goal.returns-in_default
returns-in_default c =
    let s = c.args.self in
    let ws = c.args.mem.now in
    let l = length-drop s.memo ws in
    subst (λ t. BackSays s c.args.n ws ws (Ok t)) (sym c.start.ensures) (
      area_on s.known s.memo s.rows s.frames s.rows (s.frames - 7) ws ws c.requires.area refl refl (omega arith),
      refl,
      back_other s.known s.memo s.rows s.frames c.args.n ws c.args.k.now c.args.depth c.args.here.index c.args.here.place c.requires.reads c.in_default.ensures (omega arith),
    )
