-- What is proved by hand of call_input.
use Rattle.std.proofs.Common.{◌≡◌, ◌+◌, ◌-◌, ◌≤◌, ◌++◌, length, take, drop, sym, ap, ◌∙◌, subst, arith, length-drop}
use Rattle.std.specs.Prelude.{Ok}
use Rattle.std.proofs.lemmas.List.{take-take, length-take-le}
use Rattle.std.proofs.lemmas.Result.{err_from_is_err_and}
use Rattle.engine.specs.Says.{InputSays}
use Rattle.driver.specs.Doing.{HandSays}
use Rattle.driver.proofs.Hands.{hand_before, hand_area, hand_turn}
use Rattle.driver.proofs.state.Desk.call_input.Goals as goal

pub returns-in_err-n : goal.returns-in_err-n
returns-in_err-n g c =
    let s = c.args.self in
    let ws = c.args.mem.now in
    let f = s.frames in
    let lent = take (length ws - f) ws in
    let y = c.get.new.words in
    let from = drop (s.memo + (s.rows + 1)) lent in
    let says = subst (λ r. InputSays (g.I.Inputs.given c.args.inputs.now (take s.known lent) c.args.k.now) from (drop (s.memo + (s.rows + 1)) y) r) c.in_err-n.ensures.ok_part c.get.ensures.1.1 in
    let rm = c.room.ensures in
    let el : length lent ≡ length ws - f = length-take-le (length ws - f) ws (omega arith) in
    let ly : length y ≡ length ws - f = c.get.ensures.0 ∙ el in
    let et : take s.known lent ≡ take s.known ws = take-take s.known (length ws - f) ws (omega arith) in
    let ea = ap (λ q. length (g.I.Inputs.given c.args.inputs.now q c.args.k.now)) et in
    let dl = length-drop (s.memo + (s.rows + 1)) lent in
    let p = err_from_is_err_and c.from_residual.result c.from_residual.ensures.1 in
    subst (HandSays s (g.I.Inputs.given c.args.inputs.now (take s.known ws) c.args.k.now) ws (y ++ drop (length ws - f) ws)) (sym p.1) (hand_before s.known s.memo s.rows f ws y c.requires (omega arith) ly c.get.ensures.1.0, omega arith)

pub returns : goal.returns
returns g c =
    let s = c.args.self in
    let ws = c.args.mem.now in
    let f = s.frames in
    let r = s.rows in
    let lent = take (length ws - f) ws in
    let y = c.get.new.words in
    let n = c.in_ok-n.n in
    let says = subst (λ o. InputSays (g.I.Inputs.given c.args.inputs.now (take s.known lent) c.args.k.now) (drop (s.memo + (r + 1)) lent) (drop (s.memo + (r + 1)) y) o) c.in_ok-n.ensures.ok_part c.get.ensures.1.1 in
    let rm = c.room.ensures in
    let el : length lent ≡ length ws - f = length-take-le (length ws - f) ws (omega arith) in
    let ly : length y ≡ length ws - f = c.get.ensures.0 ∙ el in
    let fit : s.memo + (r + 1) + f ≤ length ws = omega arith in
    let et : take s.known lent ≡ take s.known ws = take-take s.known (length ws - f) ws (omega arith) in
    let ea = ap (λ q. g.I.Inputs.given c.args.inputs.now q c.args.k.now) et in
    subst (λ t. HandSays s (g.I.Inputs.given c.args.inputs.now (take s.known ws) c.args.k.now) ws (y ++ drop (length ws - f) ws) (Ok t)) (sym c.at.ensures) (
      hand_area s.known s.memo r f ws y c.requires fit ly c.get.ensures.1.0,
      hand_before s.known s.memo r f ws y c.requires fit ly c.get.ensures.1.0,
      hand_turn s.known s.memo r f ws y c.requires fit ly c.get.ensures.1.0 (g.I.Inputs.given c.args.inputs.now (take s.known ws) c.args.k.now) n (says.0 ∙ ap length ea) (says.1 ∙ ea),
    )
