-- What is proved by hand of turn.
use Rattle.std.proofs.Common.{◌≡◌, ℕ, ◌+◌, take, drop, sym, refl, ap, ◌∙◌, subst, arith, length-drop}
use Rattle.driver.specs.declared.state.Now.{Now}
use Rattle.driver.specs.Says.{memo_in}
use Rattle.driver.specs.Doing.{Doing}
use Rattle.driver.specs.Turns.{tellings, TurnSays}
use Rattle.driver.proofs.Moves.{back_there, tell_there, tell_row, turn_input, turn_kept, turn_back, turn_tell}
use Rattle.driver.proofs.state.Desk.turn.Goals as goal

none_told : (x : ℕ) (t s : Now) → t ≡ s → tellings s ≡ 0 → x ≡ x + tellings t
none_told x t s e z = let a = ap tellings e in omega (arith, a, z)

pub returns-then-is_input : goal.returns-then-is_input
returns-then-is_input g c =
    let ws = c.args.mem.now in
    let s = c.args.self in
    let b = g.R.Rules.book c.args.rules.now in
    let i = g.I.Inputs.given c.args.inputs.now (take s.known ws) in
    record {
      book1 = refl;
      runs1 = none_told _ _ _ c.in-Call.is refl;
      says = subst (λ n. TurnSays b i s n ws c.call_input.new.mem c.call_input.result) (sym c.in-Call.is) (turn_input b i s.known s.memo s.rows s.frames ws c.requires.area c.in-Call.k (sym c.if-is_input.ensures) c.call_input.new.mem c.call_input.result c.call_input.ensures);
    }

pub back_frame-requires : goal.back_frame-requires
back_frame-requires g c =
    let ws = c.args.mem.now in
    let s = c.args.self in
    let th = c.requires.there in
    let ms = memo_in s.known s.memo ws in
    let w = drop s.memo ws in
    record { area = c.requires.area; there = back_there ms w s.rows s.frames c.in-Back.n th.0 th.1 (subst (λ n. Doing ms w s.rows s.frames n th.0) c.in-Back.is th.2) }

pub tell_rule-requires : goal.tell_rule-requires
tell_rule-requires g c =
    let ws = c.args.mem.now in
    let s = c.args.self in
    let th = c.requires.there in
    let ms = memo_in s.known s.memo ws in
    let w = drop s.memo ws in
    let a = c.in-Tell in
    let x = tell_there ms w s.rows s.frames a.told.key a.told.count a.told.from th.0 (subst (λ n. Doing ms w s.rows s.frames n th.0) a.is th.2) in
    let l = length-drop s.memo ws in
    let h = c.requires.area.high in
    let y = tell_row ms w s.rows s.frames a.told.key a.told.count a.told.from x.0 a.told.key x.1 x.2 (omega (arith, l, h)) x.3 in
    let y0 = y.0 in
    record { area = c.requires.area; runs1 = c.requires.runs1; row = (omega (arith, y0), y.1); told = x }

pub returns-else-is_input : goal.returns-else-is_input
returns-else-is_input g c =
    let ws = c.args.mem.now in
    let s = c.args.self in
    let b = g.R.Rules.book c.args.rules.now in
    let i = g.I.Inputs.given c.args.inputs.now (take s.known ws) in
    record {
      book1 = refl;
      runs1 = none_told _ _ _ c.in-Call.is refl;
      says = subst (λ n. TurnSays b i s n ws c.call_kept.new.mem c.call_kept.result) (sym c.in-Call.is) (turn_kept b i s.known s.memo s.rows s.frames ws c.requires.area c.in-Call.k (sym c.if-is_input.ensures) c.call_kept.new.mem c.call_kept.result c.call_kept.ensures);
    }

pub returns-in-Back : goal.returns-in-Back
returns-in-Back g c =
    let ws = c.args.mem.now in
    let s = c.args.self in
    let b = g.R.Rules.book c.args.rules.now in
    let i = g.I.Inputs.given c.args.inputs.now (take s.known ws) in
    record {
      book1 = refl;
      runs1 = none_told _ _ _ c.in-Back.is refl;
      says = subst (λ n. TurnSays b i s n ws c.back_frame.new.mem c.back_frame.result) (sym c.in-Back.is) (turn_back b i s.known s.memo s.rows s.frames ws c.requires.area c.in-Back.n c.back_frame.new.mem c.back_frame.result c.back_frame.ensures);
    }

pub returns-in-Tell : goal.returns-in-Tell
returns-in-Tell g c =
    let ws = c.args.mem.now in
    let s = c.args.self in
    let b = g.R.Rules.book c.args.rules.now in
    let i = g.I.Inputs.given c.args.inputs.now (take s.known ws) in
    let a = c.in-Tell in
    record {
      book1 = c.tell_rule.ensures.book1;
      runs1 = c.tell_rule.ensures.runs1 ∙ ap (λ n. g.R.Rules.runs c.args.rules.now + tellings n) (sym a.is);
      says = subst (λ n. TurnSays b i s n ws c.tell_rule.new.mem c.tell_rule.result) (sym a.is) (turn_tell b i s.known s.memo s.rows s.frames ws c.requires.area a.told.key a.told.count a.told.from c.tell_rule.new.mem c.tell_rule.result c.tell_rule.ensures.says);
    }
