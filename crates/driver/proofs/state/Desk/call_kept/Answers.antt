-- What is proved by hand of call_kept.
use Rattle.std.proofs.Common.{◌≡◌, drop, sym, refl, subst, arith, length-drop}
use Rattle.std.specs.Prelude.{Ok}
use mathlib.Core.Option.{some, none}
use Rattle.engine.specs.Engine.{find}
use Rattle.memo.specs.Log.{kept_entries, entry_at}
use Rattle.driver.specs.Says.{memo_in}
use Rattle.driver.specs.Doing.{CallSays, LookSays}
use Rattle.driver.proofs.Calls.{call_none, call_look}
use Rattle.driver.proofs.state.Desk.call_kept.Goals as goal

pub returns-in_default : goal.returns-in_default
returns-in_default c =
    let s = c.args.self in
    let ws = c.args.mem.now in
    let l = length-drop s.memo ws in
    subst (λ t. CallSays s c.args.k.now ws ws (Ok t)) (sym c.start.ensures) (c.requires, refl, call_none (memo_in s.known s.memo ws) (drop s.memo ws) s.rows s.frames c.args.k.now (omega arith) (subst (λ q. find (kept_entries q) c.args.k.now ≡ none) c.kept.ensures c.in_default.ensures.is))

pub returns : goal.returns
returns c =
    let s = c.args.self in
    let k = c.args.k.now in
    let ws = c.args.mem.now in
    let d = c.in-Some.record.depth in
    let f = subst (λ q. find (kept_entries q) k ≡ some (entry_at q d)) c.kept.ensures c.in-Some.ensures.is.1 in
    let x = subst (λ i. LookSays s k d i ws c.look.new.mem c.look.result) c.first-here.ensures.is c.look.ensures in
    call_look s.known s.memo s.rows s.frames k d ws c.look.new.mem f c.look.result x
