use Rattle.std.proofs.Common.{◌≡◌, ◌≤◌, length, drop, Some, None, sym, refl, ap, ◌∙◌, rules}
use Rattle.std.specs.List.{slice_get}
use Rattle.std.proofs.lemmas.Option.{slice_get_past, slice_get_read}
use Rattle.semantics.specs.Walk.{first_slot}
use Rattle.checker.specs.Types.{typed}
use Rattle.world.specs.World.{small_world}
use Rattle.world.proofs.Fit.{past, within}
use Rattle.world.proofs.world.WorldLookup.slot.Goals as goal

pub returns-in_err-slot-clause-is : goal.returns-in_err-slot-clause-is
returns-in_err-slot-clause-is c =
    let ss = c.card_of.result.slots.now in
    let back : c.from_residual.result ≡ None = search rules in
    let behind : length ss ≤ c.args.index = search rules in
    ap (typed small_world) back ∙ sym (past ss c.args.index (slice_get_past ss c.args.index behind)) ∙ ap (λ x. first_slot (drop c.args.index x)) c.card_of.ensures.says.slots

pub returns-clause-small : goal.returns-clause-small
returns-clause-small c =
    let ss = c.card_of.result.slots.now in
    let found : slice_get ss c.args.index ≡ Some c.in_ok-slot.slot.now = slice_get_read ss (length ss) c.args.index c.in_ok-slot.slot.now refl c.in_ok-slot.ensures.lookup.3.0 c.in_ok-slot.ensures.lookup.1 in
    (within ss c.args.index c.in_ok-slot.slot.now c.card_of.ensures.says.cells_small found).0

pub returns-clause-is : goal.returns-clause-is
returns-clause-is c =
    let ss = c.card_of.result.slots.now in
    let found : slice_get ss c.args.index ≡ Some c.in_ok-slot.slot.now = slice_get_read ss (length ss) c.args.index c.in_ok-slot.slot.now refl c.in_ok-slot.ensures.lookup.3.0 c.in_ok-slot.ensures.lookup.1 in
    (within ss c.args.index c.in_ok-slot.slot.now c.card_of.ensures.says.cells_small found).1 ∙ ap (λ x. first_slot (drop c.args.index x)) c.card_of.ensures.says.slots
