use Rattle.std.proofs.Common.{◌≡◌, Some, None, subst, sym, rules, tests}
use mathlib.Core.Option.{some}
use Rattle.std.proofs.lemmas.Iterator.{YieldsList-from_slice}
use Rattle.std.proofs.lemmas.Iterator.Search.{find_from_yields_List}
use Rattle.base.specs.Base.{same}
use Rattle.semantics.specs.Check.{field_of}
use Rattle.checker.specs.Rows.{slot_type}
use Rattle.checker.specs.Types.{typed, FieldTyped}
use Rattle.world.specs.World.{small_world, sig_of}
use Rattle.world.proofs.Fit.{found_says}
use Rattle.world.proofs.world.WorldLookup.field.Goals as goal

pub returns-in_err-slot-clause-is : goal.returns-in_err-slot-clause-is
returns-in_err-slot-clause-is c =
    let w = c.word_of-name.result.now in
    let card = c.card_of-card.result in
    let d = sig_of c.args.sig.0 in
    let says = found_says card d c.card_of-card.ensures.says w None (find_from_yields_List (λ s. same w s.name.now) _ _ None c.in_err-slot.ensures.ran (YieldsList-from_slice card.slots.now cc) (λ x b q k. search (rules, tests))) in
    let back : c.from_residual.result ≡ None = search rules in
    subst (λ v. FieldTyped small_world d.slots v c.from_residual.result) c.word_of-name.ensures (subst (FieldTyped small_world d.slots w) (sym back) says)

pub returns-clause-small : goal.returns-clause-small
returns-clause-small c =
    let w = c.word_of-name.result.now in
    let card = c.card_of-card.result in
    let d = sig_of c.args.sig.0 in
    (found_says card d c.card_of-card.ensures.says w (Some c.in_ok-slot.slot.now) (find_from_yields_List (λ s. same w s.name.now) c.find.new.self _ (Some c.in_ok-slot.slot) c.in_ok-slot.ensures.ran (YieldsList-from_slice card.slots.now c.iter.ensures.rest) (λ x b q k. search (rules, tests)))).1

pub returns-clause-is : goal.returns-clause-is
returns-clause-is c =
    let w = c.word_of-name.result.now in
    let card = c.card_of-card.result in
    let d = sig_of c.args.sig.0 in
    let says = found_says card d c.card_of-card.ensures.says w (Some c.in_ok-slot.slot.now) (find_from_yields_List (λ s. same w s.name.now) c.find.new.self _ (Some c.in_ok-slot.slot) c.in_ok-slot.ensures.ran (YieldsList-from_slice card.slots.now c.iter.ensures.rest) (λ x b q k. search (rules, tests))) in
    subst (λ v. slot_type (field_of d.slots v) ≡ some (typed small_world c.in_ok-slot.slot.now.ty)) c.word_of-name.ensures says.0
