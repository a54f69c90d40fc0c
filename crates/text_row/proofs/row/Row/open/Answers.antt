-- What is proved by hand of open.
use Rattle.std.proofs.Common.{refl, ap, ◌∙◌, inl, inr, arith}
use Rattle.semantics.specs.Names.{Texts, find_file}
use Rattle.text_row.specs.Changes.{texts_in}
use Rattle.text_row.proofs.Changing.{too_large, no_change, same_long, same_texts, same_change, found_as, open_as}
use Rattle.text_row.proofs.row.Row.open.Goals as goal

pub returns-then-name-mem : goal.returns-then-name-mem
returns-then-name-mem c = record { kept = no_change _ _ _ c.requires; says = (refl, too_large _ c.args.name.now c.args.text.now (texts_in c.args.self.unit c.args.mem.now) (elim c.then-name-mem.either [ inl h ↦ omega arith | inr h ↦ omega (arith, h.1) ])) }

pub replace-requires : goal.replace-requires
replace-requires c = record { row = same_long _ _ _ c.requires _ c.find_named.auto.mem c.find_named.ensures.below; found = found_as _ _ _ c.requires _ c.find_named.auto.mem c.find_named.ensures.below _ _ c.in-Some.ensures.found; short = (omega (arith, c.if-name-mem.false, c.find_named.auto.mem), omega (arith, c.if-text-mem.false, c.find_named.auto.mem)) }

pub add-requires : goal.add-requires
add-requires c = record { row = same_long _ _ _ c.requires _ c.find_named.auto.mem c.find_named.ensures.below; missing = ap (λ (p : Texts). find_file p c.args.name.now) (same_texts _ _ _ c.requires _ c.find_named.auto.mem c.find_named.ensures.below) ∙ c.in-None.ensures.found; short = (omega (arith, c.if-name-mem.false, c.find_named.auto.mem), omega (arith, c.if-text-mem.false, c.find_named.auto.mem)) }

pub returns-in-Some : goal.returns-in-Some
returns-in-Some c = record { kept = same_change _ _ _ c.requires _ _ c.find_named.ensures.below c.replace.ensures.kept; says = open_as _ _ _ c.requires _ c.find_named.auto.mem c.find_named.ensures.below _ _ _ c.replace.result c.replace.ensures.says }

pub returns-in-None : goal.returns-in-None
returns-in-None c = record { kept = same_change _ _ _ c.requires _ _ c.find_named.ensures.below c.add.ensures.kept; says = open_as _ _ _ c.requires _ c.find_named.auto.mem c.find_named.ensures.below _ _ _ c.add.result c.add.ensures.says }
