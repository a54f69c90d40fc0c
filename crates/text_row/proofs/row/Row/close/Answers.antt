-- What is proved by hand of close.
use Rattle.std.proofs.Common.{true, subst}
use Rattle.semantics.specs.Names.{Texts}
use Rattle.text_row.specs.Changes.{texts_in, CloseSays}
use Rattle.text_row.proofs.Changing.{no_change, long_in, same_long, same_texts, same_change, found_as}
use Rattle.text_row.proofs.Closing.{not_open, can_drop, close_changed, close_says}
use Rattle.text_row.proofs.row.Row.close.Goals as goal

pub returns-in_default : goal.returns-in_default
returns-in_default c = record { kept = same_change _ _ _ c.requires _ _ c.find_named.ensures.below (no_change _ _ _ (same_long _ _ _ c.requires _ c.find_named.auto.mem c.find_named.ensures.below)); says = not_open _ _ _ (same_texts _ _ _ c.requires _ c.find_named.auto.mem c.find_named.ensures.below) c.in_default.ensures.found }

pub name_of-f-requires : goal.name_of-f-requires
name_of-f-requires c = let r = same_long _ _ _ c.requires _ c.find_named.auto.mem c.find_named.ensures.below in (r.order.fits, ((found_as _ _ _ c.requires _ c.find_named.auto.mem c.find_named.ensures.below _ _ c.in-Some.ensures.found).there, long_in _ _ _ r))

pub drop_files-requires : goal.drop_files-requires
drop_files-requires c = can_drop _ _ _ _ _ (same_long _ _ _ c.requires _ c.find_named.auto.mem c.find_named.ensures.below) (found_as _ _ _ c.requires _ c.find_named.auto.mem c.find_named.ensures.below _ _ c.in-Some.ensures.found) _ c.name_of-f.ensures.1

pub returns : goal.returns
returns c =
    let r = same_long _ _ _ c.requires _ c.find_named.auto.mem c.find_named.ensures.below in
    let f = found_as _ _ _ c.requires _ c.find_named.auto.mem c.find_named.ensures.below _ _ c.in-Some.ensures.found in
    record { kept = same_change _ _ _ c.requires _ _ c.find_named.ensures.below (close_changed _ _ _ _ _ r f _ c.name_of-f.ensures.1 _ c.drop_files.auto.mem (rw c.name_of-f.ensures.2 at c.drop_files.ensures)); says = subst (λ (p : Texts). CloseSays p c.args.name.now (texts_in c.args.self.unit c.drop_files.new.mem) true) (same_texts _ _ _ c.requires _ c.find_named.auto.mem c.find_named.ensures.below) (close_says _ _ _ _ _ r f _ c.name_of-f.ensures.1 _ c.drop_files.auto.mem (rw c.name_of-f.ensures.2 at c.drop_files.ensures)) }
