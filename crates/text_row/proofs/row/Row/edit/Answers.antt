-- What is proved by hand of edit.
use Rattle.std.proofs.Common.{◌≡◌, Some, None, Err, arith, rules}
use Rattle.interner.specs.declared.refused.Refused.TheVariants.{NoFile}
use Rattle.text_row.proofs.Changing.{no_change, same_long, same_texts, same_change, found_as, edit_as}
use Rattle.text_row.proofs.row.Row.edit.Goals as goal

pub returns-in_err-k-clause-kept : goal.returns-in_err-k-clause-kept
returns-in_err-k-clause-kept c = same_change _ _ _ c.requires _ _ c.find_named.ensures.below (no_change _ _ _ (same_long _ _ _ c.requires _ c.find_named.auto.mem c.find_named.ensures.below))

pub returns-in_err-k-clause-says : goal.returns-in_err-k-clause-says
returns-in_err-k-clause-says c =
    let e : c.find_named.result ≡ None = grind arith in
    let f = rw e at c.find_named.ensures.found in
    let p : c.from_residual.result ≡ Err NoFile = search rules in
    rw p (same_texts _ _ _ c.requires _ c.find_named.auto.mem c.find_named.ensures.below, f)

pub edit_at-requires : goal.edit_at-requires
edit_at-requires c =
    let e : c.find_named.result ≡ Some c.in_ok-k.k = grind arith in
    record { row = same_long _ _ _ c.requires _ c.find_named.auto.mem c.find_named.ensures.below; found = found_as _ _ _ c.requires _ c.find_named.auto.mem c.find_named.ensures.below _ _ (rw e at c.find_named.ensures.found) }

pub returns : goal.returns
returns c = record { kept = same_change _ _ _ c.requires _ _ c.find_named.ensures.below c.edit_at.ensures.kept; says = edit_as _ _ _ c.requires _ c.find_named.auto.mem c.find_named.ensures.below _ _ _ _ _ c.edit_at.result c.edit_at.ensures.says }
