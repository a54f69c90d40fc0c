-- What is proved by hand of move_all.
use Rattle.std.proofs.Common.{ℕ, ◌<◌, List, length, get_or, sym, ap, subst}
use Rattle.interner.specs.Places.{entries}
use Rattle.interner.proofs.Lists.{every_at}
use Rattle.store.specs.Files.{FileOk}
use Rattle.store.proofs.Keeps.{moving_on}
use Rattle.store.proofs.reclaim.move_all.Goals as goal

pub move_file-requires : goal.move_file-requires
move_file-requires c =
    let e = c.places-p-items.ensures in
    let h = subst (λ (x : List ℕ). c.loop-p.p-index < length x) e c.loop-p-test.true in
    let ok : ℕ → Type 0 = FileOk c.args.from.sizes.buckets c.args.from.sizes.cap c.args.from.words.now in
    (c.requires.0.sound, (subst (λ (x : List ℕ). ok (get_or x c.loop-p.p-index 0)) (sym e) (every_at ok (entries c.args.from.files.now) c.loop-p.p-index h c.requires.0.all_ok), (c.loop-p.invariant.part, c.loop-p.invariant.filed)))

pub loop-p-preserved : goal.loop-p-preserved
loop-p-preserved c =
    let e = c.places-p-items.ensures in
    let h = subst (λ (x : List ℕ). c.loop-p.p-index < length x) e c.loop-p-test.true in
    moving_on _ _ _ _ _ _ _ _ _ _ h (ap (λ (x : List ℕ). get_or x c.loop-p.p-index 0) e) c.loop-p.invariant c.in_ok-move_file.ensures
