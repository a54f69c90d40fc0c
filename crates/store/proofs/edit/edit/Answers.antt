-- What is proved by hand of edit.
use Rattle.std.proofs.Common.{◌≡◌, ℕ, List, Some, sym, subst, arith}
use Rattle.interner.specs.Index.{Live}
use Rattle.interner.specs.Lines.{Every}
use Rattle.store.proofs.Tables.{file_ok}
use Rattle.store.proofs.edit.edit.Goals as goal

pub write_text-requires : goal.write_text-requires
write_text-requires c =
    let e : c.file_of.result ≡ Some c.in_ok-k.k = grind arith in
    let f = rw e at c.file_of.ensures in
    (c.requires.sound, subst (λ (x : List ℕ). Every (Live c.args.sizes.buckets c.args.words.now) x) (sym c.numbers_of.ensures) (file_ok _ _ _ _ _ c.requires f.0).numbers)
