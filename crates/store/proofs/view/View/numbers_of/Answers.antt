-- What is proved by hand of numbers_of.
use Rattle.std.proofs.Common.{ℕ, ◌+◌, ◌≤◌, length, get_or, sym, subst, arith}
use Rattle.store.proofs.Tables.{file_ok}
use Rattle.store.proofs.view.View.numbers_of.Goals as goal

pub overflow_add-record_of : goal.overflow_add-record_of
overflow_add-record_of c = let x = file_ok _ _ _ _ _ c.requires.0 c.requires.1 in omega (arith, x.to_end, c.requires.0.sound.pool_to, c.requires.0.sound.small, c.record_of.ensures)

pub bytes_from-requires : goal.bytes_from-requires
bytes_from-requires c =
    let x = file_ok _ _ _ _ _ c.requires.0 c.requires.1 in
    let w = c.args.self.words.now in
    subst (λ (p : ℕ). p + 1 + 1 + get_or w (p + 1) 0 ≤ length w) (sym c.record_of.ensures) (omega (arith, x.to_end, c.requires.0.sound.pool_to))
