-- Bytes from above a half get a number in it: the half is lent, and they are read beside it (intern_says).
use Rattle.std.proofs.Common.{◌≡◌, ℕ, ◌+◌, ◌-◌, ◌*◌, ◌≤◌, List, ◌++◌, length, take, drop, refl, sym, subst, arith}
use borrow.Rule.Slice.PartMut.{put_mid}
use Rattle.std.specs.List.{between}
use Rattle.text_row.specs.Row.{half}
use Rattle.interner.specs.Interner.{Interned}
use Rattle.text_row.specs.Interner.{CanIntern, InternSays}
use Rattle.interner.proofs.Parts.{part_long, part_low, part_high, put_below, put_above, put_in, put_joined}

pub intern_says : (v a from n : ℕ) (m low high w : List ℕ) (r : ℕ) → CanIntern v a from n m → low ≡ take from m → high ≡ drop from m → Interned v (2 * v) (between a (a + 9 * v) low) (take n high) w r → InternSays v a from n m (put_mid a (a + 9 * v - a) low w ++ high) r
intern_says v a from n m low high w r c fl fh i =
    let b = c.above in let l = c.key_in in
    let h = part_low a (a + 9 * v) from m low fl b (omega arith) in
    let x = subst (λ (z : List ℕ). Interned v (2 * v) z (between from (from + n) m) w r) h (subst (λ (z : List ℕ). Interned v (2 * v) (between a (a + 9 * v) low) z w r) (part_high from n m high fh) i) in
    let k : length w ≡ a + 9 * v - a = omega (arith, x.long, part_long a (a + 9 * v) m (omega arith)) in
    let q : a + (a + 9 * v - a) ≤ length m = omega arith in
    subst (λ (z : List ℕ). InternSays v a from n m z r) (sym (put_joined a (a + 9 * v - a) from m low high w fl fh (omega arith) (omega arith))) (record { interned = subst (λ (z : List ℕ). Interned v (2 * v) (half v a m) (between from (from + n) m) z r) (sym (put_in a (a + 9 * v - a) m w k q (a + 9 * v) refl)) x; below = put_below a (a + 9 * v - a) m w k q; above = λ j f g. put_above a (a + 9 * v - a) m w k q j (omega arith) (omega arith) })
