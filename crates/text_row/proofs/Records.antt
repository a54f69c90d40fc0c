-- A file's record behind the pool (appended), and files that stay as the pool grows (files_still).
use Rattle.std.proofs.Common.{◌≡◌, ℕ, ◌+◌, ◌-◌, ◌*◌, ◌≤◌, List, [], ◌∷◌, ◌++◌, map, length, get_or, take, drop, sym, refl, ap, ◌∙◌, subst, arith}
use borrow.Rule.Slice.PartMut.{put_mid}
use Rattle.std.specs.List.{between}
use Rattle.lexer.specs.Tokens.{lines}
use Rattle.text_row.specs.Row.{half}
use Rattle.text_row.specs.Files.{file_at, file_is, Body, FileOk, Appended, CanAppend, AppendSays}
use Rattle.interner.specs.Index.{end, pool, bytes_at, bytes, Sound, Live, Grown, Pooled}
use Rattle.interner.specs.Lines.{bodies, joined, Every}
use Rattle.interner.proofs.Words.{bytes_same}
use Rattle.interner.proofs.Lists.{every_still}
use Rattle.interner.proofs.Joined.{map_same}
use Rattle.interner.specs.Records.{Recorded}
use Rattle.interner.proofs.Parts.{part_long, part_low, part_high, put_below, put_above, put_in, put_joined}

-- a record with two words before its numbers
pub appended : (nb cap : ℕ) (m ns m' : List ℕ) (name size p : ℕ) → Recorded nb cap m (name ∷ size ∷ []) ns m' p → Appended nb cap m name size ns m' p
appended nb cap m ns m' name size p r = let z : p + 0 ≡ p = omega arith in let two : p + 2 ≡ p + length (name ∷ size ∷ []) = omega arith in record { place_is = r.place_is; sound = r.sound; grown = r.grown; pooled = r.pooled; name_is = ap (λ i. get_or m' i 0) (sym z) ∙ r.head_is 0 (omega arith); size_is = r.head_is 1 (omega arith); many_is = ap (λ i. get_or m' i 0) two ∙ r.many_is; numbers_are = ap (bytes_at m') two ∙ r.numbers_are; long = r.long; end_is = omega (arith, r.end_is); counts = r.no_more.counts }

-- the same in the row: the half is lent, and the numbers are read above it
pub append_says : (v a ns n name size : ℕ) (m low high w : List ℕ) (p : ℕ) → CanAppend v a ns n m → low ≡ take ns m → high ≡ drop ns m → Recorded v (2 * v) (between a (a + 9 * v) low) (name ∷ size ∷ []) (take n high) w p → AppendSays v a name size ns n m (put_mid a (a + 9 * v - a) low w ++ high) p
append_says v a ns n name size m low high w p c fl fh r =
    let i = c.above in let l = c.numbers_in in
    let h = part_low a (a + 9 * v) ns m low fl i (omega arith) in
    let x = appended v (2 * v) (half v a m) (between ns (ns + n) m) w name size p (subst (λ (z : List ℕ). Recorded v (2 * v) z (name ∷ size ∷ []) (between ns (ns + n) m) w p) h (subst (λ (z : List ℕ). Recorded v (2 * v) (between a (a + 9 * v) low) (name ∷ size ∷ []) z w p) (part_high ns n m high fh) r)) in
    let k : length w ≡ a + 9 * v - a = omega (arith, x.long, part_long a (a + 9 * v) m (omega arith)) in
    let q : a + (a + 9 * v - a) ≤ length m = omega arith in
    subst (λ (z : List ℕ). AppendSays v a name size ns n m z p) (sym (put_joined a (a + 9 * v - a) ns m low high w fl fh (omega arith) (omega arith))) (record { appended = subst (λ (z : List ℕ). Appended v (2 * v) (half v a m) name size (between ns (ns + n) m) z p) (sym (put_in a (a + 9 * v - a) m w k q (a + 9 * v) refl)) x; below = put_below a (a + 9 * v - a) m w k q; above = λ j f g. put_above a (a + 9 * v - a) m w k q j (omega arith) (omega arith) })

-- lines stay as the pool grows
pub lines_still : (nb : ℕ) (m m' ns : List ℕ) → Grown nb m m' → Every (Live nb m) ns → map (bytes nb m') ns ≡ map (bytes nb m) ns
lines_still nb m m' ns g e = map_same (bytes nb m') (bytes nb m) (Live nb m) ns (λ j x. (g j x).1) e

pub body_still : (nb : ℕ) (m m' ns : List ℕ) (size : ℕ) → Grown nb m m' → Body nb m ns size → Body nb m' ns size
body_still nb m m' ns size g b = let x = lines_still nb m m' ns g b.numbers in record { numbers = every_still (Live nb m) (Live nb m') ns (λ j y. (g j y).0) b.numbers; size_is = b.size_is ∙ ap (λ ls. length (joined ls)) (sym x); lines_are = ap (λ ls. bodies (lines (joined ls))) x ∙ b.lines_are ∙ sym x }

-- and so do files
module _ (nb cap : ℕ) (m m' : List ℕ) (s : Sound nb cap m) (long : length m' ≡ length m) (g : Grown nb m m') (w : Pooled nb cap m m') where
  pub file_same : (p : ℕ) → FileOk nb cap m p → (file_at nb m' p ≡ file_at nb m p) × FileOk nb cap m' p
  file_same p k =
      let f = k.from_pool in let t = k.to_end in
      let e = w.same_words p k.from_pool (omega arith) in
      let z = w.same_words (p + 1) (omega arith) (omega arith) in
      let d = w.same_words (p + 2) (omega arith) (omega arith) in
      let b : bytes_at m' (p + 2) ≡ bytes_at m (p + 2) = bytes_same m m' (pool nb cap) (end m) (p + 2) long (omega arith) (omega arith) s.pool_to w.same_words in
      let n : bytes nb m' (get_or m' p 0) ≡ bytes nb m (get_or m p 0) = ap (bytes nb m') e ∙ (g (get_or m p 0) k.name).1 in
      let l : map (bytes nb m') (bytes_at m' (p + 2)) ≡ map (bytes nb m) (bytes_at m (p + 2)) = ap (map (bytes nb m')) b ∙ lines_still nb m m' (bytes_at m (p + 2)) g k.body.numbers in
      (ap (λ x. record { name = x; text = joined (map (bytes nb m') (bytes_at m' (p + 2))) }) n ∙ ap (λ ls. record { name = bytes nb m (get_or m p 0); text = joined ls }) l, record { from_pool = k.from_pool; to_end = omega (arith, w.longer); name = subst (Live nb m') (sym e) (g (get_or m p 0) k.name).0; body = subst (λ (x : List ℕ). Body nb m' x (get_or m' (p + 1) 0)) (sym b) (subst (λ (x : ℕ). Body nb m' (bytes_at m (p + 2)) x) (sym z) (body_still nb m m' (bytes_at m (p + 2)) (get_or m (p + 1) 0) g k.body)) })

  pub files_still : (es : List ℕ) → Every (FileOk nb cap m) es → (map (file_at nb m') es ≡ map (file_at nb m) es) × Every (FileOk nb cap m') es
  files_still [] e = (refl, tt)
  files_still (p ∷ ps) (k, ks) = let x = file_same p k in let y = files_still ps ks in (ap (λ z. z ∷ map (file_at nb m') ps) x.0 ∙ ap (λ zs. file_at nb m p ∷ zs) y.0, (x.1, y.1))

-- the new record is a file
module _ (nb cap : ℕ) (m m' ns : List ℕ) (f size p : ℕ) (s : Sound nb cap m) (a : Appended nb cap m f size ns m' p) (lf : Live nb m f) (b : Body nb m ns size) where
  pub new_file : file_at nb m' p ≡ file_is nb m f ns
  new_file = ap (λ x. record { name = x; text = joined (map (bytes nb m') (bytes_at m' (p + 2))) }) (ap (bytes nb m') a.name_is ∙ (a.grown f lf).1) ∙ ap (λ ls. record { name = bytes nb m f; text = joined ls }) (ap (map (bytes nb m')) a.numbers_are ∙ lines_still nb m m' ns a.grown b.numbers)

  pub new_ok : FileOk nb cap m' p
  new_ok = record { from_pool = omega (arith, a.place_is, s.pool_from); to_end = omega (arith, a.place_is, a.many_is, a.end_is); name = subst (Live nb m') (sym a.name_is) (a.grown f lf).0; body = subst (λ (x : List ℕ). Body nb m' x (get_or m' (p + 1) 0)) (sym a.numbers_are) (subst (λ (x : ℕ). Body nb m' ns x) (sym a.size_is) (body_still nb m m' ns size a.grown b)) }
