-- A file's record behind the pool (appended), and files that stay as the pool grows (files_still).
use Rattle.std.proofs.Common.{◌≡◌, ℕ, ◌+◌, List, [], ◌∷◌, map, length, get_or, sym, refl, ap, ◌∙◌, subst, arith}
use Rattle.store.specs.Files.{file_at, FileOk, Appended, file_is}
use Rattle.interner.specs.Index.{end, pool, bytes_at, bytes, Sound, Live, Grown, Pooled}
use Rattle.interner.specs.Lines.{joined, Every}
use Rattle.interner.proofs.Words.{bytes_same}
use Rattle.interner.specs.Records.{Recorded}
use Rattle.interner.proofs.Lists.{every_still}
use Rattle.interner.proofs.Joined.{map_same}

pub appended : (nb cap : ℕ) (m ns m' : List ℕ) (name p : ℕ) → Recorded nb cap m (name ∷ []) ns m' p → Appended nb cap m name ns m' p
appended nb cap m ns m' name p r = let z : p + 0 ≡ p = omega arith in record { place_is = r.place_is; sound = r.sound; grown = r.grown; pooled = r.pooled; name_is = ap (λ i. get_or m' i 0) (sym z) ∙ r.head_is 0 (omega arith); size_is = r.many_is; no_more = r.no_more; numbers_are = r.numbers_are; long = r.long; end_is = omega (arith, r.end_is) }

-- files stay as the pool grows
module _ (nb cap : ℕ) (m m' : List ℕ) (s : Sound nb cap m) (long : length m' ≡ length m) (g : Grown nb m m') (w : Pooled nb cap m m') where
  pub file_same : (p : ℕ) → FileOk nb cap m p → (file_at nb m' p ≡ file_at nb m p) × FileOk nb cap m' p
  file_same p k = let e = w.same_words p k.from_pool (omega (arith, k.to_end)) in let d = w.same_words (p + 1) (omega (arith, k.from_pool)) (omega (arith, k.to_end)) in let b : bytes_at m' (p + 1) ≡ bytes_at m (p + 1) = bytes_same m m' (pool nb cap) (end m) (p + 1) long (omega (arith, k.from_pool)) k.to_end s.pool_to w.same_words in let n : bytes nb m' (get_or m' p 0) ≡ bytes nb m (get_or m p 0) = ap (bytes nb m') e ∙ (g (get_or m p 0) k.name).1 in let l : map (bytes nb m') (bytes_at m' (p + 1)) ≡ map (bytes nb m) (bytes_at m (p + 1)) = ap (map (bytes nb m')) b ∙ map_same (bytes nb m') (bytes nb m) (Live nb m) (bytes_at m (p + 1)) (λ j x. (g j x).1) k.numbers in (ap (λ x. record { name = x; text = joined (map (bytes nb m') (bytes_at m' (p + 1))) }) n ∙ ap (λ ls. record { name = bytes nb m (get_or m p 0); text = joined ls }) l, record { from_pool = k.from_pool; to_end = omega (arith, k.to_end, w.longer); name = subst (Live nb m') (sym e) (g (get_or m p 0) k.name).0; numbers = subst (Every (Live nb m')) (sym b) (every_still (Live nb m) (Live nb m') (bytes_at m (p + 1)) (λ j x. (g j x).0) k.numbers) })

  pub files_still : (es : List ℕ) → Every (FileOk nb cap m) es → (map (file_at nb m') es ≡ map (file_at nb m) es) × Every (FileOk nb cap m') es
  files_still [] e = (refl, tt)
  files_still (p ∷ ps) (k, ks) = let x = file_same p k in let y = files_still ps ks in (ap (λ z. z ∷ map (file_at nb m') ps) x.0 ∙ ap (λ zs. file_at nb m p ∷ zs) y.0, (x.1, y.1))

-- the new record is a file
module _ (nb cap : ℕ) (m m' ns : List ℕ) (f p : ℕ) (s : Sound nb cap m) (a : Appended nb cap m f ns m' p) (lf : Live nb m f) (ln : Every (Live nb m) ns) where
  pub new_file : file_at nb m' p ≡ file_is nb m f ns
  new_file = ap (λ x. record { name = x; text = joined (map (bytes nb m') (bytes_at m' (p + 1))) }) (ap (bytes nb m') a.name_is ∙ (a.grown f lf).1) ∙ ap (λ ls. record { name = bytes nb m f; text = joined ls }) (ap (map (bytes nb m')) a.numbers_are ∙ map_same (bytes nb m') (bytes nb m) (Live nb m) ns (λ j x. (a.grown j x).1) ln)

  pub new_ok : FileOk nb cap m' p
  new_ok = record { from_pool = omega (arith, a.place_is, s.pool_from); to_end = omega (arith, a.place_is, a.size_is, a.end_is); name = subst (Live nb m') (sym a.name_is) (a.grown f lf).0; numbers = subst (Every (Live nb m')) (sym a.numbers_are) (every_still (Live nb m) (Live nb m') ns (λ j x. (a.grown j x).0) ln) }
