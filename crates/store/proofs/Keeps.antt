-- Numbers kept in the fresh row with their bytes, and files moved to it one after the other.
use Rattle.std.proofs.Common.{◌≡◌, ℕ, ◌+◌, ◌<◌, ◌≤◌, List, [], ◌∷◌, ◌++◌, map, length, get_or, take, drop, set, sym, refl, ap, ◌∙◌, subst, inl, inr, arith, Ok, Err, Result}
use Rattle.std.proofs.lemmas.List.{take_more, take_all, map_push, get_or-set_same, length-set}
use Rattle.store.specs.Files.{texts, file_at, file_is, FileOk, Fits, PushSays}
use Rattle.interner.specs.Places.{entries}
use Rattle.interner.specs.declared.refused.NoRoom.{NoRoom}
use Rattle.interner.specs.Index.{count, end, place, bytes_at, bytes, NoMore, Sound, Live}
use Rattle.interner.specs.Interner.{CanAdd, Added, Blank}
use Rattle.interner.specs.Lines.{joined, Every}
use Rattle.store.specs.Reclaim.{Part, Kept, AllKept, Moved, MoveSays, SameTexts}
use Rattle.store.proofs.Tables.{still}
use Rattle.interner.proofs.Joined.{map_same}
use Rattle.interner.proofs.Lists.{every_still, every_push, pooled_on}

module _ (nb cap : ℕ) (m w : List ℕ) (n : ℕ) (s : Sound nb cap m) (l : Live nb m n) (p : Part nb cap m w) where
  pub there : 0 < place nb w n → Kept nb cap m w w n
  there h = record { part = p; grown = λ k x. (x, refl); pooled = record { longer = omega arith; same_words = λ i a b. refl }; long = refl; live = (omega (arith, p.counts, l.0), h) }

  pub can : place nb w n ≡ 0 → end w + 1 + length (bytes nb m n) ≤ length w → CanAdd nb cap w n (bytes nb m n)
  can z r = record { sound = p.sound; not_zero = pos; next = omega (arith, p.counts, l.0); in_cap = omega (arith, l.0, s.counted); unused = λ _. z; new = λ k x e. let y = p.of_m k x in let q = s.chained.apart k n y.0.0 y.0.1 l.0 l.1 (sym y.1 ∙ e) in let u = ap (place nb w) q in omega (arith, x.1); room = r }
    where
      pos : 0 < n
      pos = let z0 = s.chained.zero_row.1 in let q : n ≡ 0 → ⊥ = λ e. let u = ap (place nb m) e in omega (arith, l.1) in omega arith

  pub did : (w' : List ℕ) → Added nb cap w n (bytes nb m n) w' → count w' ≡ count w → Kept nb cap m w w' n
  did w' a c = record { part = record { sound = a.sound; counts = c ∙ p.counts; of_m = λ k x. elim (a.only k x) [ inl e ↦ (subst (Live nb m) (sym e) l, ap (bytes nb w') e ∙ a.bytes_n ∙ ap (bytes nb m) (sym e)) | inr y ↦ (let z = p.of_m k y in (z.0, (a.grown k y).1 ∙ z.1)) ] }; grown = a.grown; pooled = a.pooled; long = a.long; live = a.live }

pub all_begin : (nb cap : ℕ) (m w ns : List ℕ) → Part nb cap m w → AllKept nb cap m w w (take 0 ns)
all_begin nb cap m w ns p = record { part = p; grown = λ k x. (x, refl); pooled = record { longer = omega arith; same_words = λ i a b. refl }; long = refl; live = tt }

pub all_more : (nb cap : ℕ) (m w w₁ w₂ ns : List ℕ) (i : ℕ) → i < length ns → AllKept nb cap m w w₁ (take i ns) → Kept nb cap m w₁ w₂ (get_or ns i 0) → AllKept nb cap m w w₂ (take (i + 1) ns)
all_more nb cap m w w₁ w₂ ns i h a k = record { part = k.part; grown = λ j x. let y = a.grown j x in let z = k.grown j y.0 in (z.0, z.1 ∙ y.1); pooled = pooled_on nb cap w w₁ w₂ a.pooled k.pooled; long = k.long ∙ a.long; live = subst (Every (Live nb w₂)) (sym (take_more ns i 0 h)) (every_push (Live nb w₂) (take i ns) (get_or ns i 0) (every_still (Live nb w₁) (Live nb w₂) (take i ns) (λ j x. (k.grown j x).0) a.live) k.live) }

module _ (nb cap : ℕ) (m t w w₁ w₂ : List ℕ) (p : ℕ) (ok : FileOk nb cap m p) (q : Fits nb cap t w) (k : Kept nb cap m w w₁ (get_or m p 0)) (a : AllKept nb cap m w₁ w₂ (bytes_at m (p + 1))) where
  two_still : Fits nb cap t w₂ × (texts nb t w₂ ≡ texts nb t w)
  two_still = let x = still nb cap t w q w₁ k.part.sound k.long k.grown k.pooled in let y = still nb cap t w₁ x.0 w₂ a.part.sound a.long a.grown a.pooled in (y.0, y.1 ∙ x.1)

  f_live : Live nb w₂ (get_or m p 0)
  f_live = (a.grown (get_or m p 0) k.live).0

  pub can_push : Fits nb cap t w₂ × (Live nb w₂ (get_or m p 0) × Every (Live nb w₂) (bytes_at m (p + 1)))
  can_push = (two_still.0, (f_live, a.live))

  same_file : file_is nb w₂ (get_or m p 0) (bytes_at m (p + 1)) ≡ file_at nb m p
  same_file = ap (λ x. record { name = x; text = joined (map (bytes nb w₂) (bytes_at m (p + 1))) }) (a.part.of_m (get_or m p 0) f_live).1 ∙ ap (λ ls. record { name = bytes nb m (get_or m p 0); text = joined ls }) (map_same (bytes nb w₂) (bytes nb m) (Live nb w₂) (bytes_at m (p + 1)) (λ j x. (a.part.of_m j x).1) a.live)

  pub moves : (t' w' : List ℕ) → Fits nb cap t' w' → NoMore nb w₂ w' → (r : Result (Unit {0}) NoRoom) → PushSays nb t w₂ (get_or m p 0) (bytes_at m (p + 1)) t' w' r → MoveSays nb cap m t w t' w' p r
  moves t' w' f n (Ok u) h = record { part = record { sound = f.sound; counts = n.counts ∙ a.part.counts; of_m = λ j x. let y = n.only j x in let z = a.part.of_m j y.0 in (z.0, y.1 ∙ z.1) }; filed = f; more = h ∙ ap (λ z. texts nb t w₂ ++ (z ∷ [])) same_file ∙ ap (λ z. z ++ (file_at nb m p ∷ [])) two_still.1 }
  moves t' w' f n (Err e) h = tt

-- the first k files stand in w
pub record Moving (nb cap : ℕ) (t m t₂ w : List ℕ) (k : ℕ) : Type 0 where
  pub part : Part nb cap m w
  pub filed : Fits nb cap t₂ w
  pub so_far : texts nb t₂ w ≡ map (file_at nb m) (take k (entries t))

pub moving_on : (nb cap : ℕ) (t m t₂ w t₃ w' : List ℕ) (k p : ℕ) → k < length (entries t) → p ≡ get_or (entries t) k 0 → Moving nb cap t m t₂ w k → Moved nb cap m t₂ w t₃ w' p → Moving nb cap t m t₃ w' (k + 1)
moving_on nb cap t m t₂ w t₃ w' k p h e g v = record { part = v.part; filed = v.filed; so_far = v.more ∙ ap (λ z. z ++ (file_at nb m p ∷ [])) g.so_far ∙ ap (λ z. map (file_at nb m) (take k (entries t)) ++ (file_at nb m z ∷ [])) e ∙ sym (ap (map (file_at nb m)) (take_more (entries t) k 0 h) ∙ map_push (file_at nb m) (take k (entries t)) (get_or (entries t) k 0)) }

pub moved_all : (nb cap : ℕ) (t m t₂ w : List ℕ) (k : ℕ) → length (entries t) ≤ k → Moving nb cap t m t₂ w k → SameTexts nb cap t m t₂ w
moved_all nb cap t m t₂ w k h g = record { part = g.part; filed = g.filed; same = g.so_far ∙ ap (map (file_at nb m)) (take_all k (entries t) h) }

-- a fresh row and an empty table
pub empty_fits : (nb cap : ℕ) (t w : List ℕ) → Sound nb cap w → 0 < length t → Fits nb cap (set t 0 0) w × (texts nb (set t 0 0) w ≡ [])
empty_fits nb cap t w s h =
    let e : entries (set t 0 0) ≡ [] = ap (λ n. take n (drop 1 (set t 0 0))) (get_or-set_same t 0 0 0 h) in
    (record { sound = s; in_table = omega (arith, length-set t 0 0, get_or-set_same t 0 0 0 h); all_ok = subst (Every (FileOk nb cap w)) (sym e) tt }, ap (map (file_at nb w)) e)

pub blank_part : (nb cap : ℕ) (m w : List ℕ) → Blank nb cap (count m) w → Part nb cap m w
blank_part nb cap m w b = record { sound = b.sound; counts = b.counts; of_m = λ k l. elim (b.none_live k l) [ ] }
