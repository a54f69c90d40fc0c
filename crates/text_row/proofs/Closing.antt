-- A file closed (closed), a store without files (made_empty), and a long row as any row (long_of, sealed).
use Rattle.std.proofs.Common.{◌≡◌, ℕ, ◌+◌, ◌-◌, ◌*◌, ◌/◌, ◌<◌, ◌≤◌, Bool, true, false, List, [], ◌∷◌, map, length, get_or, take, drop, set, sym, refl, ap, ◌∙◌, subst, arith}
use mathlib.Core.Option.{none}
use borrow.Rule.Slice.PartMut.{put_mid}
use Rattle.std.proofs.lemmas.List.{length-set, get_or-set_same, get_or-set_other}
use Rattle.base.specs.Base.{pick, is_some, same}
use Rattle.semantics.specs.Names.{Texts, find_file}
use Rattle.semantics.specs.Answers.{drops_file, weigh_texts}
use Rattle.text_row.specs.Row.{table, half}
use Rattle.interner.specs.Lines.{Every}
use Rattle.interner.specs.Index.{bytes, Live}
use Rattle.text_row.specs.Files.{texts, file_at, FileOk, Fits, Found, DropSays}
use Rattle.interner.specs.Places.{entries}
use Rattle.text_row.specs.Weights.{largest, room}
use Rattle.interner.specs.Interner.{Blank}
use Rattle.text_row.specs.Changes.{texts_in, kept_texts, InOrder, Kept, Work, Long, Stays, ChangeSays, CloseSays, RecordSays}
use Rattle.text_row.proofs.Drops.{drops_others}
use Rattle.interner.proofs.Puts.{finds_none}
use Rattle.text_row.proofs.Changing.{f_live, f_name}
use Rattle.interner.proofs.Parts.{part_at, part_long, part_same, put_below, put_above, put_in, put_long}

drops_light : (name : List ℕ) (p : Texts) → (weigh_texts (drops_file name p) ≤ weigh_texts p) × (largest (drops_file name p) ≤ largest p)
drops_light name [] = (omega arith, omega arith)
drops_light name (x ∷ xs) = go (same x.name name) (drops_light name xs)
  where
    go : (b : Bool) → (weigh_texts (drops_file name xs) ≤ weigh_texts xs) × (largest (drops_file name xs) ≤ largest xs) → (weigh_texts (pick b (drops_file name xs) (x ∷ drops_file name xs)) ≤ weigh_texts (x ∷ xs)) × (largest (pick b (drops_file name xs) (x ∷ drops_file name xs)) ≤ largest (x ∷ xs))
    go true h = let a = h.0 in let b = h.1 in (omega arith, omega arith)
    go false h = let a = h.0 in let b = h.1 in (omega arith, omega arith)

pub not_open : (name : List ℕ) (p q : Texts) → q ≡ p → find_file p name ≡ none → CloseSays p name q false
not_open name p q e h = (sym (ap is_some h), e ∙ sym (finds_none name p h))

module _ (v w k : ℕ) (name m : List ℕ) (c : Long v w m) (f : Found (texts_in v m) name k) (p : ℕ) (s : RecordSays v k m p) where
  pub can_drop : Fits v (2 * v) (table v v m) (half v (2 * v) m) × (11 * v ≤ length m)
  can_drop = (c.order.fits, omega (arith, c.units))

  module _ (m₁ : List ℕ) (l : length m₁ ≡ length m) (d : DropSays v v (2 * v) (get_or m (2 * v + p) 0) m m₁) where
    half_same : half v (2 * v) m₁ ≡ half v (2 * v) m
    half_same = part_same (2 * v) (2 * v + 9 * v) m m₁ l (omega (arith, c.units)) (λ i x y. d.above i (omega arith) (omega (arith, c.units)))

    pub dropped : texts_in v m₁ ≡ drops_file name (texts_in v m)
    dropped = ap (texts v (table v v m₁)) half_same ∙ drops_others v (2 * v) (table v v m) (half v (2 * v) m) c.order.fits name (get_or m (2 * v + p) 0) (f_live v k name m f p s) (f_name v k name m f p s) (table v v m₁) d.left

    pub close_changed : ChangeSays v w m m₁
    close_changed = let h = drops_light name (texts_in v m) in let a = h.0 in let b = h.1 in record { order = record { fits = subst (λ (x : List ℕ). Fits v (2 * v) (table v v m₁) x) (sym half_same) d.fits; roomy = omega (arith, ap room dropped, c.order.roomy) }; stays = record { below = d.below; above = λ i x y. d.above i (omega arith) (omega (arith, c.to)) } }

    pub close_says : CloseSays (texts_in v m) name (texts_in v m₁) true
    close_says = (sym (ap is_some f.first), dropped)

-- any row
pub long_of : (w : ℕ) (m : List ℕ) → Kept m → Work w m → 65536 ≤ length m → Long (length m / 40) w m
long_of w m c h l = record { small = c.small; long = l; units = omega arith; near = omega arith; from = h.0; to = h.1; order = c.in_order l }

module _ (w : ℕ) (m m' : List ℕ) (c : Kept m) (l : 65536 ≤ length m) (e : length m' ≡ length m) (s : ChangeSays (length m / 40) w m m') where
  pub sealed : Kept m'
  sealed = record { small = omega (arith, c.small); in_order = λ h. subst (λ (n : ℕ). InOrder (n / 40) m') (sym e) s.order; bare = λ h. let z : ⊥ = omega arith in elim z [ ] }

pub texts_sealed : (m m' : List ℕ) → length m' ≡ length m → texts_in (length m / 40) m' ≡ kept_texts m'
texts_sealed m m' e = ap (λ (n : ℕ). texts_in (n / 40) m') (sym e)

pub unchanged : (v w : ℕ) (m : List ℕ) → Stays v w m m
unchanged v w m = record { below = λ i x y. refl; above = λ i x y. refl }

pub none_open : (m name : List ℕ) → Kept m → length m < 65536 → find_file (kept_texts m) name ≡ none
none_open m name c h = ap (λ (p : Texts). find_file p name) (c.bare h)

-- no files
no_entries : (v t : ℕ) (m : List ℕ) → get_or (table v t m) 0 0 ≡ 0 → entries (table v t m) ≡ []
no_entries v t m e = ap (λ n. take n (drop 1 (table v t m))) e

module _ (m : List ℕ) (small : length m < 4294967296) where
  pub no_unit : length m / 40 ≡ 0 → Kept m × (kept_texts m ≡ [])
  no_unit e = let t : kept_texts m ≡ [] = subst (λ (u : ℕ). texts_in u m ≡ []) (sym e) refl in (record { small = small; in_order = λ h. let z : ⊥ = omega arith in elim z [ ]; bare = λ h. t }, t)

  module _ (some_unit : 0 < length m / 40) where
    abbrev u : ℕ
    u = length m / 40

    abbrev m₁ : List ℕ
    m₁ = set m u 0

    long₁ : length m₁ ≡ length m
    long₁ = length-set m u 0

    none_in : get_or (table u u m₁) 0 0 ≡ 0
    none_in = let z : u + 0 ≡ u = omega arith in part_at u (u + u) m₁ 0 (omega arith) ∙ ap (λ i. get_or m₁ i 0) z ∙ get_or-set_same m u 0 0 (omega arith)

    none_kept : kept_texts m₁ ≡ []
    none_kept = sym (texts_sealed m m₁ long₁) ∙ ap (map (file_at u (half u (2 * u) m₁))) (no_entries u u m₁ none_in)

    pub short_empty : length m < 65536 → Kept m₁ × ((kept_texts m₁ ≡ []) × Stays u (length m) m m₁)
    short_empty h = (record { small = omega (arith, long₁, small); in_order = λ g. let z : ⊥ = omega (arith, long₁) in elim z [ ]; bare = λ g. none_kept }, (none_kept, record { below = λ i x y. get_or-set_other m u i 0 0 (omega arith); above = λ i x y. get_or-set_other m u i 0 0 (omega arith) }))

    module _ (z : List ℕ) (lz : length z ≡ length (half u (2 * u) m₁)) (b : Blank u (2 * u) 1 z) (large : 65536 ≤ length m) where
      abbrev m₂ : List ℕ
      m₂ = put_mid (2 * u) (2 * u + 9 * u - 2 * u) m₁ z

      z_long : length z ≡ 2 * u + 9 * u - 2 * u
      z_long = lz ∙ part_long (2 * u) (2 * u + 9 * u) m₁ (omega (arith, long₁))

      z_in : 2 * u + (2 * u + 9 * u - 2 * u) ≤ length m₁
      z_in = omega (arith, long₁)

      long₂ : length m₂ ≡ length m
      long₂ = put_long (2 * u) (2 * u + 9 * u - 2 * u) m₁ z z_long z_in ∙ long₁

      half_is : half u (2 * u) m₂ ≡ z
      half_is = put_in (2 * u) (2 * u + 9 * u - 2 * u) m₁ z z_long z_in (2 * u + 9 * u) refl

      table_is : table u u m₂ ≡ table u u m₁
      table_is = part_same u (u + u) m₁ m₂ (long₂ ∙ sym long₁) (omega (arith, long₁)) (λ i x y. put_below (2 * u) (2 * u + 9 * u - 2 * u) m₁ z z_long z_in i (omega arith) (omega arith))

      entries_are : entries (table u u m₂) ≡ []
      entries_are = ap entries table_is ∙ no_entries u u m₁ none_in

      texts_are : texts_in u m₂ ≡ []
      texts_are = ap (map (file_at u (half u (2 * u) m₂))) entries_are

      fits : Fits u (2 * u) (table u u m₂) (half u (2 * u) m₂)
      fits = record { sound = subst (Rattle.interner.specs.Index.Sound u (2 * u)) (sym half_is) b.sound; in_table = omega (arith, ap (λ x. get_or x 0 0) table_is, none_in, part_long u (u + u) m₂ (omega (arith, long₂))); all_ok = subst (Every (FileOk u (2 * u) (half u (2 * u) m₂))) (sym entries_are) tt }

      pub made_empty : Kept m₂ × ((kept_texts m₂ ≡ []) × Stays u (length m) m m₂)
      made_empty = let r = ap room texts_are in let l = long₂ in (record { small = omega (arith, small); in_order = λ g. subst (λ (n : ℕ). InOrder (n / 40) m₂) (sym long₂) (record { fits = fits; roomy = omega arith }); bare = λ g. let f : ⊥ = omega arith in elim f [ ] }, (sym (texts_sealed m m₂ long₂) ∙ texts_are, record { below = λ i x y. put_below (2 * u) (2 * u + 9 * u - 2 * u) m₁ z z_long z_in i x (omega arith) ∙ get_or-set_other m u i 0 0 (omega arith); above = λ i x y. put_above (2 * u) (2 * u + 9 * u - 2 * u) m₁ z z_long z_in i (omega arith) (omega (arith, long₁)) ∙ get_or-set_other m u i 0 0 (omega arith) }))
