-- The table of files: a record's place in it (enlisted), what that makes of the texts (put_says), and files by their names (names are numbers).
use Rattle.std.proofs.Common.{◌≡◌, ℕ, zero, suc, ◌+◌, ◌-◌, ◌*◌, ◌<◌, ◌≤◌, List, [], ◌∷◌, ◌++◌, map, length, get_or, take, drop, set, sym, refl, ap, ◌∙◌, subst, arith, length-drop}
use mathlib.Core.Option.{some, none}
use borrow.Rule.Slice.PartMut.{put_mid}
use Rattle.std.specs.List.{between}
use Rattle.std.proofs.lemmas.List.{get_or-set_same, get_or-set_other, length-set, drop-set-lt, drop-set-add, map-append, take-map, drop-map, take_more_set, set_split, take_all, drop_all, length-map}
use Rattle.base.specs.Base.{pick}
use Rattle.semantics.specs.Answers.{puts_file}
use Rattle.semantics.specs.Names.{File, find_file}
use Rattle.text_row.specs.Row.{half, table}
use Rattle.text_row.specs.Files.{file_at, file_is, texts, placed, FileOk, Fits, Appended, AppendSays, EnlistSays, CanPut, PutSays}
use Rattle.interner.specs.Places.{entries, name_at, Placed}
use Rattle.interner.specs.Index.{bytes, Sound, Live, Grown, Pooled}
use Rattle.interner.specs.Lines.{Every}
use Rattle.interner.proofs.Puts.{First, puts_set, differs}
use Rattle.text_row.proofs.Records.{files_still, new_file, new_ok}
use Rattle.interner.proofs.Lists.{every_at, every_append, every_take, every_drop}
use Rattle.interner.proofs.Places.{entries_set, entry_is, entries_long, placed as placed_in}
use Rattle.interner.proofs.Parts.{part_long, part_same, put_below, put_above, put_in, put_long}

-- in the place of a file, and behind the last
module _ (t : List ℕ) (k p : ℕ) (b : 1 + get_or t 0 0 ≤ length t) (room : k + 2 ≤ length t) where
  pub enlists : k < get_or t 0 0 → EnlistSays k p t (set t (1 + k) p)
  enlists h = record { entries_are = entries_set t k p ∙ set_split (entries t) k p (omega (arith, entries_long t b)) ∙ ap (λ i. take k (entries t) ++ (p ∷ drop i (entries t))) add_1; in_table = omega (arith, get_or-set_other t (1 + k) 0 p 0 (omega arith), length-set t (1 + k) p) }
    where
      add_1 : suc k ≡ k + 1
      add_1 = omega arith

  pub enlists_last : k ≡ get_or t 0 0 → EnlistSays k p t (set (set t (1 + k) p) 0 (k + 1))
  enlists_last e =
      let g = get_or-set_same (set t (1 + k) p) 0 (k + 1) 0 (omega (arith, length-set t (1 + k) p)) in
      let l = entries_long t b in
      let x : entries (set (set t (1 + k) p) 0 (k + 1)) ≡ take k (drop 1 t) ++ (p ∷ []) = ap (λ n. take n (drop 1 (set (set t (1 + k) p) 0 (k + 1)))) g ∙ ap (take (k + 1)) (drop-set-lt 1 (set t (1 + k) p) 0 (k + 1) (omega arith) ∙ drop-set-add 1 t k p) ∙ take_more_set (drop 1 t) k p (omega (arith, length-drop 1 t)) in
      let y : take k (drop 1 t) ≡ take k (entries t) = ap (λ n. take n (drop 1 t)) e ∙ sym (take_all k (entries t) (omega arith)) in
      let z : drop (k + 1) (entries t) ≡ [] = drop_all (k + 1) (entries t) (omega arith) in
      record { entries_are = x ∙ ap (λ w. w ++ (p ∷ [])) y ∙ ap (λ w. take k (entries t) ++ (p ∷ w)) (sym z); in_table = omega (arith, g, length-set t (1 + k) p, length-set (set t (1 + k) p) 0 (k + 1)) }

map_placed : (f : ℕ → File) (es : List ℕ) (k p : ℕ) → map f (take k es ++ (p ∷ drop (k + 1) es)) ≡ placed k (f p) (map f es)
map_placed f es k p = map-append f (take k es) (p ∷ drop (k + 1) es) ∙ ap (λ x. x ++ (f p ∷ map f (drop (k + 1) es))) (sym (take-map f k es)) ∙ ap (λ x. take k (map f es) ++ (f p ∷ x)) (sym (drop-map f (k + 1) es))

-- a new record, and its place in the table
module _ (nb cap : ℕ) (t m t' m' ns : List ℕ) (k f size p : ℕ) (q : Fits nb cap t m) (a : Appended nb cap m f size ns m' p) (lf : Live nb m f) (b : Rattle.text_row.specs.Files.Body nb m ns size) (e : EnlistSays k p t t') where
  listed : (map (file_at nb m') (entries t) ≡ texts nb t m) × Every (FileOk nb cap m') (entries t)
  listed = files_still nb cap m m' q.sound a.long a.grown a.pooled (entries t) q.all_ok

  pub filed : Fits nb cap t' m'
  filed = record { sound = a.sound; in_table = e.in_table; all_ok = subst (Every (FileOk nb cap m')) (sym e.entries_are) (every_append (FileOk nb cap m') (take k (entries t)) (p ∷ drop (k + 1) (entries t)) (every_take (FileOk nb cap m') k (entries t) listed.1) (new_ok nb cap m m' ns f size p q.sound a lf b, every_drop (FileOk nb cap m') (k + 1) (entries t) listed.1)) }

  pub texts_placed : texts nb t' m' ≡ placed k (file_is nb m f ns) (texts nb t m)
  texts_placed = ap (map (file_at nb m')) e.entries_are ∙ map_placed (file_at nb m') (entries t) k p ∙ ap (placed k (file_at nb m' p)) listed.0 ∙ ap (λ y. placed k y (texts nb t m)) (new_file nb cap m m' ns f size p q.sound a lf b)

-- the same in the row
module _ (v t a k f size ns n : ℕ) (m : List ℕ) (c : CanPut v t a k f size ns n m) (m₁ : List ℕ) (l₁ : length m₁ ≡ length m) (p : ℕ) (s : AppendSays v a f size ns n m m₁ p) where
  a_in : a + 9 * v ≤ length m
  a_in = omega (arith, c.appends.above, c.appends.numbers_in)

  table_same : table v t m₁ ≡ table v t m
  table_same = let i = a_in in let b = c.table_below in part_same t (t + v) m m₁ l₁ (omega arith) (λ j x y. s.below j (omega arith) (omega arith))

  pub can_enlist : (k ≤ get_or (table v t m₁) 0 0) × ((1 + get_or (table v t m₁) 0 0 ≤ length (table v t m₁)) × ((k + 2 ≤ length (table v t m₁)) × (length (table v t m₁) < 4294967296)))
  can_enlist = let i = a_in in let b = c.table_below in let e = ap (λ x. get_or x 0 0) table_same in let d = ap length table_same in let l = part_long t (t + v) m (omega arith) in (omega (arith, c.there), (omega (arith, c.fits.in_table), (omega (arith, c.in_table), omega (arith, c.appends.small))))

  module _ (t' : List ℕ) (l' : length t' ≡ length (table v t m₁)) (e : EnlistSays k p (table v t m₁) t') where
    abbrev m₂ : List ℕ
    m₂ = put_mid t (t + v - t) m₁ t'

    t_long : length t' ≡ t + v - t
    t_long = let i = a_in in let b = c.table_below in l' ∙ part_long t (t + v) m₁ (omega arith)

    t_in : t + (t + v - t) ≤ length m₁
    t_in = let i = a_in in let b = c.table_below in omega arith

    half_same : half v a m₂ ≡ half v a m₁
    half_same = let i = a_in in let b = c.table_below in part_same a (a + 9 * v) m₁ m₂ long₂ (omega arith) (λ j x y. put_above t (t + v - t) m₁ t' t_long t_in j (omega arith) (omega arith))
      where
        long₂ : length (put_mid t (t + v - t) m₁ t') ≡ length m₁
        long₂ = Rattle.interner.proofs.Parts.put_long t (t + v - t) m₁ t' t_long t_in

    table_is : table v t m₂ ≡ t'
    table_is = put_in t (t + v - t) m₁ t' t_long t_in (t + v) refl

    here : EnlistSays k p (table v t m) t'
    here = subst (λ (x : List ℕ). EnlistSays k p x t') table_same e

    pub put_says : PutSays v t a k f ns n m m₂
    put_says = let i = a_in in let b = c.table_below in record {
      fits = subst (λ (x : List ℕ). Fits v (2 * v) x (half v a m₂)) (sym table_is) (subst (λ (x : List ℕ). Fits v (2 * v) t' x) (sym half_same) (filed v (2 * v) (table v t m) (half v a m) t' (half v a m₁) (between ns (ns + n) m) k f size p c.fits s.appended c.name c.body here));
      texts_are = ap (λ x. texts v x (half v a m₂)) table_is ∙ ap (texts v t') half_same ∙ texts_placed v (2 * v) (table v t m) (half v a m) t' (half v a m₁) (between ns (ns + n) m) k f size p c.fits s.appended c.name c.body here;
      below = λ j x y. put_below t (t + v - t) m₁ t' t_long t_in j x y ∙ s.below j (omega arith) (omega arith);
      middle = λ j x y. put_above t (t + v - t) m₁ t' t_long t_in j (omega arith) (omega arith) ∙ s.below j (omega arith) y;
      above = λ j x y. put_above t (t + v - t) m₁ t' t_long t_in j (omega arith) (omega arith) ∙ s.above j x y;
    }

module _ (nb cap : ℕ) (t m : List ℕ) (q : Fits nb cap t m) where
  pub still : (m' : List ℕ) → Sound nb cap m' → length m' ≡ length m → Grown nb m m' → Pooled nb cap m m' → Fits nb cap t m' × (texts nb t m' ≡ texts nb t m)
  still m' s l g w = let x = files_still nb cap m m' q.sound l g w (entries t) q.all_ok in (record { sound = s; in_table = q.in_table; all_ok = x.1 }, x.0)

  pub file_ok : (k : ℕ) → k < get_or t 0 0 → FileOk nb cap m (get_or t (1 + k) 0)
  file_ok k h = subst (FileOk nb cap m) (entry_is t k h) (every_at (FileOk nb cap m) (entries t) k (omega (arith, entries_long t q.in_table)) q.all_ok)

  pub in_words : Placed t m
  in_words = placed_in t m (FileOk nb cap m) (λ p x. omega (arith, x.to_end, q.sound.pool_to)) q.in_table q.all_ok

  -- names are numbers
  module _ (f : ℕ) (name : List ℕ) (lf : Live nb m f) (is_name : bytes nb m f ≡ name) where
    pub other_name : (p : ℕ) → FileOk nb cap m p → (get_or m p 0 ≡ f → ⊥) → bytes nb m (get_or m p 0) ≡ name → ⊥
    other_name p k n e = n (q.sound.chained.apart (get_or m p 0) f k.name.0 k.name.1 lf.0 lf.1 (e ∙ sym is_name))

    pub first_in : (es : List ℕ) (k : ℕ) → Every (FileOk nb cap m) es → k < length es → get_or m (get_or es k 0) 0 ≡ f → ((j : ℕ) → j < k → get_or m (get_or es j 0) 0 ≡ f → ⊥) → First name (map (file_at nb m) es) k
    first_in [] k e h i d = let z : ⊥ = omega arith in elim z [ ]
    first_in (p ∷ ps) zero e h i d = ap (bytes nb m) i ∙ is_name
    first_in (p ∷ ps) (suc k) (x, e) h i d = (other_name p x (d 0 (omega arith)), first_in ps k e (omega arith) i (λ j l. d (suc j) (omega arith)))

    pub none_in : (es : List ℕ) → Every (FileOk nb cap m) es → ((j : ℕ) → j < length es → get_or m (get_or es j 0) 0 ≡ f → ⊥) → find_file (map (file_at nb m) es) name ≡ none
    none_in [] e d = refl
    none_in (p ∷ ps) (x, e) d = ap (λ b. pick b (some (file_at nb m p)) (find_file (map (file_at nb m) ps) name)) (differs (bytes nb m (get_or m p 0)) name (other_name p x (d 0 (omega arith)))) ∙ none_in ps e (λ j l. d (suc j) (omega arith))

    pub puts_there : (text : List ℕ) (k : ℕ) → (k < get_or t 0 0) × (name_at t m k ≡ f) × ((j : ℕ) → j < k → name_at t m j ≡ f → ⊥) → puts_file name text (texts nb t m) ≡ placed k (record { name = name; text = text }) (texts nb t m)
    puts_there text k (h, i, d) = let l = entries_long t q.in_table in let s : suc k ≡ k + 1 = omega arith in puts_set name text (texts nb t m) k (first_in (entries t) k q.all_ok (omega arith) (ap (λ p. get_or m p 0) (entry_is t k h) ∙ i) (λ j l e. d j l (ap (λ p. get_or m p 0) (sym (entry_is t j (omega arith))) ∙ e))) ∙ set_split (texts nb t m) k (record { name = name; text = text }) (omega (arith, length-map (entries t) (file_at nb m))) ∙ ap (λ i. take k (texts nb t m) ++ (record { name = name; text = text } ∷ drop i (texts nb t m))) s
