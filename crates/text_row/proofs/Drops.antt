-- A file looked up by its name (file_found, file_missing), and the table without the files of a name (drops_others, drop_says).
use Rattle.std.proofs.Common.{◌≡◌, ℕ, zero, suc, ◌+◌, ◌-◌, ◌*◌, ◌<◌, ◌≤◌, Bool, true, false, eqb, List, [], ◌∷◌, ◌++◌, map, length, get_or, take, drop, set, Some, None, Option as Perhaps, sym, refl, ap, ◌∙◌, subst, arith, eqb-true}
use mathlib.Core.Option.{some, none}
use borrow.Author.Tests.{eqb-false}
use Rattle.std.proofs.lemmas.List.{drop-set-add}
use borrow.Rule.Slice.PartMut.{put_mid}
use Rattle.base.specs.Base.{pick, same}
use Rattle.semantics.specs.Names.{find_file}
use Rattle.semantics.specs.Answers.{drops_file}
use Rattle.interner.specs.Lines.{Every}
use Rattle.interner.specs.Index.{bytes, Live}
use Rattle.std.specs.List.{between}
use Rattle.text_row.specs.Row.{half, table}
use Rattle.text_row.specs.Files.{file_at, texts, FileOk, FileOfSays, Found, Fits, DropSays}
use Rattle.interner.specs.Places.{entries, name_at, others, IndexSays, Placed}
use Rattle.interner.proofs.Puts.{same_decides, differs}
use Rattle.text_row.proofs.Tables.{other_name, none_in, puts_there, in_words}
use Rattle.interner.proofs.Places.{take_set_in, entry_is, entries_long, every_others}
use Rattle.text_row.proofs.Loads.{texts_long, text_at}
use Rattle.interner.proofs.Parts.{part_long, part_low, part_high, put_below, put_above, put_in, put_joined}

module _ (nb cap : ℕ) (t m : List ℕ) (q : Fits nb cap t m) (name : List ℕ) where
  -- no number stands for the name
  unknown : ((n : ℕ) → Live nb m n → bytes nb m n ≡ name → ⊥) → (es : List ℕ) → Every (FileOk nb cap m) es → find_file (map (file_at nb m) es) name ≡ none
  unknown no_one [] e = refl
  unknown no_one (p ∷ ps) (x, e) = ap (λ (b : Bool). pick b (some (file_at nb m p)) (find_file (map (file_at nb m) ps) name)) (differs (bytes nb m (get_or m p 0)) name (no_one (get_or m p 0) x.name)) ∙ unknown no_one ps e

  pub file_unknown : ((n : ℕ) → Live nb m n → bytes nb m n ≡ name → ⊥) → find_file (texts nb t m) name ≡ none
  file_unknown no_one = unknown no_one (entries t) q.all_ok

  -- f does
  module _ (f : ℕ) (lf : Live nb m f) (is_name : bytes nb m f ≡ name) where
    find_in : (es : List ℕ) (k : ℕ) → Every (FileOk nb cap m) es → k < length es → get_or m (get_or es k 0) 0 ≡ f → ((j : ℕ) → j < k → get_or m (get_or es j 0) 0 ≡ f → ⊥) → find_file (map (file_at nb m) es) name ≡ some (file_at nb m (get_or es k 0))
    find_in [] k e h i d = let z : ⊥ = omega arith in elim z [ ]
    find_in (p ∷ ps) zero e h i d = ap (λ (b : Bool). pick b (some (file_at nb m p)) (find_file (map (file_at nb m) ps) name)) ((same_decides (bytes nb m (get_or m p 0)) name).1 (ap (bytes nb m) i ∙ is_name))
    find_in (p ∷ ps) (suc k) (x, e) h i d = ap (λ (b : Bool). pick b (some (file_at nb m p)) (find_file (map (file_at nb m) ps) name)) (differs (bytes nb m (get_or m p 0)) name (other_name nb cap t m q f name lf is_name p x (d 0 (omega arith)))) ∙ find_in ps k e (omega arith) i (λ j l. d (suc j) (omega arith))

    pub file_found : (k : ℕ) → (k < get_or t 0 0) × (name_at t m k ≡ f) × ((j : ℕ) → j < k → name_at t m j ≡ f → ⊥) → Found (texts nb t m) name k
    file_found k (h, i, d) = record { file = file_at nb m (get_or t (1 + k) 0); there = omega (arith, texts_long nb cap t m q); place_is = text_at nb cap t m q k h; named = ap (bytes nb m) i ∙ is_name; first = find_in (entries t) k q.all_ok (omega (arith, entries_long t q.in_table)) (ap (λ p. get_or m p 0) (entry_is t k h) ∙ i) (λ j l e. d j l (ap (λ p. get_or m p 0) (sym (entry_is t j (omega arith))) ∙ e)) ∙ ap (λ p. some (file_at nb m p)) (entry_is t k h); puts = λ x. puts_there nb cap t m q f name lf is_name x k (h, i, d) }

    pub file_missing : ((j : ℕ) → j < get_or t 0 0 → name_at t m j ≡ f → ⊥) → find_file (texts nb t m) name ≡ none
    file_missing d = none_in nb cap t m q f name lf is_name (entries t) q.all_ok (λ j l e. let h : j < get_or t 0 0 = omega (arith, entries_long t q.in_table) in d j h (ap (λ p. get_or m p 0) (sym (entry_is t j h)) ∙ e))

    pub file_of_says : (r : Perhaps ℕ) → IndexSays t m f r → FileOfSays (texts nb t m) name r
    file_of_says (Some k) h = file_found k h
    file_of_says None h = file_missing h

    drops_in : (es : List ℕ) → Every (FileOk nb cap m) es → map (file_at nb m) (others m f es) ≡ drops_file name (map (file_at nb m) es)
    drops_in [] e = refl
    drops_in (p ∷ ps) (x, e) = go (eqb (get_or m p 0) f) (eqb-true (get_or m p 0) f) (eqb-false (get_or m p 0) f) (drops_in ps e)
      where
        go : (b : Bool) → (b ≡ true → get_or m p 0 ≡ f) → (b ≡ false → get_or m p 0 ≡ f → ⊥) → map (file_at nb m) (others m f ps) ≡ drops_file name (map (file_at nb m) ps) → map (file_at nb m) (pick b (others m f ps) (p ∷ others m f ps)) ≡ pick (same (bytes nb m (get_or m p 0)) name) (drops_file name (map (file_at nb m) ps)) (file_at nb m p ∷ drops_file name (map (file_at nb m) ps))
        go true y n r = r ∙ ap (λ (b : Bool). pick b (drops_file name (map (file_at nb m) ps)) (file_at nb m p ∷ drops_file name (map (file_at nb m) ps))) (sym ((same_decides (bytes nb m (get_or m p 0)) name).1 (ap (bytes nb m) (y refl) ∙ is_name)))
        go false y n r = ap (λ z. file_at nb m p ∷ z) r ∙ ap (λ (b : Bool). pick b (drops_file name (map (file_at nb m) ps)) (file_at nb m p ∷ drops_file name (map (file_at nb m) ps))) (sym (differs (bytes nb m (get_or m p 0)) name (other_name nb cap t m q f name lf is_name p x (n refl))))

    pub drops_others : (t' : List ℕ) → entries t' ≡ others m f (entries t) → texts nb t' m ≡ drops_file name (texts nb t m)
    drops_others t' e = ap (map (file_at nb m)) e ∙ drops_in (entries t) q.all_ok

-- a word written into a part
pub part_set : (a b : ℕ) (m : List ℕ) (i x : ℕ) → between a b (set m (a + i) x) ≡ set (between a b m) i x
part_set a b m i x = ap (take (b - a)) (drop-set-add a m i x) ∙ take_set_in (b - a) (drop a m) i x

-- the table is lent, and the half is read above it
module _ (v t a f : ℕ) (m low high : List ℕ) (q : Fits v (2 * v) (table v t m) (half v a m)) (apart : t + v ≤ a) (inside : a + 9 * v ≤ length m) (fl : low ≡ take a m) (fh : high ≡ drop a m) where
  table_is : between t (t + v) low ≡ table v t m
  table_is = part_low t (t + v) a m low fl apart (omega arith)

  half_is : take (9 * v) high ≡ half v a m
  half_is = part_high a (9 * v) m high fh

  pub lent_placed : Placed (between t (t + v) low) (take (9 * v) high)
  lent_placed = subst (λ (x : List ℕ). Placed x (take (9 * v) high)) (sym table_is) (subst (λ (x : List ℕ). Placed (table v t m) x) (sym half_is) (in_words v (2 * v) (table v t m) (half v a m) q))

  pub drop_says : (t' : List ℕ) → length t' ≡ length (between t (t + v) low) → Rattle.interner.specs.Places.DropSays (between t (t + v) low) (take (9 * v) high) f t' → DropSays v t a f m (put_mid t (t + v - t) low t' ++ high)
  drop_says t' l d =
      let x = subst (λ (z : List ℕ). Rattle.interner.specs.Places.DropSays (table v t m) z f t') half_is (subst (λ (z : List ℕ). Rattle.interner.specs.Places.DropSays z (take (9 * v) high) f t') table_is d) in
      let k : length t' ≡ t + v - t = l ∙ ap length table_is ∙ part_long t (t + v) m (omega arith) in
      let r : t + (t + v - t) ≤ length m = omega arith in
      let e : table v t (put_mid t (t + v - t) m t') ≡ t' = put_in t (t + v - t) m t' k r (t + v) refl in
      subst (λ (z : List ℕ). DropSays v t a f m z) (sym (put_joined t (t + v - t) a m low high t' fl fh (omega arith) (omega arith))) (record {
        fits = subst (λ (z : List ℕ). Fits v (2 * v) z (half v a m)) (sym e) (record { sound = q.sound; in_table = x.in_table; all_ok = subst (Every (FileOk v (2 * v) (half v a m))) (sym x.left) (every_others (FileOk v (2 * v) (half v a m)) (half v a m) f (entries (table v t m)) q.all_ok) });
        left = ap entries e ∙ x.left;
        below = put_below t (t + v - t) m t' k r;
        above = λ j y z. put_above t (t + v - t) m t' k r j (omega arith) z;
      })
