-- A part of a text replaced (spliced), a file looked up by its name (named_says), a text put into the k-th place (put_text_says).
use Rattle.std.proofs.Common.{◌≡◌, ℕ, ◌+◌, ◌-◌, ◌*◌, ◌<◌, ◌≤◌, Bool, List, [], ◌∷◌, ◌++◌, length, get_or, take, drop, None, Option as Perhaps, sym, refl, ap, ◌∙◌, subst, arith, length-append, length-drop}
use mathlib.Core.Option.{some, none}
use Rattle.std.specs.List.{between}
use Rattle.std.proofs.lemmas.List.{length-take-le}
use Rattle.std.proofs.lemmas.Slice.{between_to_end}
use Rattle.base.specs.Base.{pick}
use Rattle.semantics.specs.Names.{Texts, find_file}
use Rattle.semantics.specs.Answers.{edits, weigh_texts}
use Rattle.text_row.specs.Row.{table, half}
use Rattle.interner.specs.Index.{Same}
use Rattle.interner.specs.Index.{bytes, Live}
use Rattle.text_row.specs.Interner.{NumberSays}
use Rattle.text_row.specs.Files.{texts, file_is, placed, Body, Fits, FileOfSays, CanPut, PutSays}
use Rattle.interner.specs.Written.{text_of}
use Rattle.text_row.specs.Copies.{WidenSays}
use Rattle.text_row.specs.Changes.{texts_in, InOrder, Long, NamedSays, CanPutText, PutTextSays, SpliceSays}
use Rattle.interner.proofs.Puts.{differs}
use Rattle.text_row.proofs.Tables.{still}
use Rattle.text_row.proofs.Loads.{texts_long}
use Rattle.text_row.proofs.Moves.{text_is, body_is}
use Rattle.interner.proofs.Parts.{part_at, part_long, part_same, parts_same, part_split}

-- what stands behind is moved, and the new part laid between
module _ (at n a b : ℕ) (new m m₁ m₂ : List ℕ) (h : a ≤ b) (g : b ≤ n) (i₁ : at + n ≤ length m) (i₂ : at + a + length new + (n - b) ≤ length m) (l₁ : length m₁ ≡ length m) (l₂ : length m₂ ≡ length m₁)
    (copied : (k : ℕ) → at + a + length new ≤ k → k < at + a + length new + (n - b) → get_or m₁ k 0 ≡ get_or m (at + b + (k - (at + a + length new))) 0) (front : (k : ℕ) → k < at + a + length new → get_or m₁ k 0 ≡ get_or m k 0) (w : WidenSays (at + a) new m₁ m₂) where
  abbrev old : List ℕ
  old = between at (at + n) m

  old_long : length old ≡ n
  old_long = omega (arith, part_long at (at + n) m i₁)

  first : between at (at + a) m₂ ≡ take a old
  first = let l = old_long in let z : a - 0 ≡ a = omega arith in parts_same 0 a at (at + a) old m₂ (omega arith) (omega arith) (omega arith) (λ i x. let e : at + i ≡ at + (0 + i) = omega arith in w.below (at + i) (omega arith) (omega arith) ∙ front (at + i) (omega arith) ∙ ap (λ k. get_or m k 0) e ∙ sym (part_at at (at + n) m (0 + i) (omega arith))) ∙ ap (λ k. take k old) z

  last : between (at + a + length new) (at + a + length new + (n - b)) m₂ ≡ drop b old
  last = let l = old_long in parts_same b n (at + a + length new) (at + a + length new + (n - b)) old m₂ (omega arith) (omega arith) (omega arith) (λ i x. let e : at + b + ((at + a + length new + i) - (at + a + length new)) ≡ at + (b + i) = omega arith in w.above (at + a + length new + i) (omega arith) (omega arith) ∙ copied (at + a + length new + i) (omega arith) (omega arith) ∙ ap (λ k. get_or m k 0) e ∙ sym (part_at at (at + n) m (b + i) (omega arith))) ∙ between_to_end old b n (omega arith)

  pub edits_long : length (edits a b new old) ≡ a + length new + (n - b)
  edits_long = let l = old_long in omega (arith, length-append (take a old) (new ++ drop b old), length-append new (drop b old), length-take-le a old (omega arith), length-drop b old)

  pub spliced : SpliceSays at n a b new m m₂
  spliced =
      let e : at + length (edits a b new old) ≡ at + a + length new + (n - b) = omega (arith, edits_long) in
      record { there = ap (λ k. between at k m₂) e ∙ part_split at (at + a) (at + a + length new + (n - b)) m₂ (omega arith) (omega arith) ∙ ap (λ x. between at (at + a) m₂ ++ x) (part_split (at + a) (at + a + length new) (at + a + length new + (n - b)) m₂ (omega arith) (omega arith)) ∙ ap (λ x. x ++ (between (at + a) (at + a + length new) m₂ ++ between (at + a + length new) (at + a + length new + (n - b)) m₂)) first ∙ ap (λ x. take a old ++ (x ++ between (at + a + length new) (at + a + length new + (n - b)) m₂)) w.there ∙ ap (λ x. take a old ++ (new ++ x)) last; below = λ k x y. w.below k x (omega arith) ∙ front k (omega arith) }

-- no file has a name that weighs more than all files
pub too_long : (p : Texts) (name : List ℕ) → weigh_texts p < length name → find_file p name ≡ none
too_long [] name h = refl
too_long (x ∷ xs) name h = ap (λ (b : Bool). pick b (some x) (find_file xs name)) (differs x.name name (λ e. let l = ap length e in let z : ⊥ = omega arith in z)) ∙ too_long xs name (omega arith)

-- words from w on may change
module _ (v w : ℕ) (m : List ℕ) (c : Long v w m) where
  pub weigh_in : 24 * weigh_texts (texts_in v m) + 65536 ≤ length m
  weigh_in = omega (arith, c.order.roomy)

  pub not_named : (name : List ℕ) → length m - w < length name → NamedSays v w name m m None
  not_named name h = record { found = too_long (texts_in v m) name (omega (arith, weigh_in, c.near, c.to)); laid = λ x. let z : ⊥ = omega (arith, c.to) in elim z [ ]; below = λ i x y. refl }

  module _ (m₁ : List ℕ) (l : length m₁ ≡ length m) (b : Same 0 w m m₁) where
    pub table_still : table v v m₁ ≡ table v v m
    table_still = part_same v (v + v) m m₁ l (omega (arith, c.from, c.to)) (λ i x y. b i (omega arith) (omega (arith, c.from)))

    pub half_still : half v (2 * v) m₁ ≡ half v (2 * v) m
    half_still = part_same (2 * v) (2 * v + 9 * v) m m₁ l (omega (arith, c.from, c.to)) (λ i x y. b i (omega arith) (omega (arith, c.from)))

    pub texts_still : texts_in v m₁ ≡ texts_in v m
    texts_still = ap (λ x. texts v x (half v (2 * v) m₁)) table_still ∙ ap (texts v (table v v m)) half_still

    pub fits_still : Fits v (2 * v) (table v v m₁) (half v (2 * v) m₁)
    fits_still = subst (λ (x : List ℕ). Fits v (2 * v) x (half v (2 * v) m₁)) (sym table_still) (subst (λ (x : List ℕ). Fits v (2 * v) (table v v m) x) (sym half_still) c.order.fits)

    pub order_still : InOrder v m₁
    order_still = record { fits = fits_still; roomy = omega (arith, c.order.roomy, ap Rattle.text_row.specs.Weights.room texts_still) }

    pub long_still : Long v w m₁
    long_still = record { small = omega (arith, c.small); long = omega (arith, c.long); units = omega (arith, c.units); near = omega (arith, c.near); from = c.from; to = omega (arith, c.to); order = order_still }

  pub named_says : (name m₁ : List ℕ) → length m₁ ≡ length m → WidenSays w name m m₁ → (r : Perhaps ℕ) → FileOfSays (texts_in v m₁) (between w (w + length name) m₁) r → NamedSays v w name m m₁ r
  named_says name m₁ l s r f = record { found = subst (λ (p : Texts). FileOfSays p name r) (texts_still m₁ l s.below) (subst (λ (x : List ℕ). FileOfSays (texts_in v m₁) x r) s.there f); laid = λ x. s.there; below = s.below }

-- a text's lines get numbers, and the file its record
module _ (v k f at n : ℕ) (m : List ℕ) (c : CanPutText v k f at n m) (m₁ : List ℕ) (j : ℕ) (l₁ : length m₁ ≡ length m) (s : NumberSays v (2 * v) at n (at + n) m m₁ j) where
  abbrev h : List ℕ
  h = half v (2 * v) m

  abbrev h₁ : List ℕ
  h₁ = half v (2 * v) m₁

  abbrev ns : List ℕ
  ns = between (at + n) (at + n + j) m₁

  abbrev text : List ℕ
  text = between at (at + n) m

  t_same : table v v m₁ ≡ table v v m
  t_same = part_same v (v + v) m m₁ l₁ (omega (arith, c.above, c.work)) (λ i x y. s.below i (omega arith) (omega arith))

  h_long : length h₁ ≡ length h
  h_long = s.numbered.long

  kept : Fits v (2 * v) (table v v m) h₁ × (texts v (table v v m) h₁ ≡ texts v (table v v m) h)
  kept = still v (2 * v) (table v v m) h c.fits h₁ s.numbered.sound h_long s.numbered.grown s.numbered.pooled

  text_long : length text ≡ n
  text_long = omega (arith, part_long at (at + n) m (omega (arith, c.work)))

  body : Body v h₁ ns n
  body = body_is v (2 * v) h text h₁ ns n text_long s.numbered

  f_live : Live v h₁ f × (bytes v h₁ f ≡ bytes v h f)
  f_live = s.numbered.grown f c.name

  pub can_put : CanPut v v (2 * v) k f n (at + n) j m₁
  can_put = let t = text_long in record { appends = record { small = omega (arith, c.small); above = omega (arith, c.above); numbers_in = omega (arith, c.work, s.few); sound = s.numbered.sound; room = omega (arith, s.numbered.end_most, c.words_in, s.few) }; table_below = omega arith; fits = subst (λ (x : List ℕ). Fits v (2 * v) x h₁) (sym t_same) kept.0; there = omega (arith, c.there, texts_long v (2 * v) (table v v m) h c.fits, ap (λ x. get_or x 0 0) t_same); in_table = c.in_table; name = f_live.0; body = body }

  pub put_text_says : (m₂ : List ℕ) → length m₂ ≡ length m₁ → PutSays v v (2 * v) k f (at + n) j m₁ m₂ → PutTextSays v k f at n m m₂
  put_text_says m₂ l₂ p = record { fits = p.fits; texts_are = p.texts_are ∙ ap (placed k (file_is v h₁ f ns)) (ap (λ x. texts v x h₁) t_same ∙ kept.1) ∙ ap (λ x. placed k (record { name = x; text = text_of v h₁ ns }) (texts_in v m)) f_live.1 ∙ ap (λ x. placed k (record { name = bytes v h f; text = x }) (texts_in v m)) (text_is v (2 * v) h text h₁ ns s.numbered); stays = record { below = λ i x y. p.below i x y ∙ s.below i x (omega arith); above = λ i x y. p.above i (omega arith) (omega (arith, c.work)) ∙ s.above i (omega arith) (omega arith) } }
