-- Changes of the texts: what weight leaves of room (light-replace, light-add), and what comes of the steps (replaced, added).
use Rattle.std.proofs.Common.{◌≡◌, ℕ, zero, suc, ◌+◌, ◌-◌, ◌*◌, ◌<◌, ◌≤◌, Bool, true, false, List, [], ◌∷◌, ◌++◌, length, get_or, take, drop, sym, refl, ap, ◌∙◌, subst, arith, length-append, length-drop, Result}
use mathlib.Core.Option.{none}
use Rattle.std.specs.List.{between}
use Rattle.std.proofs.lemmas.List.{get_or_default, length-take-le, take_all, drop_all}
use Rattle.base.specs.Base.{pick, same}
use Rattle.semantics.specs.Names.{File, Texts, find_file}
use Rattle.semantics.specs.Answers.{puts_file, edits, weigh_texts}
use Rattle.text_row.specs.Row.{table, half}
use Rattle.interner.specs.Index.{Same}
use Rattle.interner.specs.Index.{count, end, bytes, Live}
use Rattle.text_row.specs.Interner.{CanIntern, InternSays}
use Rattle.interner.specs.Interner.{Interned}
use Rattle.text_row.specs.Files.{texts, file_at, placed, FileOk, Fits, Found}
use Rattle.text_row.specs.Weights.{largest, room, RoomSays}
use Rattle.text_row.specs.Copies.{WidenSays, CanWrite, WriteSays}
use Rattle.text_row.specs.Changes.{texts_in, InOrder, Long, OpenSays, EditSays, ChangeSays, CanMake, MakeSays, CanPutText, PutTextSays, RecordSays, CanLay, LaySays, SpliceSays}
use Rattle.interner.specs.declared.refused.NoRoom.{NoRoom}
use Rattle.interner.specs.declared.refused.Refused.{Refused}
use Rattle.interner.proofs.Puts.{puts_new}
use Rattle.text_row.proofs.Tables.{still, file_ok}
use Rattle.text_row.proofs.Loads.{texts_long, text_at, weigh_append, many_weigh, largest_append}
use Rattle.interner.proofs.Parts.{part_at, part_long, part_same}

-- texts with a file in the k-th place
module _ (k : ℕ) (y : File) (p : Texts) where
  pub placed_weight : 16 + (length y.name + length y.text) ≤ weigh_texts (placed k y p)
  placed_weight = omega (arith, weigh_append (take k p) (y ∷ drop (k + 1) p))

  pub placed_large : length y.text ≤ largest (placed k y p)
  placed_large = omega (arith, largest_append (take k p) (y ∷ drop (k + 1) p))

  pub placed_many : k ≤ length p → 16 * (k + 1) ≤ weigh_texts (placed k y p)
  placed_many h = omega (arith, many_weigh (placed k y p), length-append (take k p) (y ∷ drop (k + 1) p), length-take-le k p h)

  pub placed_last : k ≡ length p → placed k y p ≡ p ++ (y ∷ [])
  placed_last e = ap (λ x. x ++ (y ∷ drop (k + 1) p)) (take_all k p (omega arith)) ∙ ap (λ x. p ++ (y ∷ x)) (drop_all (k + 1) p (omega arith))

pub kth_weight : (p : Texts) (k : ℕ) (y : File) → k < length p → get_or p k y ≡ y → 16 + (length y.name + length y.text) ≤ weigh_texts p
kth_weight [] k y h e = omega arith
kth_weight (x ∷ xs) zero y h e = let a = ap (λ (z : File). length z.name) e in let b = ap (λ (z : File). length z.text) e in omega arith
kth_weight (x ∷ xs) (suc k) y h e = let i = kth_weight xs k y (omega arith) e in omega arith

pub edits_size : (a b : ℕ) (new old : List ℕ) → a ≤ b → b ≤ length old → length (edits a b new old) ≡ a + length new + (length old - b)
edits_size a b new old h g = omega (arith, length-append (take a old) (new ++ drop b old), length-append new (drop b old), length-take-le a old (omega arith), length-drop b old)

pub puts_weight : (name text : List ℕ) (p : Texts) → 16 + (length name + length text) ≤ weigh_texts (puts_file name text p)
puts_weight name text [] = omega arith
puts_weight name text (x ∷ xs) = go (same x.name name) (puts_weight name text xs)
  where
    go : (b : Bool) → 16 + (length name + length text) ≤ weigh_texts (puts_file name text xs) → 16 + (length name + length text) ≤ weigh_texts (pick b (record { name = name; text = text } ∷ xs) (x ∷ puts_file name text xs))
    go true h = omega arith
    go false h = omega arith

pub too_large : (n : ℕ) (name text : List ℕ) (p : Texts) → n ≤ length name + length text → n < room (puts_file name text p)
too_large n name text p h = omega (arith, puts_weight name text p)

-- rows that are the same up to a place above what is kept
module _ (v w : ℕ) (m m₁ : List ℕ) (h : 20 * v ≤ w) (g : w ≤ length m) (l : length m₁ ≡ length m) (b : Same 0 w m m₁) where
  pub table_as : table v v m₁ ≡ table v v m
  table_as = part_same v (v + v) m m₁ l (omega arith) (λ i x y. b i (omega arith) (omega arith))

  pub half_as : half v (2 * v) m₁ ≡ half v (2 * v) m
  half_as = part_same (2 * v) (2 * v + 9 * v) m m₁ l (omega arith) (λ i x y. b i (omega arith) (omega arith))

  pub texts_as : texts_in v m₁ ≡ texts_in v m
  texts_as = ap (λ x. texts v x (half v (2 * v) m₁)) table_as ∙ ap (texts v (table v v m)) half_as

  pub fits_as : Fits v (2 * v) (table v v m) (half v (2 * v) m) → Fits v (2 * v) (table v v m₁) (half v (2 * v) m₁)
  fits_as f = subst (λ (x : List ℕ). Fits v (2 * v) x (half v (2 * v) m₁)) (sym table_as) (subst (λ (x : List ℕ). Fits v (2 * v) (table v v m) x) (sym half_as) f)

-- the k-th file, where its record stands
module _ (v k : ℕ) (m : List ℕ) (q : Fits v (2 * v) (table v v m) (half v (2 * v) m)) (there : k < length (texts_in v m)) (inside : 20 * v ≤ length m) where
  k_in : k < get_or (table v v m) 0 0
  k_in = omega (arith, texts_long v (2 * v) (table v v m) (half v (2 * v) m) q)

  table_in : 1 + get_or (table v v m) 0 0 ≤ v
  table_in = omega (arith, q.in_table, part_long v (v + v) m (omega arith))

  abbrev p : ℕ
  p = get_or m (v + (1 + k)) 0

  p_is : p ≡ get_or (table v v m) (1 + k) 0
  p_is = let i = k_in in let t = table_in in sym (part_at v (v + v) m (1 + k) (omega arith))

  pub k_row : v + (1 + k) < length m
  k_row = let i = k_in in let t = table_in in omega arith

  k_ok : FileOk v (2 * v) (half v (2 * v) m) p
  k_ok = subst (FileOk v (2 * v) (half v (2 * v) m)) (sym p_is) (file_ok v (2 * v) (table v v m) (half v (2 * v) m) q k k_in)

  p_in : p + 3 ≤ 9 * v
  p_in = omega (arith, k_ok.to_end, q.sound.pool_to, part_long (2 * v) (2 * v + 9 * v) m (omega arith))

  k_file : (y : File) → get_or (texts_in v m) k y ≡ y → file_at v (half v (2 * v) m) p ≡ y
  k_file y e = subst (λ (z : ℕ). file_at v (half v (2 * v) m) z ≡ y) (sym p_is) (sym (text_at v (2 * v) (table v v m) (half v (2 * v) m) q k k_in) ∙ get_or_default (texts_in v m) k (file_at v (half v (2 * v) m) (get_or (table v v m) (1 + k) 0)) y there ∙ e)

  pub record_says : RecordSays v k m p
  record_says = let i = p_in in record { within = p_in; ok = k_ok; file_is = k_file; name_is = sym (part_at (2 * v) (2 * v + 9 * v) m p (omega arith)); size_is = sym (part_at (2 * v) (2 * v + 9 * v) m (p + 1) (omega arith)) }

-- its name's number
module _ (v k : ℕ) (name m : List ℕ) (f : Found (texts_in v m) name k) (p : ℕ) (s : RecordSays v k m p) where
  pub f_live : Live v (half v (2 * v) m) (get_or m (2 * v + p) 0)
  f_live = subst (Live v (half v (2 * v) m)) (sym s.name_is) s.ok.name

  pub f_name : bytes v (half v (2 * v) m) (get_or m (2 * v + p) 0) ≡ name
  f_name = ap (bytes v (half v (2 * v) m)) s.name_is ∙ ap (λ (x : File). x.name) (s.file_is f.file f.place_is) ∙ f.named

  pub old_is : get_or m (2 * v + (p + 1)) 0 ≡ length f.file.text
  old_is = s.size_is ∙ s.ok.body.size_is ∙ ap (λ (x : File). length x.text) (s.file_is f.file f.place_is)

-- its text laid out, and edited
module _ (v w k a b : ℕ) (new m : List ℕ) (c : CanLay v w k a b new m) (p : ℕ) (s : RecordSays v k m p) where
  file_is : file_at v (half v (2 * v) m) p ≡ c.file
  file_is = s.file_is c.file c.place_is

  was_long : get_or (half v (2 * v) m) (p + 1) 0 ≡ length c.file.text
  was_long = s.ok.body.size_is ∙ ap (λ (x : File). length x.text) file_is

  pub can_write : CanWrite v (2 * v) p w m
  can_write = record { above = omega (arith, c.above); sound = c.fits.sound; ok = s.ok; room = omega (arith, was_long, c.work) }

  module _ (m₁ : List ℕ) (l₁ : length m₁ ≡ length m) (s₁ : WriteSays v (2 * v) p w m m₁) where
    pub can_splice : (a ≤ b) × ((b ≤ get_or m (2 * v + (p + 1)) 0) × ((w + get_or m (2 * v + (p + 1)) 0 ≤ length m₁) × (w + a + length new + (get_or m (2 * v + (p + 1)) 0 - b) ≤ length m₁)))
    can_splice = let e = s.size_is ∙ was_long in (c.onward, (omega (arith, c.within), (omega (arith, c.work), omega (arith, c.room))))

    text_is : between w (w + get_or m (2 * v + (p + 1)) 0) m₁ ≡ c.file.text
    text_is = ap (λ n. between w (w + n) m₁) s.size_is ∙ s₁.there ∙ ap (λ (x : File). x.text) file_is

    pub lay_says : (m₂ : List ℕ) → SpliceSays w (get_or m (2 * v + (p + 1)) 0) a b new m₁ m₂ → LaySays v w k a b new m m₂
    lay_says m₂ s₂ = record { laid = λ y e. subst (λ (x : List ℕ). between w (w + length (edits a b new x)) m₂ ≡ edits a b new x) (text_is ∙ ap (λ (x : File). x.text) (sym file_is ∙ s.file_is y e)) s₂.there; below = λ i x y. s₂.below i x y ∙ s₁.below i x y }

-- a row in order, and a file of the right weight
module _ (v w : ℕ) (m : List ℕ) (c : Long v w m) where
  pub p_light : 24 * weigh_texts (texts_in v m) + 65536 ≤ length m
  p_light = omega (arith, c.order.roomy)

  pub long_in : 20 * v ≤ length m
  long_in = omega (arith, c.units)

  pub same_order : (m₁ : List ℕ) → length m₁ ≡ length m → Same 0 w m m₁ → InOrder v m₁
  same_order m₁ l b = let t = texts_as v w m m₁ (omega (arith, c.from)) (omega (arith, c.to)) l b in record { fits = fits_as v w m m₁ (omega (arith, c.from)) (omega (arith, c.to)) l b c.order.fits; roomy = omega (arith, c.order.roomy, ap room t) }

  pub same_long : (m₁ : List ℕ) → length m₁ ≡ length m → Same 0 w m m₁ → Long v w m₁
  same_long m₁ l b = record { small = omega (arith, c.small); long = omega (arith, c.long); units = omega (arith, c.units); near = omega (arith, c.near); from = c.from; to = omega (arith, c.to); order = same_order m₁ l b }

  pub same_texts : (m₁ : List ℕ) → length m₁ ≡ length m → Same 0 w m m₁ → texts_in v m₁ ≡ texts_in v m
  same_texts m₁ l b = texts_as v w m m₁ (omega (arith, c.from)) (omega (arith, c.to)) l b

  pub same_change : (m₁ m₂ : List ℕ) → Same 0 w m m₁ → ChangeSays v w m₁ m₂ → ChangeSays v w m m₂
  same_change m₁ m₂ b s = record { order = s.order; stays = record { below = λ i x y. s.stays.below i x y ∙ b i x (omega (arith, c.from)); above = λ i x y. s.stays.above i x y ∙ b i (omega arith) y } }

  pub open_as : (m₁ : List ℕ) → length m₁ ≡ length m → Same 0 w m m₁ → (f x : List ℕ) (q : Texts) (r : Result (Unit {0}) NoRoom) → OpenSays (texts_in v m₁) (length m₁) f x q r → OpenSays (texts_in v m) (length m) f x q r
  open_as m₁ l b f x q r s = subst (λ (n : ℕ). OpenSays (texts_in v m) n f x q r) l (subst (λ (p : Texts). OpenSays p (length m₁) f x q r) (same_texts m₁ l b) s)

  pub edit_as : (m₁ : List ℕ) → length m₁ ≡ length m → Same 0 w m m₁ → (f : List ℕ) (i j : ℕ) (x : List ℕ) (q : Texts) (r : Result (Unit {0}) Refused) → EditSays (texts_in v m₁) (length m₁) f i j x q r → EditSays (texts_in v m) (length m) f i j x q r
  edit_as m₁ l b f i j x q r s = subst (λ (n : ℕ). EditSays (texts_in v m) n f i j x q r) l (subst (λ (p : Texts). EditSays p (length m₁) f i j x q r) (same_texts m₁ l b) s)

  pub found_as : (m₁ : List ℕ) → length m₁ ≡ length m → Same 0 w m m₁ → (name : List ℕ) (k : ℕ) → Found (texts_in v m) name k → Found (texts_in v m₁) name k
  found_as m₁ l b name k f = subst (λ (p : Texts). Found p name k) (sym (same_texts m₁ l b)) f

  pub files_there : (k : ℕ) (name : List ℕ) → Found (texts_in v m) name k → k ≤ get_or (table v v m) 0 0
  files_there k name f = omega (arith, f.there, texts_long v (2 * v) (table v v m) (half v (2 * v) m) c.order.fits)

  pub no_change : ChangeSays v w m m
  no_change = record { order = c.order; stays = record { below = λ i x y. refl; above = λ i x y. refl } }

  -- the k-th file gets another text, for which there is room
  module _ (k n : ℕ) (y : File) (yn : length y.text ≡ n) (there : k ≤ length (texts_in v m)) (r : room (placed k y (texts_in v m)) ≤ length m) where
    pub can_make : CanMake v w (2 * n + 5) (n + 1) m
    can_make = let a = placed_large k y (texts_in v m) in let b = p_light in record { row = c; words_in = omega (arith, c.near); numbers_in = omega (arith, c.near) }

    pub text_work : w + 2 * n + 1 ≤ length m
    text_work = let a = placed_weight k y (texts_in v m) in omega (arith, c.near, c.to)

    pub in_table : k + 2 ≤ v
    in_table = let a = placed_many k y (texts_in v m) there in omega (arith, c.near)

    module _ (m₁ : List ℕ) (l₁ : length m₁ ≡ length m) (s₁ : MakeSays v w (2 * n + 5) (n + 1) m m₁) (m₂ : List ℕ) (l₂ : length m₂ ≡ length m₁) (b₂ : Same 0 w m₁ m₂) where
      from_in : 20 * v ≤ w
      from_in = omega (arith, c.from)

      w_in : w ≤ length m₁
      w_in = omega (arith, c.to)

      pub texts₂ : texts_in v m₂ ≡ texts_in v m
      texts₂ = texts_as v w m₁ m₂ from_in w_in l₂ b₂ ∙ s₁.same

      pub fits₂ : Fits v (2 * v) (table v v m₂) (half v (2 * v) m₂)
      fits₂ = fits_as v w m₁ m₂ from_in w_in l₂ b₂ s₁.fits

      pub can_put_text : (f : ℕ) → Live v (half v (2 * v) m₂) f → CanPutText v k f w n m₂
      can_put_text f a = let h = half_as v w m₁ m₂ from_in w_in l₂ b₂ in let d = ap end h in let e = ap count h in record { small = omega (arith, c.small); fits = fits₂; there = omega (arith, ap length texts₂); in_table = in_table; name = a; above = from_in; work = omega (arith, text_work); words_in = omega (arith, s₁.words_in); numbers_in = omega (arith, s₁.numbers_in) }

      module _ (f : ℕ) (named : bytes v (half v (2 * v) m₂) f ≡ y.name) (laid : between w (w + n) m₂ ≡ y.text) (m₃ : List ℕ) (l₃ : length m₃ ≡ length m₂) (s₃ : PutTextSays v k f w n m₂ m₃) where
        pub texts₃ : texts_in v m₃ ≡ placed k y (texts_in v m)
        texts₃ = s₃.texts_are ∙ ap (λ (x : List ℕ). placed k (record { name = x; text = between w (w + n) m₂ }) (texts_in v m₂)) named ∙ ap (λ (x : List ℕ). placed k (record { name = y.name; text = x }) (texts_in v m₂)) laid ∙ ap (placed k y) texts₂

        pub put_changed : ChangeSays v w m m₃
        put_changed = record { order = record { fits = s₃.fits; roomy = omega (arith, ap room texts₃) }; stays = record { below = λ i x z. s₃.stays.below i x z ∙ b₂ i x (omega (arith, c.from)) ∙ s₁.stays.below i x z; above = λ i x z. s₃.stays.above i x z ∙ b₂ i (omega arith) z ∙ s₁.stays.above i x z } }

-- a file that is open gets another text
module _ (v w k n : ℕ) (name text m : List ℕ) (yn : length text ≡ n) (c : Long v w m) (f : Found (texts_in v m) name k) (x : ℕ) (rs : RoomSays (texts_in v m) k (length name) n x) where
  abbrev y : File
  y = record { name = name; text = text }

  pub replace_refused : length m < x → length m < room (puts_file name text (texts_in v m))
  replace_refused h = omega (arith, rs y refl yn, ap room (f.puts text))

  module _ (r : x ≤ length m) where
    roomy : room (placed k y (texts_in v m)) ≤ length m
    roomy = omega (arith, rs y refl yn)

    there : k ≤ length (texts_in v m)
    there = omega (arith, f.there)

    pub replace_make : CanMake v w (2 * n + 5) (n + 1) m
    replace_make = can_make v w m c k n y yn there roomy

    pub replace_work : w + 2 * n + 1 ≤ length m
    replace_work = text_work v w m c k n y yn there roomy

    module _ (m₁ : List ℕ) (l₁ : length m₁ ≡ length m) (s₁ : MakeSays v w (2 * n + 5) (n + 1) m m₁) (m₂ : List ℕ) (l₂ : length m₂ ≡ length m₁) (b₂ : Same 0 w m₁ m₂) where
      found₂ : Found (texts_in v m₂) name k
      found₂ = subst (λ (p : Texts). Found p name k) (sym (texts₂ v w m c k n y yn there roomy m₁ l₁ s₁ m₂ l₂ b₂)) f

      pub replace_record : Fits v (2 * v) (table v v m₂) (half v (2 * v) m₂) × ((k < length (texts_in v m₂)) × (20 * v ≤ length m₂))
      replace_record = (fits₂ v w m c k n y yn there roomy m₁ l₁ s₁ m₂ l₂ b₂, (found₂.there, omega (arith, long_in v w m c)))

      module _ (p : ℕ) (rp : RecordSays v k m₂ p) where
        pub replace_can : CanPutText v k (get_or m₂ (2 * v + p) 0) w n m₂
        replace_can = can_put_text v w m c k n y yn there roomy m₁ l₁ s₁ m₂ l₂ b₂ (get_or m₂ (2 * v + p) 0) (f_live v k name m₂ found₂ p rp)

        module _ (laid : between w (w + n) m₂ ≡ text) (m₃ : List ℕ) (l₃ : length m₃ ≡ length m₂) (s₃ : PutTextSays v k (get_or m₂ (2 * v + p) 0) w n m₂ m₃) where
          pub replace_changed : ChangeSays v w m m₃
          replace_changed = put_changed v w m c k n y yn there roomy m₁ l₁ s₁ m₂ l₂ b₂ (get_or m₂ (2 * v + p) 0) (f_name v k name m₂ found₂ p rp) laid m₃ l₃ s₃

          pub replace_says : texts_in v m₃ ≡ puts_file name text (texts_in v m)
          replace_says = texts₃ v w m c k n y yn there roomy m₁ l₁ s₁ m₂ l₂ b₂ (get_or m₂ (2 * v + p) 0) (f_name v k name m₂ found₂ p rp) laid m₃ l₃ s₃ ∙ sym (f.puts text)

-- a part of its text is replaced
module _ (v w k a b : ℕ) (name new m : List ℕ) (c : Long v w m) (f : Found (texts_in v m) name k) (q : ℕ) (rq : RecordSays v k m q) where
  abbrev old : ℕ
  old = get_or m (2 * v + (q + 1)) 0

  abbrev size : ℕ
  size = a + length new + (old - b)

  abbrev text : List ℕ
  text = edits a b new f.file.text

  pub old_long : old ≡ length f.file.text
  old_long = old_is v k name m f q rq

  file_light : 16 + (length name + old) ≤ weigh_texts (texts_in v m)
  file_light = let e = old_long in let d = ap length f.named in omega (arith, kth_weight (texts_in v m) k f.file f.there f.place_is)

  pub name_short : length name < 8589934592
  name_short = omega (arith, file_light, p_light v w m c, c.small)

  pub old_short : old < 4294967296
  old_short = omega (arith, file_light, p_light v w m c, c.small)

  module _ (h : a ≤ b) (g : b ≤ old) where
    pub edit_long : length text ≡ size
    edit_long = let e = old_long in edits_size a b new f.file.text h (omega arith) ∙ ap (λ n. a + length new + (n - b)) (sym e)

    pub edit_large : length m ≤ length new → length m < room (puts_file name text (texts_in v m))
    edit_large i = too_large (length m) name text (texts_in v m) (omega (arith, edit_long))

    module _ (m₁ : List ℕ) (l₁ : length m₁ ≡ length m) (s₁ : MakeSays v w (2 * size + 5) (size + 1) m m₁) (work : w + 2 * size + 1 ≤ length m) where
      place₁ : get_or (texts_in v m₁) k f.file ≡ f.file
      place₁ = ap (λ (p : Texts). get_or p k f.file) s₁.same ∙ f.place_is

      pub can_lay : CanLay v w k a b new m₁
      can_lay = let e = old_long in record { fits = s₁.fits; above = omega (arith, c.from); there = omega (arith, ap length s₁.same, f.there); file = f.file; place_is = place₁; onward = h; within = omega arith; work = omega (arith, file_light, p_light v w m c, c.near, c.to); room = omega arith }

      pub laid_there : (m₂ : List ℕ) → LaySays v w k a b new m₁ m₂ → between w (w + size) m₂ ≡ text
      laid_there m₂ s₂ = ap (λ n. between w (w + n) m₂) (sym edit_long) ∙ s₂.laid f.file place₁

-- one more file
module _ (v w : ℕ) (name text m : List ℕ) (c : Long v w m) (none_there : find_file (texts_in v m) name ≡ none) (x : ℕ) (rs : RoomSays (texts_in v m) (get_or (table v v m) 0 0) (length name) (length text) x) where
  abbrev k : ℕ
  k = get_or (table v v m) 0 0

  abbrev ya : File
  ya = record { name = name; text = text }

  k_is : k ≡ length (texts_in v m)
  k_is = sym (texts_long v (2 * v) (table v v m) (half v (2 * v) m) c.order.fits)

  puts : puts_file name text (texts_in v m) ≡ placed k ya (texts_in v m)
  puts = puts_new name text (texts_in v m) none_there ∙ sym (placed_last k ya (texts_in v m) k_is)

  pub add_refused : length m < x → length m < room (puts_file name text (texts_in v m))
  add_refused h = omega (arith, rs ya refl refl, ap room puts)

  module _ (r : x ≤ length m) where
    roomy_a : room (placed k ya (texts_in v m)) ≤ length m
    roomy_a = omega (arith, rs ya refl refl)

    there_a : k ≤ length (texts_in v m)
    there_a = omega (arith, k_is)

    weight : 24 * (weigh_texts (texts_in v m) + (16 + (length name + length text))) + 65536 ≤ length m
    weight = omega (arith, ap weigh_texts (placed_last k ya (texts_in v m) k_is), weigh_append (texts_in v m) (ya ∷ []), roomy_a)

    pub add_make : CanMake v w (length name + 2 * length text + 6) (length text + 2) m
    add_make = let a = weight in record { row = c; words_in = omega (arith, c.near); numbers_in = omega (arith, c.near) }

    pub add_work : (w + length name ≤ length m) × (w + length text ≤ length m)
    add_work = let a = weight in (omega (arith, c.near, c.to), omega (arith, c.near, c.to))

    module _ (m₁ : List ℕ) (l₁ : length m₁ ≡ length m) (s₁ : MakeSays v w (length name + 2 * length text + 6) (length text + 2) m m₁) (m₂ : List ℕ) (l₂ : length m₂ ≡ length m₁) (s₂ : WidenSays w name m₁ m₂) where
      w_from : 20 * v ≤ w
      w_from = omega (arith, c.from)

      w_to : w ≤ length m₁
      w_to = omega (arith, c.to)

      h₂ : half v (2 * v) m₂ ≡ half v (2 * v) m₁
      h₂ = half_as v w m₁ m₂ w_from w_to l₂ s₂.below

      t₂ : table v v m₂ ≡ table v v m₁
      t₂ = table_as v w m₁ m₂ w_from w_to l₂ s₂.below

      q₂ : Fits v (2 * v) (table v v m₂) (half v (2 * v) m₂)
      q₂ = fits_as v w m₁ m₂ w_from w_to l₂ s₂.below s₁.fits

      pub add_intern : CanIntern v (2 * v) w (length name) m₂
      add_intern = let d = ap end h₂ in let e = ap count h₂ in record { small = omega (arith, c.small); above = omega (arith, c.from); key_in = omega (arith, add_work.0); sound = q₂.sound; number = omega (arith, s₁.numbers_in); room = omega (arith, s₁.words_in) }

      module _ (m₃ : List ℕ) (f : ℕ) (l₃ : length m₃ ≡ length m₂) (s₃ : InternSays v (2 * v) w (length name) m₂ m₃ f) where
        t₃ : table v v m₃ ≡ table v v m₂
        t₃ = part_same v (v + v) m₂ m₃ l₃ (omega (arith, w_from, w_to)) (λ i a b. s₃.below i (omega arith) (omega arith))

        key_is : Interned v (2 * v) (half v (2 * v) m₂) name (half v (2 * v) m₃) f
        key_is = subst (λ (z : List ℕ). Interned v (2 * v) (half v (2 * v) m₂) z (half v (2 * v) m₃) f) s₂.there s₃.interned

        kept : Fits v (2 * v) (table v v m₂) (half v (2 * v) m₃) × (texts v (table v v m₂) (half v (2 * v) m₃) ≡ texts v (table v v m₂) (half v (2 * v) m₂))
        kept = still v (2 * v) (table v v m₂) (half v (2 * v) m₂) q₂ (half v (2 * v) m₃) key_is.sound key_is.long key_is.grown key_is.pooled

        made : MakeSays v w (2 * length text + 5) (length text + 1) m m₃
        made = let d = ap end h₂ in let e = ap count h₂ in record {
          fits = subst (λ (z : List ℕ). Fits v (2 * v) z (half v (2 * v) m₃)) (sym t₃) kept.0;
          same = ap (λ z. texts v z (half v (2 * v) m₃)) t₃ ∙ kept.1 ∙ texts_as v w m₁ m₂ w_from w_to l₂ s₂.below ∙ s₁.same;
          words_in = omega (arith, s₁.words_in, key_is.end_most);
          numbers_in = omega (arith, s₁.numbers_in, key_is.count_most);
          stays = record { below = λ i a b. s₃.below i a (omega arith) ∙ s₂.below i a (omega (arith, w_from)) ∙ s₁.stays.below i a b; above = λ i a b. s₃.above i (omega arith) (omega (arith, w_to)) ∙ s₂.below i (omega arith) b ∙ s₁.stays.above i a b };
        }

        module _ (m₄ : List ℕ) (l₄ : length m₄ ≡ length m₃) (s₄ : WidenSays w text m₃ m₄) where
          long₃ : length m₃ ≡ length m
          long₃ = l₃ ∙ l₂ ∙ l₁

          h₄ : half v (2 * v) m₄ ≡ half v (2 * v) m₃
          h₄ = half_as v w m₃ m₄ w_from (omega (arith, w_to)) l₄ s₄.below

          pub add_can : CanPutText v k f w (length text) m₄
          add_can = can_put_text v w m c k (length text) ya refl there_a roomy_a m₃ long₃ made m₄ l₄ s₄.below f (subst (λ (z : List ℕ). Live v z f) (sym h₄) key_is.live)

          module _ (m₅ : List ℕ) (l₅ : length m₅ ≡ length m₄) (s₅ : PutTextSays v k f w (length text) m₄ m₅) where
            pub add_changed : ChangeSays v w m m₅
            add_changed = put_changed v w m c k (length text) ya refl there_a roomy_a m₃ long₃ made m₄ l₄ s₄.below f (ap (λ z. bytes v z f) h₄ ∙ key_is.bytes_n) s₄.there m₅ l₅ s₅

            pub add_says : texts_in v m₅ ≡ puts_file name text (texts_in v m)
            add_says = texts₃ v w m c k (length text) ya refl there_a roomy_a m₃ long₃ made m₄ l₄ s₄.below f (ap (λ z. bytes v z f) h₄ ∙ key_is.bytes_n) s₄.there m₅ l₅ s₅ ∙ sym puts
