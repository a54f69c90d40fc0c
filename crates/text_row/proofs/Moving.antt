-- All files moved, one after the other (Moving), and the half copied back (back_again).
use Rattle.std.proofs.Common.{◌≡◌, ℕ, ◌+◌, ◌-◌, ◌*◌, ◌<◌, ◌≤◌, List, [], ◌∷◌, ◌++◌, map, length, get_or, take, set, sym, refl, ap, ◌∙◌, subst, arith}
use borrow.Rule.Slice.PartMut.{put_mid}
use Rattle.std.proofs.lemmas.List.{take_more, take_more_set, take_all, map_push, length-set, get_or-set_other}
use Rattle.semantics.specs.Answers.{weigh_texts}
use Rattle.text_row.specs.Row.{table, half}
use Rattle.interner.specs.Index.{Same}
use Rattle.interner.specs.Index.{count, end, pool, Sound}
use Rattle.interner.specs.Lines.{Every}
use Rattle.text_row.specs.Files.{file_at, texts, FileOk, Fits}
use Rattle.interner.specs.Places.{entries}
use Rattle.interner.specs.Interner.{Blank}
use Rattle.text_row.specs.Reclaim.{CanMove, MoveSays, CanReclaim, Reclaimed}
use Rattle.interner.proofs.Lists.{every_push}
use Rattle.text_row.proofs.Records.{files_still}
use Rattle.text_row.proofs.Tables.{file_ok}
use Rattle.interner.proofs.Places.{entries_set, entries_long}
use Rattle.text_row.proofs.Drops.{part_set}
use Rattle.text_row.proofs.Loads.{weigh_append, weigh_take, text_at, texts_long}
use Rattle.interner.proofs.Parts.{part_at, part_long, part_same, parts_same, put_below, put_above, put_in, put_long}

-- the first k files stand in the other half
pub record Moving (v t a b w : ℕ) (m₀ m : List ℕ) (k : ℕ) : Type 0 where
  pub long : length m ≡ length m₀
  pub below : Same 0 t m₀ m
  pub middle : Same (t + v) b m₀ m
  pub above : Same (b + 9 * v) w m₀ m
  pub within : k ≤ get_or (table v t m₀) 0 0
  pub counts : get_or (table v t m) 0 0 ≡ get_or (table v t m₀) 0 0
  pub rest : (i : ℕ) → k ≤ i → get_or (table v t m) (1 + i) 0 ≡ get_or (table v t m₀) (1 + i) 0
  pub sound : Sound v (2 * v) (half v b m)
  pub all_ok : Every (FileOk v (2 * v) (half v b m)) (take k (entries (table v t m)))
  pub so_far : map (file_at v (half v b m)) (take k (entries (table v t m))) ≡ take k (texts v (table v t m₀) (half v a m₀))
  pub end_most : end (half v b m) ≤ pool v (2 * v) + 2 * weigh_texts (take k (texts v (table v t m₀) (half v a m₀)))
  pub count_most : count (half v b m) ≤ 1 + weigh_texts (take k (texts v (table v t m₀) (half v a m₀)))

module _ (v t a b w : ℕ) (m₀ : List ℕ) (c : CanReclaim v t a b w m₀) where
  abbrev t₀ : List ℕ
  t₀ = table v t m₀

  abbrev h₀ : List ℕ
  h₀ = half v a m₀

  abbrev ps : List Rattle.semantics.specs.Names.File
  ps = texts v t₀ h₀

  pub w_in : w ≤ length m₀
  w_in = omega (arith, c.work)

  t_long : length t₀ ≡ v
  t_long = let i = w_in in omega (arith, part_long t (t + v) m₀ (omega (arith, c.table_below, c.apart, c.above)))

  pub many_in : 1 + get_or t₀ 0 0 ≤ v
  many_in = omega (arith, t_long, c.fits.in_table)

  pub many_is : get_or m₀ t 0 ≡ get_or t₀ 0 0
  many_is = let n = many_in in let z : t + 0 ≡ t = omega arith in sym (part_at t (t + v) m₀ 0 (omega arith) ∙ ap (λ i. get_or m₀ i 0) z)

  pub move_begins : Blank v (2 * v) 1 (half v b m₀) → Moving v t a b w m₀ m₀ 0
  move_begins e = record { long = refl; below = λ i x y. refl; middle = λ i x y. refl; above = λ i x y. refl; within = omega arith; counts = refl; rest = λ i h. refl; sound = e.sound; all_ok = tt; so_far = refl; end_most = omega (arith, e.ends); count_most = omega (arith, e.counts) }

  module _ (m : List ℕ) (k : ℕ) (g : Moving v t a b w m₀ m k) where
    module _ (h : k < get_or t₀ 0 0) where
      abbrev p : ℕ
      p = get_or m (t + (1 + k)) 0

      p_is : p ≡ get_or t₀ (1 + k) 0
      p_is = let n = many_in in sym (part_at t (t + v) m (1 + k) (omega arith)) ∙ g.rest k (omega arith)

      a_same : half v a m ≡ h₀
      a_same = let i = w_in in part_same a (a + 9 * v) m₀ m g.long (omega (arith, c.apart, c.above)) (λ j x y. g.middle j (omega (arith, c.table_below)) (omega (arith, c.apart)))

      ok : FileOk v (2 * v) h₀ p
      ok = subst (FileOk v (2 * v) h₀) (sym p_is) (file_ok v (2 * v) t₀ h₀ c.fits k h)

      x_is : get_or ps k (file_at v h₀ p) ≡ file_at v h₀ p
      x_is = subst (λ (q : ℕ). get_or ps k (file_at v h₀ q) ≡ file_at v h₀ q) (sym p_is) (text_at v (2 * v) t₀ h₀ c.fits k h)

      more : take (k + 1) ps ≡ take k ps ++ (file_at v h₀ p ∷ [])
      more = take_more ps k (file_at v h₀ p) (omega (arith, texts_long v (2 * v) t₀ h₀ c.fits)) ∙ ap (λ x. take k ps ++ (x ∷ [])) x_is

      weigh_more : weigh_texts (take (k + 1) ps) ≡ weigh_texts (take k ps) + (16 + (length (file_at v h₀ p).name + length (file_at v h₀ p).text))
      weigh_more = let e = ap weigh_texts more in let f = weigh_append (take k ps) (file_at v h₀ p ∷ []) in omega arith

      weigh_in : weigh_texts (take k ps) + (16 + (length (file_at v h₀ p).name + length (file_at v h₀ p).text)) ≤ weigh_texts ps
      weigh_in = omega (arith, weigh_more, weigh_take (k + 1) ps)

      pub can_move : CanMove v a b p w m
      can_move =
          let s = a_same in let u = weigh_in in let l = g.long in
          let n = ap (λ z. length (file_at v z p).name) s in let y = ap (λ z. length (file_at v z p).text) s in
          record { small = omega (arith, c.small); apart = c.apart; above = c.above; sound = subst (Sound v (2 * v)) (sym s) c.fits.sound; ok = subst (λ (z : List ℕ). FileOk v (2 * v) z p) (sym s) ok; other = g.sound; name_work = omega (arith, c.work); text_work = omega (arith, c.work); numbers = omega (arith, g.count_most, c.numbers); room = omega (arith, g.end_most, c.room) }

      module _ (m₁ : List ℕ) (r : ℕ) (l₁ : length m₁ ≡ length m) (s : MoveSays v a b p w m m₁ r) where
        abbrev m₂ : List ℕ
        m₂ = set m₁ (t + (1 + k)) r

        table_is : table v t m₂ ≡ set (table v t m) (1 + k) r
        table_is = let i = w_in in let l = g.long in part_set t (t + v) m₁ (1 + k) r ∙ ap (λ z. set z (1 + k) r) (part_same t (t + v) m m₁ l₁ (omega (arith, c.table_below, c.apart, c.above)) (λ j x y. s.below j (omega arith) (omega (arith, c.table_below, c.apart))))

        b_is : half v b m₂ ≡ half v b m₁
        b_is = let i = w_in in let l = g.long in let n = many_in in part_same b (b + 9 * v) m₁ m₂ (length-set m₁ (t + (1 + k)) r) (omega (arith, c.above)) (λ j x y. get_or-set_other m₁ (t + (1 + k)) j r 0 (omega (arith, c.table_below, c.apart)))

        abbrev es : List ℕ
        es = entries (table v t m)

        entries_are : take (k + 1) (entries (table v t m₂)) ≡ take k es ++ (r ∷ [])
        entries_are = ap (λ z. take (k + 1) (entries z)) table_is ∙ ap (take (k + 1)) (entries_set (table v t m) k r) ∙ take_more_set es k r (omega (arith, entries_long (table v t m) long_in, g.counts))
          where
            long_in : 1 + get_or (table v t m) 0 0 ≤ length (table v t m)
            long_in = let i = w_in in let l = g.long in omega (arith, g.counts, many_in, part_long t (t + v) m (omega (arith, c.table_below, c.apart, c.above)))

        both_still : (map (file_at v (half v b m₁)) (take k es) ≡ map (file_at v (half v b m)) (take k es)) × Every (FileOk v (2 * v) (half v b m₁)) (take k es)
        both_still = files_still v (2 * v) (half v b m) (half v b m₁) g.sound b_long s.grown s.pooled (take k es) g.all_ok
          where
            b_long : length (half v b m₁) ≡ length (half v b m)
            b_long = let i = w_in in let l = g.long in part_long b (b + 9 * v) m₁ (omega (arith, c.above)) ∙ sym (part_long b (b + 9 * v) m (omega (arith, c.above)))

        so_far' : map (file_at v (half v b m₁)) (take k es ++ (r ∷ [])) ≡ take (k + 1) ps
        so_far' = map_push (file_at v (half v b m₁)) (take k es) r ∙ ap (λ z. z ++ (file_at v (half v b m₁) r ∷ [])) (both_still.0 ∙ g.so_far) ∙ ap (λ z. take k ps ++ (z ∷ [])) (s.same ∙ ap (λ z. file_at v z p) a_same) ∙ sym more

        pub moves_on : Moving v t a b w m₀ m₂ (k + 1)
        moves_on =
            let n = many_in in let d = ap end b_is in let e = ap count b_is in let q = ap (λ z. length (file_at v z p).name) a_same in let y = ap (λ z. length (file_at v z p).text) a_same in let u = weigh_more in
            record {
              long = length-set m₁ (t + (1 + k)) r ∙ l₁ ∙ g.long;
              below = λ j x z. get_or-set_other m₁ (t + (1 + k)) j r 0 (omega arith) ∙ s.below j x (omega (arith, c.table_below, c.apart)) ∙ g.below j x z;
              middle = λ j x z. get_or-set_other m₁ (t + (1 + k)) j r 0 (omega arith) ∙ s.below j (omega arith) z ∙ g.middle j x z;
              above = λ j x z. get_or-set_other m₁ (t + (1 + k)) j r 0 (omega (arith, c.table_below, c.apart)) ∙ s.above j x z ∙ g.above j x z;
              within = omega arith;
              counts = ap (λ z. get_or z 0 0) table_is ∙ get_or-set_other (table v t m) (1 + k) 0 r 0 (omega arith) ∙ g.counts;
              rest = λ i x. ap (λ z. get_or z (1 + i) 0) table_is ∙ get_or-set_other (table v t m) (1 + k) (1 + i) r 0 (omega arith) ∙ g.rest i (omega arith);
              sound = subst (Sound v (2 * v)) (sym b_is) s.sound;
              all_ok = subst (λ (z : List ℕ). Every (FileOk v (2 * v) z) (take (k + 1) (entries (table v t m₂)))) (sym b_is) (subst (Every (FileOk v (2 * v) (half v b m₁))) (sym entries_are) (every_push (FileOk v (2 * v) (half v b m₁)) (take k es) r both_still.1 s.ok));
              so_far = ap (λ z. map (file_at v z) (take (k + 1) (entries (table v t m₂)))) b_is ∙ ap (map (file_at v (half v b m₁))) entries_are ∙ so_far';
              end_most = omega (arith, s.end_most, g.end_most);
              count_most = omega (arith, s.count_most, g.count_most);
            }

    pub move_ends : get_or t₀ 0 0 ≤ k → Reclaimed v t a b w b m₀ m
    move_ends h =
        let i = w_in in let l = g.long in let n = many_in in
        let tl = part_long t (t + v) m (omega (arith, c.table_below, c.apart, c.above)) in
        let b₁ : 1 + get_or (table v t m) 0 0 ≤ length (table v t m) = omega (arith, g.counts) in
        let x : take k (entries (table v t m)) ≡ entries (table v t m) = take_all k (entries (table v t m)) (omega (arith, entries_long (table v t m) b₁, g.counts)) in
        let y : take k ps ≡ ps = take_all k ps (omega (arith, texts_long v (2 * v) t₀ h₀ c.fits)) in
        let u = ap weigh_texts y in
        record { fits = record { sound = g.sound; in_table = b₁; all_ok = subst (Every (FileOk v (2 * v) (half v b m))) x g.all_ok }; same = ap (map (file_at v (half v b m))) (sym x) ∙ g.so_far ∙ y; end_most = omega (arith, g.end_most); count_most = omega (arith, g.count_most); below = g.below; above = g.above }

  -- the other half was cleared
  module _ (z : List ℕ) (lz : length z ≡ length (half v b m₀)) where
    abbrev mz : List ℕ
    mz = put_mid b (b + 9 * v - b) m₀ z

    z_long : length z ≡ b + 9 * v - b
    z_long = let i = w_in in lz ∙ part_long b (b + 9 * v) m₀ (omega (arith, c.above))

    z_in : b + (b + 9 * v - b) ≤ length m₀
    z_in = let i = w_in in omega (arith, c.above)

    cleared_long : length mz ≡ length m₀
    cleared_long = put_long b (b + 9 * v - b) m₀ z z_long z_in

    a_is : half v a mz ≡ h₀
    a_is = let i = w_in in part_same a (a + 9 * v) m₀ mz cleared_long (omega (arith, c.apart, c.above)) (λ j x y. put_below b (b + 9 * v - b) m₀ z z_long z_in j (omega arith) (omega (arith, c.apart)))

    t_is : table v t mz ≡ t₀
    t_is = let i = w_in in part_same t (t + v) m₀ mz cleared_long (omega (arith, c.table_below, c.apart, c.above)) (λ j x y. put_below b (b + 9 * v - b) m₀ z z_long z_in j (omega arith) (omega (arith, c.table_below, c.apart)))

    texts_are : texts v (table v t mz) (half v a mz) ≡ ps
    texts_are = ap (λ x. texts v x (half v a mz)) t_is ∙ ap (texts v t₀) a_is

    pub still_can : CanReclaim v t a b w mz
    still_can = let e = ap weigh_texts texts_are in let l = cleared_long in record { small = omega (arith, c.small); table_below = c.table_below; apart = c.apart; above = c.above; fits = subst (λ (x : List ℕ). Fits v (2 * v) x (half v a mz)) (sym t_is) (subst (λ (x : List ℕ). Fits v (2 * v) t₀ x) (sym a_is) c.fits); numbers = omega (arith, c.numbers); room = omega (arith, c.room); work = omega (arith, c.work) }

    pub blank_there : Blank v (2 * v) 1 z → Blank v (2 * v) 1 (half v b mz)
    blank_there e = subst (Blank v (2 * v) 1) (sym (put_in b (b + 9 * v - b) m₀ z z_long z_in (b + 9 * v) refl)) e

    -- all files moved, and the half copied back
    module _ (m : List ℕ) (lm : length m ≡ length mz) (d : Reclaimed v t a b w b mz m) (m' : List ℕ) (l' : length m' ≡ length m)
        (copied : (k : ℕ) → a ≤ k → k < a + 9 * v → get_or m' k 0 ≡ get_or m (b + (k - a)) 0) (front : (k : ℕ) → k < a → get_or m' k 0 ≡ get_or m k 0) (back : (k : ℕ) → a + 9 * v ≤ k → get_or m' k 0 ≡ get_or m k 0) where
      half_is : half v a m' ≡ half v b m
      half_is = let i = w_in in let l = cleared_long in parts_same b (b + 9 * v) a (a + 9 * v) m m' (omega (arith, c.above)) (omega (arith, c.apart, c.above)) (omega arith) (λ j x. let f : b + ((a + j) - a) ≡ b + j = omega arith in copied (a + j) (omega arith) (omega arith) ∙ ap (λ y. get_or m y 0) f)

      table_same : table v t m' ≡ table v t m
      table_same = let i = w_in in let l = cleared_long in part_same t (t + v) m m' l' (omega (arith, c.table_below, c.apart, c.above)) (λ j x y. front j (omega (arith, c.table_below)))

      pub back_again : Reclaimed v t a b w a m₀ m'
      back_again =
          let e = ap weigh_texts texts_are in let x = ap end half_is in let y = ap count half_is in
          record { fits = subst (λ (q : List ℕ). Fits v (2 * v) q (half v a m')) (sym table_same) (subst (λ (q : List ℕ). Fits v (2 * v) (table v t m) q) (sym half_is) d.fits); same = ap (λ q. texts v q (half v a m')) table_same ∙ ap (texts v (table v t m)) half_is ∙ d.same ∙ texts_are; end_most = omega (arith, d.end_most); count_most = omega (arith, d.count_most); below = λ j f g. front j (omega (arith, c.table_below)) ∙ d.below j f g ∙ put_below b (b + 9 * v - b) m₀ z z_long z_in j f (omega (arith, c.table_below, c.apart)); above = λ j f g. back j (omega (arith, c.apart)) ∙ d.above j f g ∙ put_above b (b + 9 * v - b) m₀ z z_long z_in j (omega arith) (omega (arith, w_in)) }
