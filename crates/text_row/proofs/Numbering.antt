-- Lines get numbers in a half: the half is lent, and so are the words behind the text (number_says).
use Rattle.std.proofs.Common.{◌≡◌, ℕ, ◌+◌, ◌-◌, ◌*◌, ◌<◌, ◌≤◌, List, ◌++◌, length, get_or, take, drop, refl, sym, ap, ◌∙◌, subst, append_assoc, arith, length-drop}
use Rattle.std.proofs.Math.Seq.{take-append_seam, drop-append_seam}
use borrow.Rule.Slice.PartMut.{put_mid}
use Rattle.std.specs.List.{between}
use Rattle.std.proofs.lemmas.List.{drop-take, get_or-take, get_or_append_left, length-take-le, take-take}
use Rattle.text_row.specs.Row.{half}
use Rattle.text_row.specs.Interner.{CanNumber, NumberSays}
use Rattle.interner.specs.Index.{count, end}
use Rattle.interner.specs.Numbers.{Numbered, Roomy}
use Rattle.interner.proofs.Parts.{part_long, part_low, part_high, put_below, put_above, put_in, put_joined, put_long}

module _ (v a t n out : ℕ) (m low rest xs ys : List ℕ) (c : CanNumber v a t n out m) (fl : low ≡ take t m) (fr : rest ≡ drop t m) (fx : xs ≡ take (out - t) rest) (fy : ys ≡ drop (out - t) rest) where
  t_in : t ≤ length m
  t_in = omega (arith, c.behind, c.out_in)

  half_is : between a (a + 9 * v) low ≡ half v a m
  half_is = part_low a (a + 9 * v) t m low fl c.above t_in

  text_is : take n xs ≡ between t (t + n) m
  text_is = ap (take n) fx ∙ take-take n (out - t) rest (omega (arith, c.behind)) ∙ part_high t n m rest fr

  text_long : length (take n xs) ≡ n
  text_long = ap length text_is ∙ omega (arith, part_long t (t + n) m (omega (arith, c.behind, c.out_in)))

  ys_long : length ys ≡ length m - out
  ys_long = omega (arith, ap length fy, length-drop (out - t) rest, ap length fr, length-drop t m, c.behind)

  pub sound_in : Rattle.interner.specs.Index.Sound v (2 * v) (between a (a + 9 * v) low)
  sound_in = subst (Rattle.interner.specs.Index.Sound v (2 * v)) (sym half_is) c.sound

  pub roomy : (ys' : List ℕ) → length ys' ≡ length ys → Roomy v (2 * v) (between a (a + 9 * v) low) (take n xs) ys'
  roomy ys' l = let h = part_long a (a + 9 * v) m (omega (arith, c.above, t_in)) in record { numbers = omega (arith, ap count half_is, text_long, c.numbers); words = omega (arith, ap end half_is, ap length half_is, h, text_long, c.room); places = omega (arith, l, ys_long, text_long, c.out_in) }

  module _ (w ys' : List ℕ) (k : ℕ) (l : length ys' ≡ length ys) (r : (k ≤ length ys') × Numbered v (2 * v) (between a (a + 9 * v) low) (take n xs) w (take k ys') × (k ≤ length (take n xs) + 1)) where
    abbrev front : List ℕ
    front = take out m

    abbrev q : List ℕ
    q = put_mid a (a + 9 * v - a) front w

    front_long : length front ≡ out
    front_long = length-take-le out m (omega (arith, c.out_in))

    w_long : length w ≡ a + 9 * v - a
    w_long = omega (arith, r.1.long, ap length half_is, part_long a (a + 9 * v) m (omega (arith, c.above, t_in)))

    inside : a + (a + 9 * v - a) ≤ length front
    inside = omega (arith, front_long, c.above, c.behind)

    q_long : length q ≡ out
    q_long = put_long a (a + 9 * v - a) front w w_long inside ∙ front_long

    whole : put_mid a (a + 9 * v - a) low w ++ (xs ++ ys') ≡ q ++ ys'
    whole =
        let d : t + (out - t) ≡ out = omega (arith, c.behind) in
        let lows : low ≡ take t front = fl ∙ sym (take-take t out m (omega (arith, c.behind))) in
        let mids : xs ≡ drop t front = fx ∙ ap (take (out - t)) fr ∙ sym (drop-take t (out - t) m) ∙ ap (λ i. drop t (take i m)) d in
        sym (append_assoc (put_mid a (a + 9 * v - a) low w) xs ys') ∙ ap (λ z. z ++ ys') (put_joined a (a + 9 * v - a) t front low xs w lows mids (omega (arith, c.above)) (omega (arith, front_long, c.behind)))

    half_now : half v a (q ++ ys') ≡ w
    half_now = sym (part_low a (a + 9 * v) out (q ++ ys') q (sym (ap (λ i. take i (q ++ ys')) (sym q_long) ∙ take-append_seam q ys')) (omega (arith, c.above, c.behind)) (omega (arith, q_long, Rattle.std.proofs.Common.length-append q ys'))) ∙ put_in a (a + 9 * v - a) front w w_long inside (a + 9 * v) refl

    numbers_now : between out (out + k) (q ++ ys') ≡ take k ys'
    numbers_now = let e : (out + k) - out ≡ k = omega arith in ap (λ i. take i (drop out (q ++ ys'))) e ∙ ap (take k) (ap (λ i. drop i (q ++ ys')) (sym q_long) ∙ drop-append_seam q ys')

    at_front : (i : ℕ) → i < out → get_or (q ++ ys') i 0 ≡ get_or q i 0
    at_front i h = get_or_append_left q ys' 0 i (omega (arith, q_long))

    pub number_says : NumberSays v a t n out m (put_mid a (a + 9 * v - a) low w ++ (xs ++ ys')) k
    number_says =
        let b = c.above in let d = c.behind in
        subst (λ (z : List ℕ). NumberSays v a t n out m z k) (sym whole) (record {
          numbered = subst (λ (z : List ℕ). Numbered v (2 * v) (half v a m) (between t (t + n) m) z (between out (out + k) (q ++ ys'))) (sym half_now) (subst (λ (z : List ℕ). Numbered v (2 * v) (half v a m) (between t (t + n) m) w z) (sym numbers_now) (subst (λ (z : List ℕ). Numbered v (2 * v) z (between t (t + n) m) w (take k ys')) half_is (subst (λ (z : List ℕ). Numbered v (2 * v) (between a (a + 9 * v) low) z w (take k ys')) text_is r.1)));
          few = omega (arith, r.2, text_long);
          below = λ i x y. at_front i (omega arith) ∙ put_below a (a + 9 * v - a) front w w_long inside i x y ∙ get_or-take out m i 0 (omega arith);
          above = λ i x y. at_front i y ∙ put_above a (a + 9 * v - a) front w w_long inside i (omega arith) (omega (arith, front_long)) ∙ get_or-take out m i 0 y;
        })
