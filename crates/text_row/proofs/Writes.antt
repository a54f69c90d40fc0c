-- Bytes in a part of the row (widen_says), a number's bytes copied (copy_says), and a text written (write_says).
use Rattle.std.proofs.Common.{◌≡◌, ℕ, ◌+◌, ◌-◌, ◌*◌, ◌<◌, ◌≤◌, List, ◌++◌, length, get_or, take, drop, sym, refl, ap, ◌∙◌, subst, arith}
use Rattle.std.proofs.Math.Seq.{drop-append_seam}
use borrow.Rule.Slice.PartMut.{put_mid}
use Rattle.std.specs.List.{between}
use Rattle.std.proofs.lemmas.List.{get_or-take, get_or_append_left, length-take-le}
use Rattle.text_row.specs.Row.{half}
use Rattle.interner.specs.Index.{place, bytes_at, bytes, Sound, Live}
use Rattle.interner.specs.Lines.{Every}
use Rattle.interner.specs.Written.{text_of}
use Rattle.text_row.specs.Copies.{WidenSays, CanCopy, CopySays, CanWrite, WriteSays}
use Rattle.interner.proofs.Parts.{part_at, part_low, part_long, parts_same, put_below, put_above, put_in}
use Rattle.text_row.proofs.Loads.{live_long}

-- bytes in a part that was lent
pub widen_says : (to : ℕ) (xs m ys : List ℕ) → to + length xs ≤ length m → ys ≡ xs → WidenSays to xs m (put_mid to (to + length xs - to) m ys)
widen_says to xs m ys h e =
    let k : length ys ≡ to + length xs - to = omega (arith, ap length e) in
    let r : to + (to + length xs - to) ≤ length m = omega arith in
    record { there = put_in to (to + length xs - to) m ys k r (to + length xs) refl ∙ e; below = put_below to (to + length xs - to) m ys k r; above = λ j f g. put_above to (to + length xs - to) m ys k r j (omega arith) g }

-- a number's bytes
module _ (v a n to : ℕ) (m : List ℕ) (c : CanCopy v a n to m) where
  abbrev h : List ℕ
  h = half v a m

  abbrev p : ℕ
  p = place v h n

  size_is : length (bytes v h n) ≡ get_or h p 0
  size_is = live_long v (2 * v) h n c.sound c.live

  h_long : length h ≡ 9 * v
  h_long = omega (arith, part_long a (a + 9 * v) m (omega (arith, c.above, c.room)))

  pub copy_in : p + 1 + get_or h p 0 ≤ 9 * v
  copy_in = omega (arith, (c.sound.places n c.live.0 c.live.1).1, c.sound.pool_to, h_long)

  pub copy_row : 2 + v + 2 * n + 1 < length h
  copy_row = omega (arith, c.live.0, c.sound.counted, c.sound.pool_from, c.sound.pool_to)

  pub copy_room : to + get_or h p 0 ≤ length m
  copy_room = omega (arith, c.room, size_is)

  pub copy_says : (m₁ : List ℕ) → length m₁ ≡ length m → ((k : ℕ) → to ≤ k → k < to + get_or h p 0 → get_or m₁ k 0 ≡ get_or m (a + (p + 1) + (k - to)) 0) → ((k : ℕ) → k < to → get_or m₁ k 0 ≡ get_or m k 0) → CopySays v a n to m m₁ (to + get_or h p 0)
  copy_says m₁ l copied front =
      let s = size_is in let q = copy_in in let r = copy_room in let u = h_long in
      let e : (p + 1 + get_or h p 0) - (p + 1) ≡ get_or h p 0 = omega arith in
      record { end_is = omega arith; there = parts_same (p + 1) (p + 1 + get_or h p 0) to (to + get_or h p 0) h m₁ (omega arith) (omega arith) (omega arith) (λ i g. let f : a + (p + 1) + ((to + i) - to) ≡ a + (p + 1 + i) = omega arith in copied (to + i) (omega arith) (omega arith) ∙ ap (λ j. get_or m j 0) f ∙ sym (part_at a (a + 9 * v) m (p + 1 + i) (omega arith))) ∙ ap (λ j. take j (drop (p + 1) h)) e; below = λ i x y. front i y }

-- a text, written above the half, of which it is read
module _ (v a p to : ℕ) (m low high : List ℕ) (c : CanWrite v a p to m) (fl : low ≡ take to m) (fh : high ≡ drop to m) where
  abbrev hw : List ℕ
  hw = half v a m

  abbrev text : List ℕ
  text = text_of v hw (bytes_at hw (p + 2))

  to_in : to ≤ length m
  to_in = omega (arith, c.room)

  pub half_is : between a (a + 9 * v) low ≡ hw
  half_is = part_low a (a + 9 * v) to m low fl c.above to_in

  pub numbers_in : p + 2 + 1 + get_or (between a (a + 9 * v) low) (p + 2) 0 ≤ length (between a (a + 9 * v) low)
  numbers_in = subst (λ (h : List ℕ). p + 2 + 1 + get_or h (p + 2) 0 ≤ length h) (sym half_is) (omega (arith, c.ok.to_end, c.sound.pool_to))

  pub can_lines : (ns : List ℕ) → ns ≡ bytes_at (between a (a + 9 * v) low) (p + 2) → Sound v (2 * v) (between a (a + 9 * v) low) × Every (Live v (between a (a + 9 * v) low)) ns
  can_lines ns e = subst (λ (h : List ℕ). Sound v (2 * v) h × Every (Live v h) ns) (sym half_is) (c.sound, subst (Every (Live v hw)) (sym (e ∙ ap (λ h. bytes_at h (p + 2)) half_is)) c.ok.body.numbers)

  text_is : (ns : List ℕ) → ns ≡ bytes_at (between a (a + 9 * v) low) (p + 2) → text_of v (between a (a + 9 * v) low) ns ≡ text
  text_is ns e = ap (λ h. text_of v h ns) half_is ∙ ap (text_of v hw) (e ∙ ap (λ h. bytes_at h (p + 2)) half_is)

  pub write_says : (ns high' : List ℕ) (n : ℕ) → ns ≡ bytes_at (between a (a + 9 * v) low) (p + 2) → (n ≤ length high') × (take n high' ≡ text_of v (between a (a + 9 * v) low) ns) → WriteSays v a p to m (low ++ high')
  write_says ns high' n e f =
      let t = f.1 ∙ text_is ns e in
      let l : length low ≡ to = ap length fl ∙ length-take-le to m to_in in
      let k : (to + get_or hw (p + 1) 0) - to ≡ n = omega (arith, c.ok.body.size_is, ap length t, length-take-le n high' f.0) in
      let d : drop to (low ++ high') ≡ high' = ap (λ i. drop i (low ++ high')) (sym l) ∙ drop-append_seam low high' in
      record { there = ap (λ i. take i (drop to (low ++ high'))) k ∙ ap (take n) d ∙ t; below = λ i x y. get_or_append_left low high' 0 i (omega arith) ∙ ap (λ z. get_or z i 0) fl ∙ get_or-take to m i 0 y }
