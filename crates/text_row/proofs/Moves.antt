-- A file moved to the other half (moved).
use Rattle.std.proofs.Common.{◌≡◌, ℕ, ◌+◌, ◌-◌, ◌*◌, ◌≤◌, List, length, get_or, sym, refl, ap, ◌∙◌, subst, arith}
use Rattle.std.specs.List.{between}
use Rattle.lexer.specs.Tokens.{lines}
use Rattle.text_row.specs.Row.{half}
use Rattle.interner.specs.Index.{Same}
use Rattle.interner.specs.Index.{count, end, bytes_at, bytes, Sound, Live}
use Rattle.interner.specs.Lines.{bodies, joined}
use Rattle.text_row.specs.Interner.{CanIntern, InternSays, CanNumber, NumberSays}
use Rattle.interner.specs.Numbers.{Numbered}
use Rattle.interner.specs.Interner.{Interned}
use Rattle.text_row.specs.Files.{file_at, Body, FileOk, CanAppend, AppendSays}
use Rattle.interner.specs.Written.{text_of}
use Rattle.text_row.specs.Copies.{CanCopy, CopySays, CanWrite, WriteSays}
use Rattle.text_row.specs.Reclaim.{CanMove, MoveSays}
use Rattle.interner.proofs.Joined.{joined_lines}
use Rattle.interner.proofs.Lists.{pooled_on, grown_on}
use Rattle.text_row.proofs.Records.{new_file, new_ok}
use Rattle.interner.proofs.Parts.{part_long, part_same}

-- numbers of a text's lines are a body for a file with that text
pub text_is : (nb cap : ℕ) (m text m' ns : List ℕ) → Numbered nb cap m text m' ns → text_of nb m' ns ≡ text
text_is nb cap m text m' ns n = ap joined n.lines_are ∙ joined_lines text

pub body_is : (nb cap : ℕ) (m text m' ns : List ℕ) (size : ℕ) → length text ≡ size → Numbered nb cap m text m' ns → Body nb m' ns size
body_is nb cap m text m' ns size l n = let t = text_is nb cap m text m' ns n in record { numbers = n.live; size_is = sym (ap length t ∙ l); lines_are = ap (λ x. bodies (lines x)) t ∙ sym n.lines_are }

module _ (v a b p w : ℕ) (m : List ℕ) (c : CanMove v a b p w m) where
  abbrev ha : List ℕ
  ha = half v a m

  abbrev hb : List ℕ
  hb = half v b m

  abbrev size : ℕ
  size = get_or ha (p + 1) 0

  abbrev name : List ℕ
  name = bytes v ha (get_or ha p 0)

  abbrev text : List ℕ
  text = text_of v ha (bytes_at ha (p + 2))

  size_is : size ≡ length text
  size_is = c.ok.body.size_is

  -- rows that are the same below
  a_same : (m₁ m₂ : List ℕ) → length m₂ ≡ length m₁ → length m₁ ≡ length m → Same 0 b m₁ m₂ → half v a m₂ ≡ half v a m₁
  a_same m₁ m₂ l k s = part_same a (a + 9 * v) m₁ m₂ l (omega (arith, c.apart, c.above, c.name_work)) (λ j x y. s j (omega arith) (omega (arith, c.apart)))

  b_same : (m₁ m₂ : List ℕ) → length m₂ ≡ length m₁ → length m₁ ≡ length m → Same 0 w m₁ m₂ → half v b m₂ ≡ half v b m₁
  b_same m₁ m₂ l k s = part_same b (b + 9 * v) m₁ m₂ l (omega (arith, c.above, c.name_work)) (λ j x y. s j (omega arith) (omega (arith, c.above)))

  pub can_name : CanCopy v a (get_or ha p 0) w m
  can_name = record { above = omega (arith, c.apart, c.above); sound = c.sound; live = c.ok.name; room = c.name_work }

  module _ (m₁ : List ℕ) (r : ℕ) (l₁ : length m₁ ≡ length m) (s₁ : CopySays v a (get_or ha p 0) w m m₁ r) where
    b₁ : half v b m₁ ≡ hb
    b₁ = b_same m m₁ l₁ refl s₁.below

    a₁ : half v a m₁ ≡ ha
    a₁ = a_same m m₁ l₁ refl (λ j x y. s₁.below j x (omega (arith, c.above)))

    pub can_intern : CanIntern v b w (r - w) m₁
    can_intern = let e = s₁.end_is in let d = ap end b₁ in let k = ap count b₁ in record { small = omega (arith, c.small); above = c.above; key_in = omega (arith, c.name_work); sound = subst (Sound v (2 * v)) (sym b₁) c.other; number = omega (arith, c.numbers); room = omega (arith, c.room) }

    module _ (m₂ : List ℕ) (f : ℕ) (l₂ : length m₂ ≡ length m₁) (s₂ : InternSays v b w (r - w) m₁ m₂ f) where
      a₂ : half v a m₂ ≡ ha
      a₂ = a_same m₁ m₂ l₂ l₁ s₂.below ∙ a₁

      key_is : between w (w + (r - w)) m₁ ≡ name
      key_is = let e : w + (r - w) ≡ r = omega (arith, s₁.end_is) in ap (λ j. between w j m₁) e ∙ s₁.there

      in₂ : Interned v (2 * v) hb name (half v b m₂) f
      in₂ = subst (λ (z : List ℕ). Interned v (2 * v) z name (half v b m₂) f) b₁ (subst (λ (z : List ℕ). Interned v (2 * v) (half v b m₁) z (half v b m₂) f) key_is s₂.interned)

      pub can_write : CanWrite v a p w m₂
      can_write = let z = ap (λ h. get_or h (p + 1) 0) a₂ in record { above = omega (arith, c.apart, c.above); sound = subst (Sound v (2 * v)) (sym a₂) c.sound; ok = subst (λ (h : List ℕ). FileOk v (2 * v) h p) (sym a₂) c.ok; room = omega (arith, c.text_work, size_is) }

      module _ (m₃ : List ℕ) (l₃ : length m₃ ≡ length m₂) (s₃ : WriteSays v a p w m₂ m₃) where
        b₃ : half v b m₃ ≡ half v b m₂
        b₃ = b_same m₂ m₃ l₃ (l₂ ∙ l₁) s₃.below

        text₃ : between w (w + size) m₃ ≡ text
        text₃ = ap (λ h. between w (w + get_or h (p + 1) 0) m₃) (sym a₂) ∙ s₃.there ∙ ap (λ h. text_of v h (bytes_at h (p + 2))) a₂

        pub can_number : CanNumber v b w size (w + size) m₃
        can_number = let d = ap end b₃ in let k = ap count b₃ in let z = size_is in record { small = omega (arith, c.small); above = c.above; behind = omega arith; out_in = omega (arith, c.text_work); sound = subst (Sound v (2 * v)) (sym b₃) in₂.sound; numbers = omega (arith, in₂.count_most, c.numbers); room = omega (arith, in₂.end_most, c.room) }

        module _ (m₄ : List ℕ) (k : ℕ) (l₄ : length m₄ ≡ length m₃) (s₄ : NumberSays v b w size (w + size) m₃ m₄ k) where
          abbrev ns : List ℕ
          ns = between (w + size) (w + size + k) m₄

          in₄ : Numbered v (2 * v) (half v b m₂) text (half v b m₄) ns
          in₄ = subst (λ (z : List ℕ). Numbered v (2 * v) z text (half v b m₄) ns) b₃ (subst (λ (z : List ℕ). Numbered v (2 * v) (half v b m₃) z (half v b m₄) ns) text₃ s₄.numbered)

          end₄ : end (half v b m₄) ≤ end hb + length name + length text + 2
          end₄ = omega (arith, in₄.end_most, in₂.end_most)

          pub can_append : CanAppend v b (w + size) k m₄
          can_append = let z = size_is in let e = end₄ in record { small = omega (arith, c.small); above = omega (arith, c.above); numbers_in = omega (arith, c.text_work, s₄.few); sound = in₄.sound; room = omega (arith, c.room, s₄.few) }

          module _ (m₅ : List ℕ) (q : ℕ) (l₅ : length m₅ ≡ length m₄) (s₅ : AppendSays v b f size (w + size) k m₄ m₅ q) where
            body : Body v (half v b m₄) ns size
            body = body_is v (2 * v) (half v b m₂) text (half v b m₄) ns size (sym size_is) in₄

            f_live : Live v (half v b m₄) f × (bytes v (half v b m₄) f ≡ bytes v (half v b m₂) f)
            f_live = in₄.grown f in₂.live

            ns_long : length ns ≡ k
            ns_long = let z = size_is in omega (arith, part_long (w + size) (w + size + k) m₄ (omega (arith, c.text_work, s₄.few)))

            file_is₅ : file_at v (half v b m₅) q ≡ file_at v ha p
            file_is₅ = new_file v (2 * v) (half v b m₄) (half v b m₅) ns f size q in₄.sound s₅.appended f_live.0 body ∙ ap (λ x. record { name = x; text = text_of v (half v b m₄) ns }) (f_live.1 ∙ in₂.bytes_n) ∙ ap (λ x. record { name = name; text = x }) (text_is v (2 * v) (half v b m₂) text (half v b m₄) ns in₄)

            pub moved : MoveSays v a b p w m m₅ q
            moved = record {
              sound = s₅.appended.sound;
              grown = grown_on v hb (half v b m₂) (half v b m₅) in₂.grown (grown_on v (half v b m₂) (half v b m₄) (half v b m₅) in₄.grown s₅.appended.grown);
              pooled = pooled_on v (2 * v) hb (half v b m₂) (half v b m₅) in₂.pooled (pooled_on v (2 * v) (half v b m₂) (half v b m₄) (half v b m₅) in₄.pooled s₅.appended.pooled);
              ok = new_ok v (2 * v) (half v b m₄) (half v b m₅) ns f size q in₄.sound s₅.appended f_live.0 body;
              same = file_is₅;
              end_most = omega (arith, s₅.appended.end_is, ns_long, end₄, s₄.few, size_is);
              count_most = omega (arith, s₅.appended.counts, in₄.count_most, in₂.count_most);
              below = λ j x y. s₅.below j x y ∙ s₄.below j x y ∙ s₃.below j x (omega (arith, c.above)) ∙ s₂.below j x y ∙ s₁.below j x (omega (arith, c.above));
              above = λ j x y. let z = c.name_work in s₅.above j x (omega arith) ∙ s₄.above j x (omega arith) ∙ s₃.below j (omega arith) y ∙ s₂.above j x (omega arith) ∙ s₁.below j (omega arith) y;
            }
