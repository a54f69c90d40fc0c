-- On words written and kept.
use Rattle.std.proofs.Common.{◌≡◌, ℕ, ◌+◌, ◌-◌, ◌<◌, ◌≤◌, min, List, [], ◌++◌, length, take, drop, sym, refl, ap, ◌∙◌, inl, inr, arith}
use Rattle.std.proofs.lemmas.List.{length-append, length-take, length-drop, get_or_append_left, get_or-append_right, get_or-take, get_or-drop, ext_get_or}
use Rattle.std.proofs.lemmas.Bool.{cases_lt}
use Rattle.symbols.specs.Table.{word}
use Rattle.symbols.specs.declared.layout.Layout.{Layout}
use Rattle.symbols.specs.Rows.{InOrder, texts_in}
use Rattle.collector.specs.Rows.{Wrote, Kept, Held}

-- nothing was written
pub wrote_none : (a : ℕ) (ws : List ℕ) → Wrote a a ws ws
wrote_none a ws = record { long = refl; before = λ i l. refl; behind = λ i l. refl }

-- more may have been written
pub wrote_wider : (a b c d : ℕ) (ws vs : List ℕ) → c ≤ a → b ≤ d → Wrote a b ws vs → Wrote c d ws vs
wrote_wider a b c d ws vs h k w = record { long = w.long; before = λ i l. w.before i (omega arith); behind = λ i l. w.behind i (omega arith) }

-- first this, then that
pub wrote_on : (a b c d : ℕ) (us ws vs : List ℕ) → a ≤ c → b ≤ d → Wrote a b us ws → Wrote c d ws vs → Wrote a d us vs
wrote_on a b c d us ws vs h k p q = record {
  long = q.long ∙ p.long;
  before = λ i l. q.before i (omega arith) ∙ p.before i l;
  behind = λ i l. q.behind i l ∙ p.behind i (omega arith);
}

pub kept_wrote : (l : Layout) (a b : ℕ) (ws vs : List ℕ) → Wrote a b ws vs → Kept l a b ws vs
kept_wrote l a b ws vs w = record { long = w.long; before = λ i h k. w.before i k; behind = λ i h k. w.behind i h }

pub kept_none : (l : Layout) (a : ℕ) (ws : List ℕ) → Kept l a a ws ws
kept_none l a ws = record { long = refl; before = λ i h k. refl; behind = λ i h k. refl }

pub kept_wider : (l : Layout) (a b c d : ℕ) (ws vs : List ℕ) → c ≤ a → b ≤ d → Kept l a b ws vs → Kept l c d ws vs
kept_wider l a b c d ws vs h k w = record { long = w.long; before = λ i x y. w.before i x (omega arith); behind = λ i x y. w.behind i (omega arith) y }

pub kept_on : (l : Layout) (a b c d : ℕ) (us ws vs : List ℕ) → a ≤ c → b ≤ d → Kept l a b us ws → Kept l c d ws vs → Kept l a d us vs
kept_on l a b c d us ws vs h k p q = record {
  long = q.long ∙ p.long;
  before = λ i x y. q.before i x (omega arith) ∙ p.before i x y;
  behind = λ i x y. q.behind i x y ∙ p.behind i (omega arith) y;
}

-- nothing of the texts and the table was written
pub kept_any : (l : Layout) (c a b : ℕ) (ws vs : List ℕ) → a ≤ l.work → l.texts ≤ b → Kept l c c ws vs → Kept l a b ws vs
kept_any l c a b ws vs h t k = record { long = k.long; before = λ i x y. all i x (omega arith); behind = λ i x y. all i (omega arith) y }
  where
    all : (i : ℕ) → l.texts ≤ i → i < l.work → word vs i ≡ word ws i
    all i x y = elim (cases_lt i c) [ inl z ↦ k.before i x z | inr z ↦ k.behind i z y ]

-- a part of which no word was written
pub part_same : (ws vs : List ℕ) (a n : ℕ) → length vs ≡ length ws → ((i : ℕ) → a ≤ i → i < a + n → word vs i ≡ word ws i) → take n (drop a vs) ≡ take n (drop a ws)
part_same ws vs a n e h =
    ext_get_or 0 (take n (drop a vs)) (take n (drop a ws)) (length-take n (drop a vs) ∙ ap (min n) (length-drop a vs ∙ ap (λ x. x - a) e ∙ sym (length-drop a ws)) ∙ sym (length-take n (drop a ws)))
    (λ i l. let b : i < n = omega (arith, length-take n (drop a vs)) in get_or-take n (drop a vs) i 0 b ∙ get_or-drop a vs i 0 ∙ h (a + i) (omega arith) (omega arith) ∙ sym (get_or-drop a ws i 0) ∙ sym (get_or-take n (drop a ws) i 0 b))

pub front_same : (ws vs : List ℕ) (n : ℕ) → length vs ≡ length ws → ((i : ℕ) → i < n → word vs i ≡ word ws i) → take n vs ≡ take n ws
front_same ws vs n e h = part_same ws vs 0 n e (λ i a l. h i (omega arith))

pub texts_kept : (l : Layout) (a b : ℕ) (ws vs : List ℕ) → l.texts ≤ l.index → l.index ≤ a → Kept l a b ws vs → texts_in l vs ≡ texts_in l ws
texts_kept l a b ws vs o h k = part_same ws vs l.texts (l.index - l.texts) k.long (λ i x y. k.before i x (omega arith))

pub order_kept : (l : Layout) (ws vs : List ℕ) → length vs ≡ length ws → InOrder l ws → InOrder l vs
order_kept l ws vs e o = record { slot = o.slot; table = o.table; row = omega arith; small = omega arith }

-- words that stand, one behind the other, and in another row
pub held_none : (ws : List ℕ) (a : ℕ) → a ≤ length ws → Held ws a []
held_none ws a h = record { within = omega arith; reads = λ j l. absurd (omega arith) }

pub held_join : (ws : List ℕ) (a b : ℕ) (xs ys : List ℕ) → b ≡ a + length xs → Held ws a xs → Held ws b ys → Held ws a (xs ++ ys)
held_join ws a b xs ys e p q = record { within = omega (arith, length-append xs ys, q.within); reads = λ j l. elim (cases_lt j (length xs)) [ inl h ↦ p.reads j h ∙ sym (get_or_append_left xs ys 0 j h) | inr h ↦ right j l h ] }
  where
    right : (j : ℕ) → j < length (xs ++ ys) → length xs ≤ j → word ws (a + j) ≡ word (xs ++ ys) j
    right j l h =
        let n : a + j ≡ b + (j - length xs) = omega arith in
        ap (word ws) n ∙ q.reads (j - length xs) (omega (arith, length-append xs ys)) ∙ sym (get_or-append_right xs ys (length xs) j 0 refl h)

pub held_at : (ws vs : List ℕ) (a : ℕ) (xs : List ℕ) → a + length xs ≤ length vs → ((i : ℕ) → a ≤ i → i < a + length xs → word vs i ≡ word ws i) → Held ws a xs → Held vs a xs
held_at ws vs a xs n h p = record { within = n; reads = λ j l. h (a + j) (omega arith) (omega arith) ∙ p.reads j l }

pub held_in : (ws vs : List ℕ) (a : ℕ) (xs : List ℕ) → length ws ≤ length vs → ((i : ℕ) → a ≤ i → i < a + length xs → word vs i ≡ word ws i) → Held ws a xs → Held vs a xs
held_in ws vs a xs e h p = held_at ws vs a xs (omega (arith, p.within)) h p

pub held_wrote : (ws vs : List ℕ) (a c d : ℕ) (xs : List ℕ) → a + length xs ≤ c → Wrote c d ws vs → Held ws a xs → Held vs a xs
held_wrote ws vs a c d xs h w p = held_in ws vs a xs (omega (arith, w.long)) (λ i x y. w.before i (omega arith)) p

pub held_kept : (l : Layout) (ws vs : List ℕ) (a c d : ℕ) (xs : List ℕ) → l.texts ≤ a → a + length xs ≤ c → Kept l c d ws vs → Held ws a xs → Held vs a xs
held_kept l ws vs a c d xs t h w p = held_in ws vs a xs (omega (arith, w.long)) (λ i x y. w.before i (omega arith) (omega arith)) p
