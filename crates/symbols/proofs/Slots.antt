-- A line copied from the texts to the row's front.
use Rattle.std.proofs.Common.{◌≡◌, ℕ, ◌+◌, ◌-◌, ◌≤◌, List, length, take, drop, sym, ap, ◌∙◌, arith}
use lib.Seq.{paste, take-paste, drop-paste}
use Rattle.std.proofs.lemmas.List.{take-take, drop-drop, drop-take, length-drop, length-take-le}

-- a part of a part
pub inner : (ws : List ℕ) (t k f n : ℕ) → f + n ≤ k → take n (drop f (take k (drop t ws))) ≡ take n (drop (t + f) ws)
inner ws t k f n h =
    let e : k ≡ f + (k - f) = omega arith in
    ap (λ j. take n (drop f (take j (drop t ws)))) e ∙ ap (take n) (drop-take f (k - f) (drop t ws)) ∙ take-take n (k - f) (drop f (drop t ws)) (omega arith) ∙ ap (take n) (drop-drop f t ws)

-- n words from p on copied to the front: they stand there, and what is behind a slot that holds them stays
pub record Fetched (ws vs : List ℕ) (p n slot : ℕ) : Type 0 where
  pub is : take n vs ≡ take n (drop p ws)
  pub behind : drop slot vs ≡ drop slot ws

pub fetched : (ws vs : List ℕ) (p n m slot : ℕ) → m ≡ n → vs ≡ paste ws 0 (drop p ws) m → p + n ≤ length ws → n ≤ slot → Fetched ws vs p n slot
fetched ws vs p n m slot em e h s =
    let long : n ≤ length (drop p ws) = omega (arith, length-drop p ws) in
    let f : vs ≡ paste ws 0 (drop p ws) n = e ∙ ap (λ j. paste ws 0 (drop p ws) j) em in
    let z : 0 + n ≡ n = omega arith in
    let tail : drop n vs ≡ drop n ws = ap (drop n) f ∙ ap (λ j. drop j (paste ws 0 (drop p ws) n)) (sym z) ∙ drop-paste ws 0 (drop p ws) n (omega arith) long ∙ ap (λ j. drop j ws) z in
    let back : (us : List ℕ) → drop slot us ≡ drop (slot - n) (drop n us) = λ us. (let k : n + (slot - n) ≡ slot = omega arith in sym (drop-drop (slot - n) n us ∙ ap (λ j. drop j us) k)) in
    record {
      is = ap (take n) f ∙ ap (λ j. take j (paste ws 0 (drop p ws) n)) (sym z) ∙ take-paste ws 0 (drop p ws) n (omega arith) long;
      behind = back vs ∙ ap (drop (slot - n)) tail ∙ sym (back ws);
    }

pub part_long : (m : List ℕ) (f n : ℕ) → f + n ≤ length m → length (take n (drop f m)) ≡ n
part_long m f n h = length-take-le n (drop f m) (omega (arith, length-drop f m))
