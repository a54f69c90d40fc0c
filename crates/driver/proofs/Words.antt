-- Words written into a row: what stands there then, and what is before and behind.
use Rattle.std.proofs.Common.{◌≡◌, ℕ, suc, ◌+◌, ◌-◌, ◌≤◌, List, ◌∷◌, ◌++◌, length, get_or, take, drop, set, sym, refl, ap, ◌∙◌, arith, length-set}
use Rattle.std.proofs.lemmas.List.{drop-set, drop-set-lt, drop-take, take-set, take_at, take-take, take-append-drop, drop-drop, drop_at}
use Rattle.memo.specs.Record.{deep, puts}
use Rattle.memo.proofs.Puts.{length_puts, take_puts, drop_puts}
use Rattle.memo.proofs.Places.{deep_long}
use Rattle.memo.proofs.Unpacks.{seven}

-- the first seven words in front of the frames, and those behind them
pub heads : (f : ℕ) (ws : List ℕ) → 7 ≤ f → f ≤ length ws → deep f ws ≡ get_or (deep f ws) 0 0 ∷ get_or (deep f ws) 1 0 ∷ get_or (deep f ws) 2 0 ∷ get_or (deep f ws) 3 0 ∷ get_or (deep f ws) 4 0 ∷ get_or (deep f ws) 5 0 ∷ get_or (deep f ws) 6 0 ∷ deep (f - 7) ws
heads f ws l h =
    let fs = deep f ws in
    let long = deep_long ws f h in
    let z : length ws - f + 7 ≡ length ws - (f - 7) = omega arith in
    let d : drop 7 fs ≡ deep (f - 7) ws = drop-drop 7 (length ws - f) ws ∙ ap (λ n. drop n ws) z in
    sym (take-append-drop 7 fs) ∙ (λ t. seven fs (omega arith) t ++ d t)

-- what is behind a place is as it was
deep_set : (ws : List ℕ) (r n f : ℕ) → r + 1 + f ≤ length ws → deep f (set ws r n) ≡ deep f ws
deep_set ws r n f h = ap (λ m. drop (m - f) (set ws r n)) (length-set ws r n) ∙ drop-set-lt (length ws - f) ws r n (omega arith)

pub record Added (ws vs : List ℕ) (r n : ℕ) : Type 0 where
  pub adds : take (r + (1 + n)) vs ≡ take r ws ++ (n ∷ take n (drop (r + 1) ws))
  pub above : (f : ℕ) → r + 1 + f ≤ length ws → deep f vs ≡ deep f ws

pub added : (ws : List ℕ) (r n : ℕ) → r + (1 + n) ≤ length ws → Added ws (set ws r n) r n
added ws r n h =
    let vs = set ws r n in
    let l = take (r + (1 + n)) vs in
    let z : 1 + n ≡ suc n = omega arith in
    let a : take r l ≡ take r ws = take-take r (r + (1 + n)) vs (omega arith) ∙ take-set ws r n in
    let b : drop r l ≡ n ∷ take n (drop (r + 1) ws) = drop-take r (1 + n) vs ∙ ap (take (1 + n)) (drop-set ws r n (omega arith)) ∙ ap (λ m. take m (n ∷ drop (r + 1) ws)) z in
    record {
      adds = sym (take-append-drop r l) ∙ (λ t. a t ++ b t);
      above = deep_set ws r n;
    }

-- what is behind words that were put over others
pub drop_past : (t : ℕ) (xs ws : List ℕ) (j : ℕ) → t + length xs ≤ j → t + length xs ≤ length ws → drop j (puts t xs ws) ≡ drop j ws
drop_past t xs ws j g h =
    let vs = puts t xs ws in
    let n = t + length xs in
    let k = j - n in
    let a : j ≡ t + (length xs + k) = omega arith in
    let b : n + k ≡ j = omega arith in
    ap (λ i. drop i vs) a ∙ sym (drop-drop (length xs + k) t vs) ∙ ap (drop (length xs + k)) (drop_puts t xs ws h) ∙ sym (drop-drop k (length xs) (xs ++ drop n ws)) ∙
    ap (drop k) (drop_at xs (drop n ws) (length xs) refl) ∙ drop-drop k n ws ∙ ap (λ i. drop i ws) b

pub deep_past : (t : ℕ) (xs ws : List ℕ) (f : ℕ) → t + length xs + f ≤ length ws → deep f (puts t xs ws) ≡ deep f ws
deep_past t xs ws f h =
    let long = length_puts t xs ws (omega arith) in
    ap (λ m. drop (m - f) (puts t xs ws)) long ∙ drop_past t xs ws (length ws - f) (omega arith) (omega arith)

-- words put over others from a place on
pub record Placed (t : ℕ) (xs ws vs : List ℕ) : Type 0 where
  pub is : take (length xs) (drop t vs) ≡ xs
  pub below : take t vs ≡ take t ws
  pub above : (f : ℕ) → t + length xs + f ≤ length ws → deep f vs ≡ deep f ws

pub placed : (t : ℕ) (xs ws vs : List ℕ) → vs ≡ puts t xs ws → t + length xs ≤ length ws → Placed t xs ws vs
placed t xs ws vs e h =
    record {
      is = ap (λ l. take (length xs) (drop t l)) e ∙ ap (take (length xs)) (drop_puts t xs ws h) ∙ take_at xs (drop (t + length xs) ws) (length xs) refl;
      below = ap (take t) e ∙ take_puts t xs ws t (omega arith) h;
      above = λ f x. ap (deep f) e ∙ deep_past t xs ws f x;
    }
