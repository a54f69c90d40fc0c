-- Words put over others: lengths, and what stands before and behind.
use Rattle.std.proofs.Common.{◌≡◌, ℕ, ◌+◌, ◌≤◌, List, ◌++◌, length, take, drop, sym, refl, ap, ◌∙◌, append_assoc, arith, length-append, length-drop}
use Rattle.std.proofs.lemmas.List.{drop-drop, take_at, drop_at, take-take, take-append-le, length-take-le}
use borrow.Rule.Slice.PartMut.{put_mid}
use Rattle.memo.specs.Record.{puts}

pub length_puts : (i : ℕ) (xs ws : List ℕ) → i + length xs ≤ length ws → length (puts i xs ws) ≡ length ws
length_puts i xs ws h =
    let a = length-append (take i ws) (xs ++ drop (i + length xs) ws) in
    let b = length-append xs (drop (i + length xs) ws) in
    let c = length-take-le i ws (omega arith) in
    let d = length-drop (i + length xs) ws in
    omega arith

pub take_puts : (i : ℕ) (xs ws : List ℕ) (n : ℕ) → n ≤ i → i + length xs ≤ length ws → take n (puts i xs ws) ≡ take n ws
take_puts i xs ws n h r = let c = length-take-le i ws (omega arith) in take-append-le n (take i ws) (xs ++ drop (i + length xs) ws) (omega arith) ∙ take-take n i ws h

pub drop_puts : (i : ℕ) (xs ws : List ℕ) → i + length xs ≤ length ws → drop i (puts i xs ws) ≡ xs ++ drop (i + length xs) ws
drop_puts i xs ws r = drop_at (take i ws) (xs ++ drop (i + length xs) ws) i (length-take-le i ws (omega arith))

-- two parts, one after the other
pub puts_puts : (i : ℕ) (xs ys ws : List ℕ) (j : ℕ) → j ≡ i + length xs → i + length xs + length ys ≤ length ws → puts j ys (puts i xs ws) ≡ puts i (xs ++ ys) ws
puts_puts i xs ys ws j e h =
    let w = puts i xs ws in
    let c = length-take-le i ws (omega arith) in
    let la = length-append xs ys in
    let lb = length-append (take i ws) xs in
    let n = i + length xs in
    let mid : w ≡ (take i ws ++ xs) ++ drop n ws = sym (append_assoc (take i ws) xs (drop n ws)) in
    let a : take n w ≡ take i ws ++ xs = ap (take n) mid ∙ take_at (take i ws ++ xs) (drop n ws) n (omega arith) in
    let z : n + length ys ≡ i + length (xs ++ ys) = omega arith in
    let d : drop (n + length ys) w ≡ drop (i + length (xs ++ ys)) ws =
    sym (drop-drop (length ys) n w) ∙ ap (drop (length ys)) (ap (drop n) mid ∙ drop_at (take i ws ++ xs) (drop n ws) n (omega arith)) ∙ drop-drop (length ys) n ws ∙ ap (λ m. drop m ws) z in
    ap (λ m. puts m ys w) e ∙
    (λ t. a t ++ (ys ++ d t)) ∙
    append_assoc (take i ws) xs (ys ++ drop (i + length (xs ++ ys)) ws) ∙
    ap (λ q. take i ws ++ q) (sym (append_assoc xs ys (drop (i + length (xs ++ ys)) ws)))

pub putMid_puts : (i n : ℕ) (ws ys xs : List ℕ) → ys ≡ xs → n ≡ length xs → put_mid i n ws ys ≡ puts i xs ws
putMid_puts i n ws ys xs e l = (λ t. take i ws ++ (e t ++ drop (l t) (drop i ws))) ∙ ap (λ q. take i ws ++ (xs ++ q)) (drop-drop (length xs) i ws)

pub four_puts : (i : ℕ) (hs xs ys zs ws v1 v2 v3 v4 : List ℕ) → v1 ≡ puts i hs ws → v2 ≡ puts (i + length hs) xs v1 → v3 ≡ puts (i + length hs + length xs) ys v2 → v4 ≡ puts (i + length hs + length xs + length ys) zs v3
    → i + (length hs + (length xs + (length ys + length zs))) ≤ length ws → v4 ≡ puts i (hs ++ (xs ++ (ys ++ zs))) ws
four_puts i hs xs ys zs ws v1 v2 v3 v4 p1 p2 p3 p4 h =
    let l1 = length-append hs xs in
    let l2 = length-append (hs ++ xs) ys in
    let q2 : v2 ≡ puts i (hs ++ xs) ws = p2 ∙ ap (puts (i + length hs) xs) p1 ∙ puts_puts i hs xs ws (i + length hs) refl (omega arith) in
    let q3 : v3 ≡ puts i ((hs ++ xs) ++ ys) ws = p3 ∙ ap (puts (i + length hs + length xs) ys) q2 ∙ puts_puts i (hs ++ xs) ys ws (i + length hs + length xs) (omega arith) (omega arith) in
    p4 ∙ ap (puts (i + length hs + length xs + length ys) zs) q3 ∙ puts_puts i ((hs ++ xs) ++ ys) zs ws (i + length hs + length xs + length ys) (omega arith) (omega arith) ∙
    ap (λ q. puts i q ws) (append_assoc (hs ++ xs) ys zs ∙ append_assoc hs xs (ys ++ zs))
