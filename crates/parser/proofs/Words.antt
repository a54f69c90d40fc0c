-- Rows of words as operations and as frames: what a write leaves, and what a read finds.
use Rattle.std.proofs.Common.{◌≡◌, ℕ, zero, suc, ◌+◌, ◌-◌, ◌*◌, ◌<◌, ◌≤◌, Bool, true, false, eqb, List, [], ◌∷◌, ◌++◌, length, get_or, take, drop, set, sym, refl, ap, ◌∙◌, arith, length-drop, length-set, ne_eqb}
use borrow.Rule.Slice.PartMut.{put_mid, mid_of, post_of, same_len_mid}
use Rattle.std.proofs.lemmas.List.{drop_more, drop-set-lt, drop-set-add, take-set-le, length-take-le, get_or-take, get_or-drop, drop-append-le, take-take, take-append-drop, drop_at, drop-drop}
use Rattle.std.proofs.lemmas.Slice.{take-put_mid_below, take-put_mid, drop-put_mid}
use Rattle.base.specs.Base.{pick}
use Rattle.grammar.specs.Code.{Op as Flat}
use Rattle.grammar.specs.Machine.{Frame as Waits, patch, counted}
use Rattle.parser.specs.Rows.{op_of, ops, ops_of, frame_of, frames, frames_of}

-- operations in a row, one behind another
ops_append : (line : List ℕ) (n : ℕ) (xs ys : List ℕ) → length xs ≡ 5 * n → ops line (xs ++ ys) ≡ ops line xs ++ ops line ys
ops_append line n [] ys e = refl
ops_append line n (a ∷ []) ys e = absurd (omega arith)
ops_append line n (a ∷ b ∷ []) ys e = absurd (omega arith)
ops_append line n (a ∷ b ∷ c ∷ []) ys e = absurd (omega arith)
ops_append line n (a ∷ b ∷ c ∷ d ∷ []) ys e = absurd (omega arith)
ops_append line n (a ∷ b ∷ c ∷ d ∷ t ∷ xs) ys e = ap (λ l. op_of line a b c d t ∷ l) (ops_append line (n - 1) xs ys (omega arith))

ops_length : (line : List ℕ) (n : ℕ) (xs : List ℕ) → length xs ≡ 5 * n → length (ops line xs) ≡ n
ops_length line n [] e = omega arith
ops_length line n (a ∷ []) e = absurd (omega arith)
ops_length line n (a ∷ b ∷ []) e = absurd (omega arith)
ops_length line n (a ∷ b ∷ c ∷ []) e = absurd (omega arith)
ops_length line n (a ∷ b ∷ c ∷ d ∷ []) e = absurd (omega arith)
ops_length line n (a ∷ b ∷ c ∷ d ∷ t ∷ xs) e = let h = ops_length line (n - 1) xs (omega arith) in omega arith

code_length : (base n : ℕ) (ws : List ℕ) → base + 5 * n ≤ length ws → length (drop base (take (base + 5 * n) ws)) ≡ 5 * n
code_length base n ws h = let e = length-take-le (base + 5 * n) ws h in simp length-drop (omega arith)

pub ops_long : (line : List ℕ) (base n : ℕ) (ws : List ℕ) → base + 5 * n ≤ length ws → length (ops_of line base n ws) ≡ n
ops_long line base n ws h = ops_length line n (drop base (take (base + 5 * n) ws)) (code_length base n ws h)

frames_length : (line : List ℕ) (n : ℕ) (xs : List ℕ) → length xs ≡ 4 * n → length (frames line xs) ≡ n
frames_length line n [] e = omega arith
frames_length line n (a ∷ []) e = absurd (omega arith)
frames_length line n (a ∷ b ∷ []) e = absurd (omega arith)
frames_length line n (a ∷ b ∷ c ∷ []) e = absurd (omega arith)
frames_length line n (a ∷ b ∷ c ∷ d ∷ xs) e = let h = frames_length line (n - 1) xs (omega arith) in omega arith

pub frames_long : (line : List ℕ) (d : ℕ) (ws : List ℕ) → 4 * d ≤ length ws → length (frames_of line d ws) ≡ d
frames_long line d ws h = frames_length line d (drop (length ws - 4 * d) ws) (simp length-drop (omega arith))

pub ops_none : (line : List ℕ) (base : ℕ) (ws : List ℕ) → base ≤ length ws → ops_of line base 0 ws ≡ []
ops_none line base ws h = go (ops_of line base 0 ws) (ops_long line base 0 ws (omega arith))
  where
    go : (os : List Flat) → length os ≡ 0 → os ≡ []
    go [] e = refl
    go (o ∷ os) e = absurd (omega arith)

pub frames_none : (line : List ℕ) (ws : List ℕ) → frames_of line 0 ws ≡ []
frames_none line ws = go (frames_of line 0 ws) (frames_long line 0 ws (omega arith))
  where
    go : (os : List Waits) → length os ≡ 0 → os ≡ []
    go [] e = refl
    go (o ∷ os) e = absurd (omega arith)

-- the code from one word on is that of its first operations and that behind them
pub ops_join : (line : List ℕ) (base m n : ℕ) (ws : List ℕ) → base + 5 * (m + n) ≤ length ws → ops_of line base (m + n) ws ≡ ops_of line base m ws ++ ops_of line (base + 5 * m) n ws
ops_join line base m n ws h =
    let i = base + 5 * m in
    let k = i + 5 * n in
    let same : base + 5 * (m + n) ≡ k = omega arith in
    let t : take i (take k ws) ≡ take i ws = take-take i k ws (omega arith) in
    let l = length-take-le i ws (omega arith) in
    let cut : take k ws ≡ take i ws ++ drop i (take k ws) = sym (take-append-drop i (take k ws)) ∙ ap (λ l. l ++ drop i (take k ws)) t in
    ap (λ k. ops line (drop base (take k ws))) same ∙ ap (λ l. ops line (drop base l)) cut ∙ ap (ops line) (drop-append-le base (take i ws) (drop i (take k ws)) (omega arith)) ∙
    ops_append line m (drop base (take i ws)) (drop i (take k ws)) (code_length base m ws (omega arith))

-- the code and the stack are as they were where their words are
pub same_ops : (line : List ℕ) (base n : ℕ) (ws vs : List ℕ) → take (base + 5 * n) vs ≡ take (base + 5 * n) ws → ops_of line base n vs ≡ ops_of line base n ws
same_ops line base n ws vs e = ap (λ l. ops line (drop base l)) e

same_frames : (line : List ℕ) (d : ℕ) (ws vs : List ℕ) → length vs ≡ length ws → drop (length ws - 4 * d) vs ≡ drop (length ws - 4 * d) ws → frames_of line d vs ≡ frames_of line d ws
same_frames line d ws vs l e = ap (λ n. frames line (drop (n - 4 * d) vs)) l ∙ ap (frames line) e

-- a part of k words written from i on
module _ (ws ys : List ℕ) (i k : ℕ) (n : length ys ≡ k) (h : i + k ≤ length ws) where
  part_long : length (put_mid i k ws ys) ≡ length ws
  part_long =
      let e : length (mid_of i k ws) ≡ k = length-take-le k (drop i ws) (simp length-drop (omega arith)) in
      same_len_mid i k ws ys (n ∙ sym e)

  part_frames : (line : List ℕ) (d : ℕ) → i + k + 4 * d ≤ length ws → frames_of line d (put_mid i k ws ys) ≡ frames_of line d ws
  part_frames line d l = same_frames line d ws (put_mid i k ws ys) part_long (drop-put_mid i k ws ys (length ws - 4 * d) (omega arith) (omega arith) n)

  part_below : (m : ℕ) → m ≤ i → take m (put_mid i k ws ys) ≡ take m ws
  part_below m l = take-put_mid_below i k ws ys m l (omega arith)

emitted : (line ws ys : List ℕ) (base n k : ℕ) → length ys ≡ 5 → base + 5 * n + 5 ≤ length ws → ops_of line base (n + 1) (put_mid (base + 5 * n) k ws ys) ≡ ops_of line base n ws ++ ops line ys
emitted line ws ys base n k e h =
    let i = base + 5 * n in
    let t = length-take-le i ws (omega arith) in
    ap (λ l. ops line (drop base l)) (take-put_mid i k ws ys (base + 5 * (n + 1)) (omega arith) (omega arith)) ∙
    ap (ops line) (drop-append-le base (take i ws) ys (omega arith)) ∙
    ops_append line n (drop base (take i ws)) ys (code_length base n ws (omega arith))

-- what an operation's five words leave
pub record Emitted (ws vs : List ℕ) (base n : ℕ) (op : List ℕ → Flat) : Type 0 where
  pub adds : (line : List ℕ) → ops_of line base (n + 1) vs ≡ ops_of line base n ws ++ (op line ∷ [])
  pub below : (m : ℕ) → m ≤ base + 5 * n → take m vs ≡ take m ws
  pub above : (line : List ℕ) (d : ℕ) → base + 5 * n + 5 + 4 * d ≤ length ws → frames_of line d vs ≡ frames_of line d ws

pub emits : (ws ys zs : List ℕ) (base n : ℕ) (op : List ℕ → Flat) → ys ≡ zs → length ys ≡ 5 → ((line : List ℕ) → ops line zs ≡ op line ∷ []) → base + 5 * n + 5 ≤ length ws → Emitted ws (put_mid (base + 5 * n) (base + 5 * n + 5 - (base + 5 * n)) ws ys) base n op
emits ws ys zs base n op e l o h =
    let i = base + 5 * n in
    let k : i + 5 - i ≡ 5 = omega arith in
    let five : length ys ≡ i + 5 - i = l ∙ sym k in
    record {
      adds = λ line. emitted line ws ys base n (i + 5 - i) l h ∙ ap (λ l. ops_of line base n ws ++ l) (ap (ops line) e ∙ o line);
      below = part_below ws ys i (i + 5 - i) five (omega arith);
      above = λ line d x. part_frames ws ys i (i + 5 - i) five (omega arith) line d (omega arith);
    }

-- what a frame's four words leave
pub record Pushed (ws vs : List ℕ) (d : ℕ) (f : List ℕ → Waits) : Type 0 where
  pub adds : (line : List ℕ) → frames_of line (d + 1) vs ≡ f line ∷ frames_of line d ws
  pub below : (m : ℕ) → m + 4 * d + 4 ≤ length ws → take m vs ≡ take m ws

one_frame : (line ys zs : List ℕ) (f : Waits) → length ys ≡ 4 → frames line ys ≡ f ∷ [] → frames line (ys ++ zs) ≡ f ∷ frames line zs
one_frame line [] zs f l e = absurd (omega arith)
one_frame line (a ∷ []) zs f l e = absurd (omega arith)
one_frame line (a ∷ b ∷ []) zs f l e = absurd (omega arith)
one_frame line (a ∷ b ∷ c ∷ []) zs f l e = absurd (omega arith)
one_frame line (a ∷ b ∷ c ∷ d ∷ []) zs f l e = let h : frame_of line a b c d ≡ f = cc in ap (λ f. f ∷ frames line zs) h
one_frame line (a ∷ b ∷ c ∷ d ∷ t ∷ ys) zs f l e = absurd (omega arith)

pub pushes : (ws ys zs : List ℕ) (d : ℕ) (f : List ℕ → Waits) → ys ≡ zs → length ys ≡ 4 → ((line : List ℕ) → frames line zs ≡ f line ∷ []) → 4 * d + 4 ≤ length ws → Pushed ws (put_mid (length ws - 4 * d - 4) (length ws - 4 * d - 4 + 4 - (length ws - 4 * d - 4)) ws ys) d f
pushes ws ys zs d f e l o h =
    let i = length ws - 4 * d - 4 in
    let k : i + 4 - i ≡ 4 = omega arith in
    let four : length ys ≡ i + 4 - i = l ∙ sym k in
    let vs = put_mid i (i + 4 - i) ws ys in
    let long : length vs ≡ length ws = part_long ws ys i (i + 4 - i) four (omega arith) in
    let at_i : length vs - 4 * (d + 1) ≡ i = omega arith in
    let on : i + (i + 4 - i) ≡ length ws - 4 * d = omega arith in
    let cut : drop (length vs - 4 * (d + 1)) vs ≡ ys ++ drop (length ws - 4 * d) ws =
    ap (λ m. drop m vs) at_i ∙ drop_at (take i ws) (ys ++ post_of i (i + 4 - i) ws) i (length-take-le i ws (omega arith)) ∙ ap (λ l. ys ++ l) (drop-drop (i + 4 - i) i ws ∙ ap (λ m. drop m ws) on) in
    record {
      adds = λ line. ap (frames line) cut ∙ one_frame line ys (drop (length ws - 4 * d) ws) (f line) l (ap (frames line) e ∙ o line);
      below = λ m x. part_below ws ys i (i + 4 - i) four (omega arith) m (omega arith);
    }

-- the words from a place on
four_on : (xs : List ℕ) (i : ℕ) → i + 4 ≤ length xs → drop i xs ≡ get_or xs i 0 ∷ get_or xs (i + 1) 0 ∷ get_or xs (i + 2) 0 ∷ get_or xs (i + 3) 0 ∷ drop (i + 4) xs
four_on xs i h =
    let two : i + 1 + 1 ≡ i + 2 = omega arith in
    let three : i + 2 + 1 ≡ i + 3 = omega arith in
    let four : i + 3 + 1 ≡ i + 4 = omega arith in
    let d3 : drop (i + 3) xs ≡ get_or xs (i + 3) 0 ∷ drop (i + 4) xs = drop_more xs (i + 3) 0 (omega arith) ∙ ap (λ n. get_or xs (i + 3) 0 ∷ drop n xs) four in
    let d2 : drop (i + 2) xs ≡ get_or xs (i + 2) 0 ∷ drop (i + 3) xs = drop_more xs (i + 2) 0 (omega arith) ∙ ap (λ n. get_or xs (i + 2) 0 ∷ drop n xs) three in
    let d1 : drop (i + 1) xs ≡ get_or xs (i + 1) 0 ∷ drop (i + 2) xs = drop_more xs (i + 1) 0 (omega arith) ∙ ap (λ n. get_or xs (i + 1) 0 ∷ drop n xs) two in
    drop_more xs i 0 (omega arith) ∙ ap (λ l. get_or xs i 0 ∷ l) (d1 ∙ ap (λ l. get_or xs (i + 1) 0 ∷ l) (d2 ∙ ap (λ l. get_or xs (i + 2) 0 ∷ l) d3))

five_on : (xs : List ℕ) (i : ℕ) → i + 5 ≤ length xs → drop i xs ≡ get_or xs i 0 ∷ get_or xs (i + 1) 0 ∷ get_or xs (i + 2) 0 ∷ get_or xs (i + 3) 0 ∷ get_or xs (i + 4) 0 ∷ drop (i + 5) xs
five_on xs i h =
    let five : i + 4 + 1 ≡ i + 5 = omega arith in
    four_on xs i (omega arith) ∙ ap (λ l. get_or xs i 0 ∷ get_or xs (i + 1) 0 ∷ get_or xs (i + 2) 0 ∷ get_or xs (i + 3) 0 ∷ l) (drop_more xs (i + 4) 0 (omega arith) ∙ ap (λ n. get_or xs (i + 4) 0 ∷ drop n xs) five)

-- the n operations from a word on are the first of them, by its words, and those behind it
pub op_next : (line : List ℕ) (base n : ℕ) (ws : List ℕ) → base + 5 * n ≤ length ws → 0 < n → ops_of line base n ws ≡ op_of line (get_or ws base 0) (get_or ws (base + 1) 0) (get_or ws (base + 2) 0) (get_or ws (base + 3) 0) (get_or ws (base + 4) 0) ∷ ops_of line (base + 5) (n - 1) ws
op_next line base n ws h p =
    let k = base + 5 * n in
    let vs = take k ws in
    let long = length-take-le k ws h in
    let g0 = get_or-take k ws base 0 (omega arith) in
    let g1 = get_or-take k ws (base + 1) 0 (omega arith) in
    let g2 = get_or-take k ws (base + 2) 0 (omega arith) in
    let g3 = get_or-take k ws (base + 3) 0 (omega arith) in
    let g4 = get_or-take k ws (base + 4) 0 (omega arith) in
    let e : k ≡ base + 5 + 5 * (n - 1) = omega arith in
    ap (ops line) (five_on vs base (omega arith)) ∙ (λ j. op_of line (g0 j) (g1 j) (g2 j) (g3 j) (g4 j) ∷ ops line (drop (base + 5) (take (e j) ws)))

pub newest_is : (line ws : List ℕ) (d : ℕ) → 0 < d → 4 * d ≤ length ws → frames_of line d ws ≡ frame_of line (get_or ws (length ws - 4 * d) 0) (get_or ws (length ws - 4 * d + 1) 0) (get_or ws (length ws - 4 * d + 2) 0) (get_or ws (length ws - 4 * d + 3) 0) ∷ frames_of line (d - 1) ws
newest_is line ws d p h =
    let i = length ws - 4 * d in
    let on : i + 4 ≡ length ws - 4 * (d - 1) = omega arith in
    ap (frames line) (four_on ws i (omega arith)) ∙ ap (λ m. frame_of line (get_or ws i 0) (get_or ws (i + 1) 0) (get_or ws (i + 2) 0) (get_or ws (i + 3) 0) ∷ frames line (drop m ws)) on

-- a call's number of arguments
take_set_in : (n : ℕ) (xs : List ℕ) (i v : ℕ) → take n (set xs i v) ≡ set (take n xs) i v
take_set_in zero [] i v = refl
take_set_in zero (x ∷ xs) zero v = refl
take_set_in zero (x ∷ xs) (suc i) v = refl
take_set_in (suc n) [] i v = refl
take_set_in (suc n) (x ∷ xs) zero v = refl
take_set_in (suc n) (x ∷ xs) (suc i) v = ap (λ l. x ∷ l) (take_set_in n xs i v)

counts_in : (line : List ℕ) (p k : ℕ) (ys : List ℕ) → 5 * p + 5 ≤ length ys → get_or ys (5 * p) 0 ≡ 2 → ops line (set ys (5 * p + 3) k) ≡ patch (ops line ys) p k
counts_in line p k [] h e = absurd (omega arith)
counts_in line p k (x ∷ []) h e = absurd (omega arith)
counts_in line p k (x ∷ y ∷ []) h e = absurd (omega arith)
counts_in line p k (x ∷ y ∷ z ∷ []) h e = absurd (omega arith)
counts_in line p k (x ∷ y ∷ z ∷ u ∷ []) h e = absurd (omega arith)
counts_in line zero k (x ∷ y ∷ z ∷ u ∷ v ∷ ys) h e = ap (λ t. op_of line t y z k v ∷ ops line ys) e ∙ sym (ap (λ t. patch (op_of line t y z u v ∷ ops line ys) zero k) e)
counts_in line (suc p) k (x ∷ y ∷ z ∷ u ∷ v ∷ ys) h e =
    let i : 5 * suc p + 3 ≡ suc (suc (suc (suc (suc (5 * p + 3))))) = omega arith in
    let j : 5 * suc p ≡ suc (suc (suc (suc (suc (5 * p))))) = omega arith in
    let d : get_or ys (5 * p) 0 ≡ 2 = ap (λ m. get_or (x ∷ y ∷ z ∷ u ∷ v ∷ ys) m 0) (sym j) ∙ e in
    ap (λ m. ops line (set (x ∷ y ∷ z ∷ u ∷ v ∷ ys) m k)) i ∙ ap (λ l. op_of line x y z u v ∷ l) (counts_in line p k ys (omega arith) d)

same_pick : (b : Bool) (x y : Flat) (k : ℕ) → counted x k ≡ x → counted y k ≡ y → counted (pick b x y) k ≡ pick b x y
same_pick true x y k p q = p
same_pick false x y k p q = q

same_left : (b : Bool) (x y : Flat) (k : ℕ) → b ≡ false → counted y k ≡ y → counted (pick b x y) k ≡ pick b x y
same_left true x y k p q = let z : ◌≡◌ {A = ℕ} 0 1 = cc in absurd (omega arith)
same_left false x y k p q = q

no_call : (line : List ℕ) (t a b c d k : ℕ) → (t ≡ 2 → ⊥) → counted (op_of line t a b c d) k ≡ op_of line t a b c d
no_call line t a b c d k h =
    same_pick (eqb t 0) _ _ k refl (same_pick (eqb t 1) _ _ k refl (same_left (eqb t 2) _ _ k (ne_eqb t 2 h) (same_pick (eqb t 3) _ _ k refl (same_pick (eqb t 4) _ _ k refl (same_pick (eqb t 5) _ _ k refl
    (same_pick (eqb t 6) _ _ k refl (same_pick (eqb t 7) _ _ k refl (same_pick (eqb t 8) _ _ k refl (same_pick (eqb t 9) _ _ k refl (same_pick (eqb t 10) _ _ k refl (same_pick (eqb t 11) _ _ k refl
    (same_pick (eqb t 12) _ _ k refl (same_pick (eqb t 13) _ _ k refl (same_pick (eqb t 14) _ _ k refl (same_pick (eqb t 15) _ _ k refl (same_pick (eqb t 16) _ _ k refl (same_pick (eqb t 17) _ _ k refl refl)))))))))))))))))

leaves_in : (line : List ℕ) (p k : ℕ) (ys : List ℕ) → (get_or ys (5 * p) 0 ≡ 2 → ⊥) → patch (ops line ys) p k ≡ ops line ys
leaves_in line p k [] h = refl
leaves_in line p k (x ∷ []) h = refl
leaves_in line p k (x ∷ y ∷ []) h = refl
leaves_in line p k (x ∷ y ∷ z ∷ []) h = refl
leaves_in line p k (x ∷ y ∷ z ∷ u ∷ []) h = refl
leaves_in line zero k (x ∷ y ∷ z ∷ u ∷ v ∷ ys) h = ap (λ o. o ∷ ops line ys) (no_call line x y z u v k h)
leaves_in line (suc p) k (x ∷ y ∷ z ∷ u ∷ v ∷ ys) h =
    let j : 5 * suc p ≡ suc (suc (suc (suc (suc (5 * p))))) = omega arith in
    ap (λ l. op_of line x y z u v ∷ l) (leaves_in line p k ys (λ e. h (ap (λ m. get_or (x ∷ y ∷ z ∷ u ∷ v ∷ ys) m 0) j ∙ e)))

patch_past : (os : List Flat) (p k : ℕ) → length os ≤ p → patch os p k ≡ os
patch_past [] p k h = refl
patch_past (o ∷ os) zero k h = absurd (omega arith)
patch_past (o ∷ os) (suc p) k h = ap (λ l. o ∷ l) (patch_past os p k (omega arith))

tag_in : (base n p : ℕ) (ws : List ℕ) → p < n → get_or (drop base (take (base + 5 * n) ws)) (5 * p) 0 ≡ get_or ws (base + 5 * p) 0
tag_in base n p ws h = get_or-drop base (take (base + 5 * n) ws) (5 * p) 0 ∙ get_or-take (base + 5 * n) ws (base + 5 * p) 0 (omega arith)

-- what is left where the call at p is given its number of arguments
pub record Counted (ws vs : List ℕ) (base n p k : ℕ) : Type 0 where
  pub counts : (line : List ℕ) → ops_of line base n vs ≡ patch (ops_of line base n ws) p k
  pub below : (m : ℕ) → m ≤ base → take m vs ≡ take m ws
  pub above : (line : List ℕ) (d : ℕ) → base + 5 * n + 4 * d ≤ length ws → frames_of line d vs ≡ frames_of line d ws

pub counts_call : (ws : List ℕ) (base n p k : ℕ) → base + 5 * n ≤ length ws → p < n → get_or ws (base + 5 * p) 0 ≡ 2 → Counted ws (set ws (base + 5 * p + 3) k) base n p k
counts_call ws base n p k h l e =
    let j : base + 5 * p + 3 ≡ base + (5 * p + 3) = omega arith in
    let ys = drop base (take (base + 5 * n) ws) in
    let long = code_length base n ws h in
    let vs = set ws (base + 5 * p + 3) k in
    let same_long : length vs ≡ length ws = length-set ws (base + 5 * p + 3) k in
    record {
      counts = λ line. ap (λ l. ops line (drop base l)) (take_set_in (base + 5 * n) ws (base + 5 * p + 3) k ∙ ap (λ i. set (take (base + 5 * n) ws) i k) j) ∙ ap (ops line) (drop-set-add base (take (base + 5 * n) ws) (5 * p + 3) k) ∙ counts_in line p k ys (omega arith) (tag_in base n p ws l ∙ e);
      below = λ m x. take-set-le m ws (base + 5 * p + 3) k (omega arith);
      above = λ line d x. same_frames line d ws vs same_long (drop-set-lt (length ws - 4 * d) ws (base + 5 * p + 3) k (omega arith));
    }

pub counts_none : (ws : List ℕ) (base n p k : ℕ) → p < n → (get_or ws (base + 5 * p) 0 ≡ 2 → ⊥) → Counted ws ws base n p k
counts_none ws base n p k l e = record { counts = λ line. sym (leaves_in line p k (drop base (take (base + 5 * n) ws)) (λ q. e (sym (tag_in base n p ws l) ∙ q))); below = λ m x. refl; above = λ line d x. refl }

pub counts_past : (ws : List ℕ) (base n p k : ℕ) → base + 5 * n ≤ length ws → n ≤ p → Counted ws ws base n p k
counts_past ws base n p k h l = record { counts = λ line. let e = ops_long line base n ws h in sym (patch_past (ops_of line base n ws) p k (omega arith)); below = λ m x. refl; above = λ line d x. refl }
