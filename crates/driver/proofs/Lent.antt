-- The work area as a part of the row: what a write into it leaves, and what stays of the memo and of the work area.
use Rattle.std.proofs.Common.{◌≡◌, ℕ, zero, suc, ◌+◌, ◌-◌, ◌≤◌, List, [], ◌∷◌, ◌++◌, length, take, drop, sym, refl, ap, ◌∙◌, subst, append-nil, arith, length-append, length-drop}
use borrow.Rule.Slice.PartMut.{put_mid}
use Rattle.std.proofs.lemmas.List.{drop-take, drop-drop, drop_at, drop_all, take_at, take-take, take_rest, take-append-drop, length-take-le}
use Rattle.memo.specs.Record.{deep}
use Rattle.memo.specs.Log.{Fits}
use Rattle.driver.specs.Says.{memo_in}
use Rattle.driver.specs.Doing.{desk, Area}

-- the memo in the whole row
pub memo_long : (ws : List ℕ) (known memo : ℕ) → known ≤ memo → memo ≤ length ws → length (memo_in known memo ws) ≡ memo - known
memo_long ws known memo h k = let l = length-drop known ws in length-take-le (memo - known) (drop known ws) (omega arith)

-- the memo goes by what is before the work area
pub same_memo : (known memo : ℕ) (ws vs : List ℕ) → known ≤ memo → take memo vs ≡ take memo ws → memo_in known memo vs ≡ memo_in known memo ws
same_memo known memo ws vs h e =
    let z : memo ≡ known + (memo - known) = omega arith in
    sym (drop-take known (memo - known) vs) ∙ ap (λ j. drop known (take j vs)) (sym z) ∙ ap (drop known) e ∙ ap (λ j. drop known (take j ws)) z ∙ drop-take known (memo - known) ws

pub area_on : (known memo r f r2 f2 : ℕ) (ws vs : List ℕ) → Area ws (desk known memo r f) → length vs ≡ length ws → take memo vs ≡ take memo ws → memo + (r2 + f2) ≤ length ws → Area vs (desk known memo r2 f2)
area_on known memo r f r2 f2 ws vs a l e h = record { low = a.low; high = let x = h in omega arith; small = let x = a.small in omega arith; fits = subst Fits (sym (same_memo known memo ws vs a.low e)) a.fits }

-- the work area was lent, and is v now
pub record Lent (memo : ℕ) (ws vs v : List ℕ) : Type 0 where
  pub work : drop memo vs ≡ v
  pub before : take memo vs ≡ take memo ws
  pub long : length vs ≡ length ws

pub lent : (memo k : ℕ) (ws v : List ℕ) → k ≡ length ws - memo → length v ≡ k → memo ≤ length ws → Lent memo ws (put_mid memo k ws v) v
lent memo k ws v ek l h =
    let t = length-take-le memo ws h in
    let d = length-drop memo ws in
    let none : drop k (drop memo ws) ≡ [] = drop_all k (drop memo ws) (omega arith) in
    let e : put_mid memo k ws v ≡ take memo ws ++ v = ap (λ q. take memo ws ++ (v ++ q)) none ∙ ap (λ q. take memo ws ++ q) (append-nil v) in
    let w : drop memo (put_mid memo k ws v) ≡ v = ap (drop memo) e ∙ drop_at (take memo ws) v memo t in
    let b : take memo (put_mid memo k ws v) ≡ take memo ws = ap (take memo) e ∙ take_at (take memo ws) v memo t in
    let x = ap length w in
    let y = length-drop memo (put_mid memo k ws v) in
    let u = ap length b in
    record { work = w; before = b; long = ap length e ∙ (let q = length-append (take memo ws) v in omega arith) }

pub whole : (memo : ℕ) (ws : List ℕ) → take (length ws - memo) (drop memo ws) ≡ drop memo ws
whole memo ws = take_rest ws memo

-- the rows and the frames, in the work area and in the whole row
pub same_rows : (memo r t : ℕ) (ws vs : List ℕ) → memo + r ≤ t → take t vs ≡ take t ws → take r (drop memo vs) ≡ take r (drop memo ws)
same_rows memo r t ws vs h e =
    let cut : (xs : List ℕ) → take (memo + r) (take t xs) ≡ take (memo + r) xs = λ xs. take-take (memo + r) t xs h in
    sym (drop-take memo r vs) ∙ ap (drop memo) (sym (cut vs) ∙ ap (take (memo + r)) e ∙ cut ws) ∙ drop-take memo r ws

pub deep_work : (memo f : ℕ) (ws : List ℕ) → memo + f ≤ length ws → deep f (drop memo ws) ≡ deep f ws
deep_work memo f ws h =
    let d = length-drop memo ws in
    let z : memo + (length (drop memo ws) - f) ≡ length ws - f = omega arith in
    drop-drop (length (drop memo ws) - f) memo ws ∙ ap (λ j. drop j ws) z

pub same_frames : (memo f : ℕ) (ws vs : List ℕ) → memo + f ≤ length ws → length vs ≡ length ws → deep f vs ≡ deep f ws → deep f (drop memo vs) ≡ deep f (drop memo ws)
same_frames memo f ws vs h l e = deep_work memo f vs (omega arith) ∙ e ∙ sym (deep_work memo f ws h)

pub shorter : (n m : ℕ) (xs ys : List ℕ) → n ≤ m → take m xs ≡ take m ys → take n xs ≡ take n ys
shorter n m xs ys h e = sym (take-take n m xs h) ∙ ap (take n) e ∙ take-take n m ys h

-- the memo by its ends
pub region : (known memo : ℕ) (ws : List ℕ) → known ≤ memo → drop known (take memo ws) ≡ memo_in known memo ws
region known memo ws h = let z : memo ≡ known + (memo - known) = omega arith in ap (λ j. drop known (take j ws)) z ∙ drop-take known (memo - known) ws

-- the row was split before the work area, and both parts were lent: the memo is v now, and the work area is w
pub record Parted (known memo : ℕ) (ws vs v w : List ℕ) : Type 0 where
  pub memo1 : memo_in known memo vs ≡ v
  pub before : take known vs ≡ take known ws
  pub work : drop memo vs ≡ w
  pub long : length vs ≡ memo + length w

-- the memo in the first part
pub front_memo : (known memo : ℕ) (ws u : List ℕ) → known ≤ memo → u ≡ take memo ws → take (length u - known) (drop known u) ≡ memo_in known memo ws
front_memo known memo ws u h e = take_rest u known ∙ ap (drop known) e ∙ region known memo ws h

pub parted : (known memo : ℕ) (ws u v w : List ℕ) → known ≤ memo → memo ≤ length ws → u ≡ take memo ws → length v ≡ memo - known → Parted known memo ws (put_mid known (length u - known) u v ++ w) v w
parted known memo ws u v w h k e lv =
    let lu : length u ≡ memo = ap length e ∙ length-take-le memo ws k in
    let p = put_mid known (length u - known) u v in
    let l = lent known (length u - known) u v refl (omega arith) (omega arith) in
    let lp : length p ≡ memo = l.long ∙ lu in
    let t : take memo (p ++ w) ≡ p = take_at p w memo lp in
    record {
      memo1 = sym (region known memo (p ++ w) h) ∙ ap (drop known) t ∙ l.work;
      before = sym (take-take known memo (p ++ w) h) ∙ ap (take known) t ∙ l.before ∙ ap (take known) e ∙ take-take known memo ws h;
      work = drop_at p w memo lp;
      long = length-append p w ∙ ap (λ n. n + length w) lp;
    }

-- the same, where the first part is as it was
pub parted_same : (memo : ℕ) (ws u w : List ℕ) → memo ≤ length ws → u ≡ take memo ws → length w ≡ length ws - memo → Lent memo ws (u ++ w) w
parted_same memo ws u w k e lw =
    let lu : length u ≡ memo = ap length e ∙ length-take-le memo ws k in
    record { work = drop_at u w memo lu; before = take_at u w memo lu ∙ e; long = length-append u w ∙ (let z : length u + length w ≡ length ws = omega arith in z) }

-- the first words of a row in two parts
pub take_two : (b j : ℕ) (xs : List ℕ) → take (b + j) xs ≡ take b xs ++ take j (drop b xs)
take_two b j xs = sym (take-append-drop b (take (b + j) xs)) ∙ (λ t. take-take b (b + j) xs (omega arith) t ++ drop-take b j xs t)

pub take_short : (n : ℕ) (xs : List ℕ) → length (take n xs) ≤ length xs
take_short zero [] = omega arith
take_short zero (x ∷ xs) = omega arith
take_short (suc n) [] = omega arith
take_short (suc n) (x ∷ xs) = let r = take_short n xs in omega arith

-- the memo was lent, and is v now
pub record LentMemo (known memo : ℕ) (ws vs v : List ℕ) : Type 0 where
  pub memo1 : memo_in known memo vs ≡ v
  pub before : take known vs ≡ take known ws
  pub work : drop memo vs ≡ drop memo ws
  pub long : length vs ≡ length ws

pub lent_memo : (known memo : ℕ) (ws v : List ℕ) → length v ≡ memo - known → known ≤ memo → memo ≤ length ws → LentMemo known memo ws (put_mid known (memo - known) ws v) v
lent_memo known memo ws v l h k =
    let n = memo - known in
    let rest = drop n (drop known ws) in
    let t = length-take-le known ws (omega arith) in
    let a = length-append (take known ws) (v ++ rest) in
    let b = length-append v rest in
    let d1 = length-drop known ws in
    let d2 = length-drop n (drop known ws) in
    let e : drop known (put_mid known n ws v) ≡ v ++ rest = drop_at (take known ws) (v ++ rest) known t in
    let z : memo ≡ known + n = omega arith in
    record {
      memo1 = ap (take n) e ∙ take_at v rest n l;
      before = take_at (take known ws) (v ++ rest) known t;
      work = ap (λ j. drop j (put_mid known n ws v)) z ∙ sym (drop-drop n known (put_mid known n ws v)) ∙ ap (drop n) e ∙ drop_at v rest n l ∙ drop-drop n known ws ∙ ap (λ j. drop j ws) (sym z);
      long = omega (arith, t, a, b, d1, d2, l, h, k);
    }
