-- Words lent to an input or to a rule: what stands in the row then.
use Rattle.std.proofs.Common.{◌≡◌, ℕ, ◌+◌, ◌-◌, ◌≤◌, List, ◌++◌, length, take, drop, sym, ap, ◌∙◌, subst, arith, length-append, length-drop}
use borrow.Rule.Slice.PartMut.{put_mid, mid_of, same_len_mid}
use Rattle.std.proofs.lemmas.List.{drop-drop, drop_at, take-take, take-append-le, drop-append-le, length-take-le}
use Rattle.std.proofs.lemmas.Slice.{take-put_mid_below, drop-put_mid}
use Rattle.engine.specs.declared.rules.Turn.{Turn}
use Rattle.engine.specs.declared.rules.Turn.TheVariants.{Ask, Done, Narrow}
use Rattle.engine.specs.Engine.{Ans, Then, done, Kept}
use Rattle.engine.specs.Says.{GoSays}
use Rattle.engine.specs.Machine.{Frame, back}
use Rattle.memo.specs.Record.{deep}
use Rattle.memo.specs.Log.{kept_entries}
use Rattle.driver.specs.declared.state.Now.TheVariants.{Back}
use Rattle.driver.specs.Rows.{Stack}
use Rattle.driver.specs.Says.{memo_in}
use Rattle.driver.specs.Doing.{Doing, desk, Area, RuleSays}
use Rattle.driver.proofs.Lent.{same_memo, area_on, same_rows, same_frames, shorter, take_two, take_short}

-- the first words of the row were lent, up to the last f, and are y now
module _ (known memo r f : ℕ) (ws y : List ℕ) (area : Area ws (desk known memo r f)) (h : memo + (r + 1) + f ≤ length ws) (ly : length y ≡ length ws - f) (front : take (memo + (r + 1)) y ≡ take (memo + (r + 1)) (take (length ws - f) ws)) where
  abbrev vs : List ℕ
  vs = y ++ drop (length ws - f) ws

  abbrev t : ℕ
  t = memo + (r + 1)

  long : length vs ≡ length ws
  long = let a = length-append y (drop (length ws - f) ws) in let b = length-drop (length ws - f) ws in omega arith

  fronts : take t vs ≡ take t ws
  fronts = take-append-le t y (drop (length ws - f) ws) (omega arith) ∙ front ∙ take-take t (length ws - f) ws (omega arith)

  frames : deep f vs ≡ deep f ws
  frames = ap (λ n. drop (n - f) vs) long ∙ drop_at y (drop (length ws - f) ws) (length ws - f) ly

  pub hand_before : take memo vs ≡ take memo ws
  hand_before = shorter memo t vs ws (omega arith) fronts

  pub hand_area : Area vs (desk known memo r f)
  hand_area = area_on known memo r f r f ws vs area long hand_before area.high

  pub hand_turn : (a : Ans) (n : ℕ) → n ≡ length a → take n (drop t y) ≡ a → (m : Kept) (st : List Frame) → m.entries ≡ kept_entries (memo_in known memo ws) → Stack (memo_in known memo ws) (take r (drop memo ws)) (deep f (drop memo ws)) st → Doing (memo_in known memo vs) (drop memo vs) r f (Back n) (back m a st)
  hand_turn a n ln an m st em s =
      let z = drop (length ws - f) ws in
      let yl = length-drop t y in
      let ts = take_short n (drop t y) in
      let al = ap length an in
      let lv = long in
      let dv = length-drop memo vs in
      let e : take n (drop t vs) ≡ a = ap (take n) (drop-append-le t y z (omega arith)) ∙ take-append-le n (drop t y) z (omega arith) ∙ an in
      let rows = same_rows memo r t ws vs (omega arith) fronts in
      let hi = area.high in
      let fs = same_frames memo f ws vs (omega arith) lv frames in
      subst (λ ms. Doing ms (drop memo vs) r f (Back n) (back m a st)) (sym (same_memo known memo ws vs area.low hand_before)) (
        ln,
        ap (take n) (drop-drop (r + 1) memo vs) ∙ e,
        omega arith,
        em,
        subst (λ q. Stack (memo_in known memo ws) (take r (drop memo vs)) q st) (sym fs) (subst (λ q. Stack (memo_in known memo ws) q (deep f (drop memo ws)) st) (sym rows) s),
      )

-- words in the middle were lent to a rule, from its row on to the last f, and are y now
module _ (known memo r f from : ℕ) (ws y : List ℕ) (hf : from ≤ r) (h : memo + (r + f) ≤ length ws) (ly : length y ≡ length ws - f - (memo + from)) (front : take (r - from) y ≡ take (r - from) (take (length ws - f - (memo + from)) (drop (memo + from) ws))) where
  abbrev b : ℕ
  b = memo + from

  abbrev k : ℕ
  k = length ws - f - b

  abbrev us : List ℕ
  us = put_mid b k ws y

  us_long : length us ≡ length ws
  us_long = let d = length-drop b ws in let e : length (mid_of b k ws) ≡ k = length-take-le k (drop b ws) (omega arith) in same_len_mid b k ws y (ly ∙ sym e)

  behind : drop b us ≡ y ++ drop k (drop b ws)
  behind = drop_at (take b ws) (y ++ drop k (drop b ws)) b (length-take-le b ws (omega arith))

  pub go_before : take (memo + r) us ≡ take (memo + r) ws
  go_before =
      let z : memo + r ≡ b + (r - from) = omega arith in
      let x : take b us ≡ take b ws = take-put_mid_below b k ws y b (omega arith) (omega arith) in
      let w : take (r - from) (drop b us) ≡ take (r - from) (drop b ws) = ap (take (r - from)) behind ∙ take-append-le (r - from) y (drop k (drop b ws)) (omega arith) ∙ front ∙ take-take (r - from) k (drop b ws) (omega arith) in
      ap (λ j. take j us) z ∙ take_two b (r - from) us ∙ (λ i. x i ++ w i) ∙ sym (take_two b (r - from) ws) ∙ ap (λ j. take j ws) (sym z)

  pub go_behind : deep f us ≡ deep f ws
  go_behind = ap (λ n. drop (n - f) us) us_long ∙ drop-put_mid b k ws y (length ws - f) (omega arith) (omega arith) ly

  pub go_says : (th : Then) (t : Turn) → GoSays th (r - from) (drop (r - from) (take k (drop b ws))) (drop (r - from) y) t → RuleSays th (desk known memo r f) from ws us t
  go_says th (Ask q) x = x
  go_says th (Done n) x =
      let a = x.0 in
      let at1 = r - from in
      let yl = length-drop at1 y in
      let ts = take_short n (drop at1 y) in
      let al = ap length x.3 in
      let nl = x.2 in
      let z : memo + r ≡ b + at1 = omega arith in
      let e : take n (drop (memo + r) us) ≡ a =
      ap (λ j. take n (drop j us)) z ∙ ap (take n) (sym (drop-drop at1 b us)) ∙ ap (λ q. take n (drop at1 q)) behind ∙ ap (take n) (drop-append-le at1 y (drop k (drop b ws)) (omega arith)) ∙ take-append-le n (drop at1 y) (drop k (drop b ws)) (omega arith) ∙ x.3 in
      (x.1 ∙ ap done (sym e), omega arith)
  go_says th Narrow x =
      let d = length-drop b ws in
      let e : length (take k (drop b ws)) ≡ k = length-take-le k (drop b ws) (omega arith) in
      let g = length-drop (r - from) (take k (drop b ws)) in
      omega arith
