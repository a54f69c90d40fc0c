-- A rule that asks, and a rule that is done, against the machine.
use Rattle.std.proofs.Common.{◌≡◌, ℕ, ◌+◌, ◌-◌, ◌*◌, ◌<◌, ◌≤◌, ◌⊎◌, List, [], ◌∷◌, length, get_or, take, drop, sym, refl, ap, ◌∙◌, subst, inl, arith, length-drop}
use Rattle.std.proofs.lemmas.List.{drop-drop, drop-take, drop_at, take_at, take-take, length-take-le}
use Rattle.engine.specs.declared.key.Key.{Key}
use borrow.Rule.Slice.PartMut.{put_mid}
use Rattle.std.specs.Prelude.{Result, Ok, Err, ⊤}
use Rattle.engine.specs.Engine.{Ans, ask, done, Got, Entry, Kept, answers, store}
use Rattle.engine.specs.Says.{row}
use Rattle.engine.specs.Machine.{Frame, looks, works, tell, told}
use Rattle.memo.specs.Record.{deep, made, entry_long}
use Rattle.memo.specs.declared.log.NoRoom.{NoRoom}
use Rattle.memo.specs.Rows.{keys}
use Rattle.memo.specs.Log.{Fits, kept_entries, spare}
use Rattle.memo.specs.Says.{Keeps, StoreSays}
use Rattle.memo.proofs.Puts.{putMid_puts}
use Rattle.driver.specs.declared.state.Now.TheVariants.{Call, Back, Tell}
use Rattle.driver.specs.Rows.{stacked, work_words, Stack, Telling}
use Rattle.driver.specs.Says.{memo_in, StoredSays}
use Rattle.driver.specs.Doing.{Doing, desk, asks, Area, Grown}
use Rattle.driver.proofs.Asked.{stacked_drop, stacked_take}
use Rattle.driver.proofs.Words.{Placed, placed}
use Rattle.driver.proofs.Lent.{Parted, same_rows, shorter}

pub ask_turn : (ms ns w v : List ℕ) (r f : ℕ) (k : Key) (n from : ℕ) (q : Key) → ns ≡ ms → deep (f + 10) v ≡ work_words k n from q (deep f w) → take r v ≡ take r w
    → (m : Kept) (gs : List Got) (st : List Frame) → Doing ms w r f (Tell (asks k n from)) (tell m k gs st) → Doing ns v r (f + 10) (Call q) (told m k gs st (ask q))
ask_turn ms ns w v r f k n from q en added rows m gs st d =
    let t = d.3 in
    subst (λ ns. Doing ns v r (f + 10) (Call q) (told m k gs st (ask q))) (sym en) (
      refl,
      d.2,
      (t.vs, t.us, record { row1 = rows ∙ t.row1; words = added ∙ (λ i. work_words k (d.1 i) (sym t.from i) q (t.keys1 i)) }, t.below),
    )

-- a stack stays where the memo holds more
pub stack_keeps : (ms ns : List ℕ) → Keeps ms ns → (st : List Frame) (rows fs : List ℕ) → Stack ms rows fs st → Stack ns rows fs st
stack_keeps ms ns k [] rows fs s = s
stack_keeps ms ns k (looks j e g gs ∷ st) rows fs s =
    let l = s.1 in (
      s.0,
      record { d = l.d; i = l.i; q = l.q; words = l.words; looks1 = k.looks l.d l.i l.q l.looks1; entry = (k.records1 l.d l.looks1.record1).1 ∙ l.entry; rest = l.rest },
      stack_keeps ms ns k st rows s.0 s.2,
    )
stack_keeps ms ns k (works j gs q ∷ st) rows fs s = (s.0, s.1, s.2, stack_keeps ms ns k st s.0 s.1 s.3)

-- the parts of the entry of a rule that is done, in the work area w1 in which its keys were put in order
pub record PartsOf (count r f n from : ℕ) (w w1 : List ℕ) (gs : List Got) : Type 0 where
  pub ans1 : take (r + n - r) (drop r w1) ≡ take n (drop r w)
  pub keys1 : take (length w - f + 3 * count - (length w - f)) (drop (length w - f) w1) ≡ keys gs
  pub row1 : take (r - from) (drop from w1) ≡ row (answers gs)

module _ (count r f n from : ℕ) (w ks : List ℕ) (hf : from ≤ r) (hr : r + n + f ≤ length w) (hc : 3 * count ≤ f) (lk : length ks ≡ 3 * count) where
  abbrev h : ℕ
  h = length w - f

  abbrev w1 : List ℕ
  w1 = put_mid h (h + 3 * count - h) w ks

  put : Placed h ks w w1
  put = placed h ks w w1 (putMid_puts h (h + 3 * count - h) w ks ks refl (omega arith)) (omega arith)

  pub put_work : (take h w1 ≡ take h w) × (deep (f - 3 * count) w1 ≡ deep (f - 3 * count) w)
  put_work = let p = put in (p.below, p.above (f - 3 * count) (omega arith))

  pub parts_of : (gs : List Got) (us : List ℕ) → deep f w ≡ stacked gs us → length gs ≡ count → take (r - from) (drop from w) ≡ row (answers gs) → ((g : List Got) → take (h + 3 * count - h) (drop h w) ≡ stacked g [] → ks ≡ keys g) → PartsOf count r f n from w w1 gs
  parts_of gs us e l er order =
      let p = put in
      let z : h + 3 * count - h ≡ 3 * length gs = omega arith in
      let y : h + 3 * count - h ≡ length ks = omega arith in
      let x : r + n - r ≡ n = omega arith in
      let o = order gs ((λ t. take (z t) (e t)) ∙ stacked_take gs us) in
      record {
        ans1 = ap (λ j. take j (drop r w1)) x ∙ same_rows r n h w w1 (omega arith) p.below;
        keys1 = ap (λ j. take j (drop h w1)) y ∙ p.is ∙ o;
        row1 = same_rows from (r - from) h w w1 (omega arith) p.below ∙ er;
      }

-- the words of a rule that is told
pub record WordsOf (memo r f n from : ℕ) (w vs us : List ℕ) (gs : List Got) : Type 0 where
  pub frames : deep f w ≡ stacked gs us
  pub row1 : take (r - from) (drop from w) ≡ row (answers gs)
  pub rest : deep (f - 3 * n) w ≡ us
  pub below : take from w ≡ vs

pub words_of : (ms : List ℕ) (memo r f n from : ℕ) (w : List ℕ) (gs : List Got) (st : List Frame) → r + f ≤ length w → from ≤ r → 3 * n ≤ f → n ≡ length gs → (t : Telling ms (take r w) (deep f w) from gs st) → WordsOf memo r f n from w t.vs t.us gs
words_of ms memo r f n from w gs st h hf hn en t =
    let z : r ≡ from + (r - from) = omega arith in
    let u : length w - (f - 3 * n) ≡ length w - f + 3 * length gs = omega arith in
    record {
      frames = t.keys1;
      row1 = sym (drop-take from (r - from) w) ∙ ap (λ j. drop from (take j w)) (sym z) ∙ ap (drop from) t.row1 ∙ drop_at t.vs (row (answers gs)) from t.from;
      rest = ap (λ j. drop j w) u ∙ sym (drop-drop (3 * length gs) (length w - f) w) ∙ ap (drop (3 * length gs)) t.keys1 ∙ stacked_drop gs t.us;
      below = sym (take-take from r w hf) ∙ ap (take from) t.row1 ∙ take_at t.vs (row (answers gs)) from t.from;
    }

-- a rule is done: its entry was to be stored in the memo, which is ns then, and the work area is v
module _ (known memo r f : ℕ) (k : Key) (n from len : ℕ) (ws vs ns v : List ℕ) (area : Area ws (desk known memo r f)) (hf : from ≤ r) (hn : 3 * n ≤ f) (hl : memo + (r + (len + f)) ≤ length ws) (p : Parted known memo ws vs ns v) (x : Result ⊤ NoRoom)
    (says : (gs : List Got) (us : List ℕ) → deep f (drop memo ws) ≡ stacked gs us → length gs ≡ n → take (r - from) (drop from (drop memo ws)) ≡ row (answers gs) → StoredSays (made k (take len (drop r (drop memo ws))) gs) (memo_in known memo ws) ns x) where
  abbrev ms : List ℕ
  ms = memo_in known memo ws

  abbrev w : List ℕ
  w = drop memo ws

  abbrev ans : Ans
  ans = take len (drop (memo + r) ws)

  words : (gs : List Got) (st : List Frame) → n ≡ length gs → (t : Telling ms (take r w) (deep f w) from gs st) → WordsOf memo r f n from w t.vs t.us gs
  words gs st e t = let l = length-drop memo ws in let hi = area.high in words_of ms memo r f n from w gs st (omega arith) hf hn e t

  stored : (gs : List Got) (st : List Frame) → n ≡ length gs → Telling ms (take r w) (deep f w) from gs st → StoredSays (made k ans gs) ms ns x
  stored gs st e t = let o = words gs st e t in subst (λ q. StoredSays (made k q gs) ms ns x) (ap (take len) (drop-drop r memo ws)) (says gs t.us o.frames (sym e) o.row1)

  grown : (e : Entry) → StoredSays e ms ns x → Grown known memo ws vs
  grown e s = record { fits = subst Fits (sym p.memo1) s.fits; keeps = subst (Keeps ms) (sym p.memo1) s.keeps; buckets = ap (λ v. get_or v 2 0) p.memo1 ∙ s.buckets; before = p.before }

  pub done_refused : (er : NoRoom) → x ≡ Err er → (m : Kept) (gs : List Got) (st : List Frame) → Doing ms w r f (Tell (asks k n from)) (tell m k gs st)
      → Grown known memo ws vs × ((spare ms < entry_long (made k ans gs)) ⊎ (length ws < memo + (from + (1 + (len + f)))))
  done_refused er e m gs st d =
      let s = stored gs st d.1 d.3 in
      let t : StoreSays (made k ans gs) ms ns (Err er) = subst (StoreSays (made k ans gs) ms ns) e s.says in
      (grown (made k ans gs) s, inl t.1)

  pub done_turn : (u : ⊤) → x ≡ Ok u → from + 1 + len + f ≤ length w → length v ≡ length w → take len (drop (from + 1) v) ≡ take len (drop r w) → take (from + 1) v ≡ take (from + 1) w → deep (f - 3 * n) v ≡ deep (f - 3 * n) w
      → (m : Kept) (gs : List Got) (st : List Frame) → Doing ms w r f (Tell (asks k n from)) (tell m k gs st)
      → Area vs (desk known memo from (f - 3 * n)) × Grown known memo ws vs × Doing (memo_in known memo vs) (drop memo vs) from (f - 3 * n) (Back len) (told m k gs st (done ans)) × (spare ms ≡ entry_long (made k ans gs) + spare (memo_in known memo vs))
  done_turn u e fit lv is below above m gs st d =
      let t = d.3 in
      let s = stored gs st d.1 t in
      let y : StoreSays (made k ans gs) ms ns (Ok u) = subst (StoreSays (made k ans gs) ms ns) e s.says in
      let g = grown (made k ans gs) s in
      let o = words gs st d.1 t in
      let wl = length-drop memo ws in
      let hi = area.high in
      let sm = area.small in
      let pl = p.long in
      let dl = length-drop (memo + r) ws in
      let al : length ans ≡ len = length-take-le len (drop (memo + r) ws) (omega arith) in
      let rows : take from (drop memo vs) ≡ t.vs = ap (take from) p.work ∙ shorter from (from + 1) v w (omega arith) below ∙ o.below in
      let frames : deep (f - 3 * n) (drop memo vs) ≡ t.us = ap (deep (f - 3 * n)) p.work ∙ above ∙ o.rest in
      let vl = ap length p.work in (
        record { low = area.low; high = omega arith; small = omega arith; fits = g.fits },
        g,
        (
          sym al,
          ap (λ q. take len (drop (from + 1) q)) p.work ∙ is ∙ ap (take len) (drop-drop r memo ws),
          omega arith,
          ap (store (made k ans gs)) d.2 ∙ sym y.0 ∙ ap kept_entries (sym p.memo1),
          subst (λ q. Stack (memo_in known memo vs) (take from (drop memo vs)) q st) (sym frames) (subst (λ q. Stack (memo_in known memo vs) q t.us st) (sym rows) (stack_keeps ms (memo_in known memo vs) g.keeps st t.vs t.us t.below)),
        ),
        y.1 ∙ ap (λ q. entry_long (made k ans gs) + spare q) (sym p.memo1),
      )
