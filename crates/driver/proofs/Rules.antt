-- A rule is told, and asks or is done, against the machine.
use Rattle.std.proofs.Common.{◌≡◌, ℕ, ◌+◌, ◌-◌, ◌*◌, ◌<◌, ◌≤◌, List, length, get_or, take, drop, sym, refl, ap, ◌∙◌, subst, inl, inr, arith, length-drop}
use Rattle.std.proofs.lemmas.List.{drop-drop, length-take-le}
use Rattle.engine.specs.declared.key.Key.{Key}
use Rattle.engine.specs.declared.rules.Turn.{Turn}
use Rattle.engine.specs.declared.rules.Turn.TheVariants.{Ask, Done, Narrow}
use Rattle.engine.specs.Engine.{Then, ask, Rules, Got, Kept, answers}
use Rattle.engine.specs.Says.{row}
use Rattle.engine.specs.Machine.{Frame, tell, told}
use Rattle.memo.specs.Record.{deep, made, entry_long}
use Rattle.memo.specs.Log.{Fits, spare}
use Rattle.memo.specs.Says.{Keeps}
use Rattle.memo.proofs.Appends.{keeps_self}
use Rattle.std.specs.Prelude.{Result, Ok, Err}
use Rattle.memo.specs.declared.log.NoRoom.{NoRoom}
use Rattle.driver.specs.declared.state.At.{At}
use Rattle.driver.specs.declared.state.Now.TheVariants.{Tell}
use Rattle.driver.specs.Rows.{Telling}
use Rattle.driver.specs.Says.{memo_in}
use Rattle.driver.specs.Doing.{Doing, desk, asks, Area, Grown, AskSays, DoneSays, RuleSays, TellSays, Short, stored_long}
use Rattle.driver.proofs.Lent.{same_memo, area_on, same_rows, same_frames, shorter}
use Rattle.driver.proofs.Tells.{words_of}

module _ (b : Rules) (known memo r f : ℕ) (k : Key) (n from : ℕ) (ws us : List ℕ) (area : Area ws (desk known memo r f)) (hf : from ≤ r) (hn : 3 * n ≤ f) (front : take (memo + r) us ≡ take (memo + r) ws) (beh : deep f us ≡ deep f ws) (long : length us ≡ length ws) where
  abbrev ms : List ℕ
  ms = memo_in known memo ws

  before : take memo us ≡ take memo ws
  before = shorter memo (memo + r) us ws (omega arith) front

  memos : memo_in known memo us ≡ ms
  memos = same_memo known memo ws us area.low before

  pub area_then : Area us (desk known memo r f)
  area_then = area_on known memo r f r f ws us area long before area.high

  pub moved : (m : Kept) (gs : List Got) (st : List Frame) → Doing ms (drop memo ws) r f (Tell (asks k n from)) (tell m k gs st) → Doing (memo_in known memo us) (drop memo us) r f (Tell (asks k n from)) (tell m k gs st)
  moved m gs st d =
      let hi = area.high in
      let rows = same_rows memo r (memo + r) ws us (omega arith) front in
      let fs = same_frames memo f ws us (omega arith) long beh in
      subst (λ q. Doing q (drop memo us) r f (Tell (asks k n from)) (tell m k gs st)) (sym memos) (d.0, d.1, d.2, subst (λ q. Telling ms (take r (drop memo us)) q from gs st) (sym fs) (subst (λ q. Telling ms q (deep f (drop memo ws)) from gs st) (sym rows) d.3))

  pub row_there : (m : Kept) (gs : List Got) (st : List Frame) → Doing ms (drop memo ws) r f (Tell (asks k n from)) (tell m k gs st) → take (r - from) (drop (memo + from) ws) ≡ row (answers gs)
  row_there m gs st d =
      let l = length-drop memo ws in
      let hi = area.high in
      let o = words_of ms memo r f n from (drop memo ws) gs st (omega arith) hf hn d.1 d.3 in
      ap (take (r - from)) (sym (drop-drop from memo ws)) ∙ o.row1

  grown : (vs : List ℕ) → Grown known memo us vs → Grown known memo ws vs
  grown vs g = record { fits = g.fits; keeps = subst (λ q. Keeps q (memo_in known memo vs)) memos g.keeps; buckets = g.buckets ∙ ap (λ v. get_or v 2 0) memos; before = g.before ∙ shorter known memo us ws area.low before }

  grown_same : (vs : List ℕ) → take memo vs ≡ take memo us → Grown known memo ws vs
  grown_same vs e =
      let q = same_memo known memo us vs area.low e in
      grown vs (record { fits = subst Fits (sym q) area_then.fits; keeps = subst (Keeps (memo_in known memo us)) (sym q) (keeps_self (memo_in known memo us)); buckets = ap (λ v. get_or v 2 0) q; before = shorter known memo vs us area.low e })

  abbrev Says1 : Turn → Type 0
  Says1 t = (gs : List Got) → length gs ≡ n → take (r - from) (drop (memo + from) ws) ≡ row (answers gs) → RuleSays (b.next k (answers gs)) (desk known memo r f) from ws us t

  pub rule_asks : (q : Key) → Says1 (Ask q) → (vs : List ℕ) (t : Result At NoRoom) → AskSays (desk known memo r f) (asks k n from) q us vs t → TellSays b (desk known memo r f) (asks k n from) ws vs t
  rule_asks q s vs (Ok t) x = λ m gs st d.
      let e : b.next k (answers gs) ≡ ask q = s gs (sym d.1) (row_there m gs st d) in
      (x.0, grown_same vs x.1, subst (λ y. Doing (memo_in known memo vs) (drop memo vs) t.rows t.frames t.now (told m k gs st y)) (sym e) (x.2 m gs st (moved m gs st d)), as_much vs x.1 gs (b.next k (answers gs)) e)
    where
      as_much : (vs : List ℕ) → take memo vs ≡ take memo us → (gs : List Got) (t : Then) → t ≡ ask q → spare ms ≡ stored_long k gs t + spare (memo_in known memo vs)
      as_much vs e gs t p = let a = ap (stored_long k gs) p in let c = ap spare (same_memo known memo us vs area.low e ∙ memos) in omega (arith, a, c)
  rule_asks q s vs (Err er) x = λ m gs st d. let y = x.1 in (grown_same vs x.0, inl (omega arith))

  pub rule_done : (len : ℕ) → Says1 (Done len) → (vs : List ℕ) (t : Result At NoRoom) → DoneSays (desk known memo r f) (asks k n from) len us vs t → TellSays b (desk known memo r f) (asks k n from) ws vs t
  rule_done len s vs (Ok t) x = λ m gs st d.
      let e = (s gs (sym d.1) (row_there m gs st d)).0 in
      let y = x m gs st (moved m gs st d) in
      (y.0, grown vs y.1, subst (λ z. Doing (memo_in known memo vs) (drop memo vs) t.rows t.frames t.now (told m k gs st z)) (sym e) y.2, subst (λ z. spare ms ≡ stored_long k gs z + spare (memo_in known memo vs)) (sym e) (subst (λ q. spare q ≡ entry_long (made k (take len (drop (memo + r) us)) gs) + spare (memo_in known memo vs)) memos y.3))
  rule_done len s vs (Err er) x = λ m gs st d.
      let z = s gs (sym d.1) (row_there m gs st d) in
      let y = x m gs st (moved m gs st d) in
      (grown vs y.0, subst (λ th. Short (desk known memo r f) k from gs th ws) (sym z.0) (elim y.1 [ inl p ↦ inr (take len (drop (memo + r) us), refl, subst (λ q. spare q < entry_long (made k (take len (drop (memo + r) us)) gs)) memos p) | inr p ↦ inl (near z.1 p) ]))
    where
      near : memo + (r + (len + f)) ≤ length ws → length us < memo + (from + (1 + (len + f))) → length ws < memo + (r + f) + (4096 + 256 * (r - from + length (take len (drop (memo + r) us))))
      near h p = let d = length-drop (memo + r) us in let l = length-take-le len (drop (memo + r) us) (omega arith) in omega arith

  pub rule_narrow : (er : NoRoom) → Says1 Narrow → TellSays b (desk known memo r f) (asks k n from) ws us (Err er)
  rule_narrow er s = λ m gs st d. (grown_same us refl, inl (s gs (sym d.1) (row_there m gs st d)))
