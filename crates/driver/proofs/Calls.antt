-- A key that is to be brought, and an answer that comes back to a frame that looks, against the machine.
use Rattle.std.proofs.Common.{◌≡◌, ℕ, ◌+◌, ◌-◌, ◌≤◌, true, false, List, [], ◌∷◌, length, take, drop, sym, refl, ap, ◌∙◌, subst, append-nil, arith}
use mathlib.Core.Option.{some, none}
use Rattle.std.proofs.lemmas.List.{drop-drop, length-take-le}
use Rattle.base.specs.Base.{pick, same}
use Rattle.engine.specs.declared.key.Key.{Key}
use Rattle.engine.specs.Engine.{Ans, Got, Entry, Kept, find}
use Rattle.engine.specs.Machine.{Frame, looks, back, tell, look, called, backed}
use Rattle.memo.specs.Record.{deep}
use Rattle.memo.specs.Log.{kept_entries, entry_at}
use Rattle.std.specs.Prelude.{Result, Ok, Err, Some, None}
use Rattle.memo.specs.declared.entry.Cursor.{Cursor}
use Rattle.memo.specs.declared.log.NoRoom.{NoRoom}
use Rattle.driver.specs.declared.state.At.{At}
use Rattle.driver.specs.declared.state.Now.TheVariants.{Back, Tell}
use Rattle.driver.specs.Rows.{look_words, Stack, Telling}
use Rattle.driver.specs.Says.{memo_in, CompareSays}
use Rattle.driver.specs.Doing.{Doing, desk, asks, LookSays, CallSays, BackSays}

pub telling_none : (ms w us : List ℕ) (r : ℕ) (st : List Frame) → r ≤ length w → Stack ms (take r w) us st → Telling ms (take r w) us r [] st
telling_none ms w us r st h s = record { vs = take r w; us = us; from = length-take-le r w h; row1 = sym (append-nil (take r w)); keys1 = refl; below = s }

pub call_none : (ms w : List ℕ) (r f : ℕ) (k : Key) → r ≤ length w → find (kept_entries ms) k ≡ none → (m : Kept) (st : List Frame) → m.entries ≡ kept_entries ms → Stack ms (take r w) (deep f w) st → Doing ms w r f (Tell (asks k 0 r)) (called m k st (find m.entries k))
call_none ms w r f k h p m st em s =
    subst (λ o. Doing ms w r f (Tell (asks k 0 r)) (called m k st o)) (sym (ap (λ es. find es k) em ∙ p)) (refl, refl, em, telling_none ms w (deep f w) r st h s)

pub call_look : (known memo r f : ℕ) (k : Key) (d : ℕ) (ws vs : List ℕ) → find (kept_entries (memo_in known memo ws)) k ≡ some (entry_at (memo_in known memo ws) d) → (t : Result At NoRoom) → LookSays (desk known memo r f) k d 0 ws vs t → CallSays (desk known memo r f) k ws vs t
call_look known memo r f k d ws vs p (Ok t) x = (
  x.0,
  x.1,
  λ m st em s.
      let e = entry_at (memo_in known memo ws) d in
      subst (λ o. Doing (memo_in known memo vs) (drop memo vs) t.rows t.frames t.now (called m k st o)) (sym (ap (λ es. find es k) em ∙ p)) (x.2 m e e.gots st refl refl em s),
)
call_look known memo r f k d ws vs p (Err er) x = (x.0, entry_at (memo_in known memo ws) d, p, x.1)

-- the first words of a frame that looks
pub record LookHead (key : Key) (x y z : ℕ) (ws : List ℕ) (k : Key) (d i q : ℕ) (us : List ℕ) : Type 0 where
  pub key1 : key ≡ k
  pub depth : x ≡ d
  pub which : y ≡ i
  pub place : z ≡ q
  pub rest : ws ≡ us

pub look_head : (key : Key) (x y z : ℕ) (ws : List ℕ) (k : Key) (d i q : ℕ) (us : List ℕ) → look_words key x y z ws ≡ look_words k d i q us → LookHead key x y z ws k d i q us
look_head key x y z ws k d i q us p =
    let a : key.kind ≡ k.kind = cc in
    let b : key.a ≡ k.a = cc in
    let c : key.b ≡ k.b = cc in
    record { key1 = λ t. record { kind = a t; a = b t; b = c t }; depth = cc; which = cc; place = cc; rest = cc }

module _ (known memo r f n : ℕ) (ws : List ℕ) (key : Key) (x y z : ℕ) (h : deep f (drop memo ws) ≡ look_words key x y z (deep (f - 7) (drop memo ws))) where
  abbrev ms : List ℕ
  ms = memo_in known memo ws

  abbrev w : List ℕ
  w = drop memo ws

  abbrev ans1 : List ℕ
  ans1 = take n (drop (memo + (r + 1)) ws)

  -- what is known of the frame
  record Known (m : Kept) (a : Ans) (k : Key) (e : Entry) (g : Got) (gs : List Got) (st : List Frame) : Type 0 where
    pub key2 : key ≡ k
    pub entry2 : entry_at ms x ≡ e
    pub asked2 : drop y (entry_at ms x).gots ≡ g ∷ gs
    pub ans2 : ans1 ≡ a
    pub kept2 : m.entries ≡ kept_entries ms
    pub stack2 : Stack ms (take r w) (deep (f - 7) w) st

  knows : (m : Kept) (a : Ans) (k : Key) (e : Entry) (g : Got) (gs : List Got) (st : List Frame) → Doing ms w r f (Back n) (back m a (looks k e g gs ∷ st)) → Known m a k e g gs st
  knows m a k e g gs st d =
      let us = d.4.0 in
      let lk = d.4.1 in
      let hd = look_head key x y z (deep (f - 7) w) k lk.d lk.i lk.q us (sym h ∙ lk.words) in
      let ee : entry_at ms x ≡ e = ap (entry_at ms) hd.depth ∙ lk.entry in
      record {
        key2 = hd.key1;
        entry2 = ee;
        asked2 = (λ t. drop (hd.which t) (ee t).gots) ∙ lk.rest;
        ans2 = ap (take n) (sym (drop-drop (r + 1) memo ws)) ∙ d.1;
        kept2 = d.3;
        stack2 = subst (λ l. Stack ms (take r w) l st) (sym hd.rest) d.4.2;
      }

  pub back_same : (c : Cursor) → CompareSays ms x y ans1 (Some c) → (vs : List ℕ) (t : Result At NoRoom) → LookSays (desk known memo r (f - 7)) key x c.index ws vs t → BackSays (desk known memo r f) n ws vs t
  back_same c s vs (Ok t) l = (
    l.0,
    l.1,
    λ m a k e g gs st d.
        let o = knows m a k e g gs st d in
        let co = s.2 g gs o.asked2 in
        let b : same a g.ans ≡ true = ap (λ l. same l g.ans) (sym o.ans2) ∙ co.0 in
        let rest : drop c.index e.gots ≡ gs = ap (λ j. drop j e.gots) s.1 ∙ sym (ap (λ (e : Entry). drop (y + 1) e.gots) o.entry2) ∙ co.1 in
        subst (λ q. Doing (memo_in known memo vs) (drop memo vs) t.rows t.frames t.now (pick q (look m k e gs st) (tell m k [] st))) (sym b)
        (subst (λ j. Doing (memo_in known memo vs) (drop memo vs) t.rows t.frames t.now (look m j e gs st)) o.key2 (l.2 m e gs st o.entry2 rest o.kept2 o.stack2)),
  )
  back_same c s vs (Err er) l = (l.0, λ m a k e g gs st d. let o = knows m a k e g gs st d in let q = ap (λ (e : Entry). length e.ans) o.entry2 in let y = l.1 in omega arith)

  pub back_other : CompareSays ms x y ans1 None → r ≤ length w → (m : Kept) (a : Ans) (k : Key) (e : Entry) (g : Got) (gs : List Got) (st : List Frame) → Doing ms w r f (Back n) (back m a (looks k e g gs ∷ st)) → Doing ms w r (f - 7) (Tell (asks key 0 r)) (backed m a (looks k e g gs ∷ st))
  back_other p hr m a k e g gs st d =
      let o = knows m a k e g gs st d in
      let b : same a g.ans ≡ false = ap (λ l. same l g.ans) (sym o.ans2) ∙ p g gs o.asked2 in
      subst (λ q. Doing ms w r (f - 7) (Tell (asks key 0 r)) (pick q (look m k e gs st) (tell m k [] st))) (sym b) (o.key2, refl, o.kept2, telling_none ms w (deep (f - 7) w) r st hr o.stack2)
