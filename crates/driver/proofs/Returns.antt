-- An answer that comes back to the newest frame, of either sort.
use Rattle.std.proofs.Common.{◌≡◌, ℕ, ◌+◌, ◌<◌, ◌≤◌, List, ◌∷◌, length, drop, sym, ap, ◌∙◌, subst, arith, length-drop}
use Rattle.engine.specs.declared.key.Key.{Key}
use Rattle.engine.specs.Engine.{Ans, Got, Entry, Kept}
use Rattle.engine.specs.Machine.{Frame, looks, works, back, backed}
use Rattle.memo.specs.Record.{deep}
use Rattle.memo.specs.Log.{entry_at}
use Rattle.memo.specs.Says.{Looks}
use Rattle.std.specs.Prelude.{Result, Ok, Err}
use Rattle.memo.specs.declared.log.NoRoom.{NoRoom}
use Rattle.driver.specs.declared.state.At.{At}
use Rattle.driver.specs.declared.state.Now.TheVariants.{Back}
use Rattle.driver.specs.declared.stack.Head.TheVariants.{Works}
use Rattle.driver.specs.declared.state.Told.{Told}
use Rattle.driver.specs.Rows.{look_words, stacked, Stack}
use Rattle.driver.specs.Says.{memo_in, HeadSays}
use Rattle.driver.specs.Doing.{Doing, desk, BackSays, ReturnSays, look_long}
use Rattle.driver.proofs.Turns.{works_no_look, looks_no_work}
use Rattle.driver.proofs.Calls.{look_head}

pub frame_seven : (ms rows fs : List ℕ) (fr : Frame) (st : List Frame) → Stack ms rows fs (fr ∷ st) → 7 ≤ length fs
frame_seven ms rows fs (looks k e g gs) st s = let e1 = ap length s.1.words in omega arith
frame_seven ms rows fs (works k gs q) st s = let e1 = ap length s.2.words in omega arith

pub looks_there : (ms rows fs us : List ℕ) (key : Key) (x y z : ℕ) (fr : Frame) (st : List Frame) → fs ≡ look_words key x y z us → Stack ms rows fs (fr ∷ st) → Looks ms x y z × (y < length (entry_at ms x).gots)
looks_there ms rows fs us key x y z (looks k e g gs) st h s =
    let lk = s.1 in
    let hd = look_head key x y z us k lk.d lk.i lk.q s.0 (sym h ∙ lk.words) in
    let l = subst (λ q. Looks ms x y q) (sym hd.place) (subst (λ i. Looks ms x i lk.q) (sym hd.which) (subst (λ d. Looks ms d lk.i lk.q) (sym hd.depth) lk.looks1)) in
    let ee : entry_at ms x ≡ e = ap (entry_at ms) hd.depth ∙ lk.entry in
    let a = ap length lk.rest in
    let b = length-drop lk.i e.gots in
    let c = hd.which in
    let d = ap (λ (e : Entry). length e.gots) ee in
    (l, omega arith)
looks_there ms rows fs us key x y z (works k gs q) st h s = absurd (looks_no_work key x y z us k (length gs) (length s.0) q (stacked gs s.1) (sym h ∙ s.2.words))

module _ (known memo r f n : ℕ) (ws us : List ℕ) where
  pub return_look : (key : Key) (x y z : ℕ) → deep f (drop memo ws) ≡ look_words key x y z us → (vs : List ℕ) (t : Result At NoRoom) → BackSays (desk known memo r f) n ws vs t → ReturnSays (desk known memo r f) n ws vs t
  return_look key x y z h vs (Ok t) b = (b.0, b.1, go)
    where
      go : (m : Kept) (a : Ans) (fr : Frame) (st : List Frame) → Doing (memo_in known memo ws) (drop memo ws) r f (Back n) (back m a (fr ∷ st)) → Doing (memo_in known memo vs) (drop memo vs) t.rows t.frames t.now (backed m a (fr ∷ st))
      go m a (looks k e g gs) st d = b.2 m a k e g gs st d
      go m a (works k gs q) st d = absurd (looks_no_work key x y z us k (length gs) (length d.4.0) q (stacked gs d.4.1) (sym h ∙ d.4.2.words))
  return_look key x y z h vs (Err er) b = (b.0, go)
    where
      go : (m : Kept) (a : Ans) (fr : Frame) (st : List Frame) → Doing (memo_in known memo ws) (drop memo ws) r f (Back n) (back m a (fr ∷ st)) → length ws < memo + (r + f) + (7 + look_long fr)
      go m a (looks k e g gs) st d = b.1 m a k e g gs st d
      go m a (works k gs q) st d = absurd (looks_no_work key x y z us k (length gs) (length d.4.0) q (stacked gs d.4.1) (sym h ∙ d.4.2.words))

  pub return_work : (t : Told) → HeadSays (Works t) (deep f (drop memo ws)) us → (ms v : List ℕ) (s : At) → ((m : Kept) (a : Ans) (k : Key) (gs : List Got) (q : Key) (st : List Frame) → Doing (memo_in known memo ws) (drop memo ws) r f (Back n) (back m a (works k gs q ∷ st)) → Doing ms v s.rows s.frames s.now (backed m a (works k gs q ∷ st)))
      → (m : Kept) (a : Ans) (fr : Frame) (st : List Frame) → Doing (memo_in known memo ws) (drop memo ws) r f (Back n) (back m a (fr ∷ st)) → Doing ms v s.rows s.frames s.now (backed m a (fr ∷ st))
  return_work t h ms v s b m a (works k gs q) st d = b m a k gs q st d
  return_work t h ms v s b m a (looks k e g gs) st d = let lk = d.4.1 in absurd (works_no_look t (deep f (drop memo ws)) us k lk.d lk.i lk.q d.4.0 h lk.words)
