-- Whatever is next, a turn in words is the machine's: from the four sorts of turns.
use Rattle.std.proofs.Common.{◌≡◌, ℕ, ◌+◌, ◌-◌, ◌*◌, ◌<◌, ◌≤◌, true, false, List, [], ◌∷◌, length, get_or, take, drop, sym, ap, ◌∙◌, subst, inl, inr, arith, length-append, length-drop}
use Rattle.std.proofs.lemmas.List.{length-take-le}
use Rattle.base.specs.Base.{pick}
use Rattle.engine.specs.declared.key.Key.{Key}
use Rattle.engine.specs.Engine.{Ans, Rules, Inputs, Got, Kept, answers, find}
use Rattle.engine.specs.Says.{row, answer_long}
use Rattle.engine.specs.Machine.{Frame, State, call, back, tell, called, turn, Busy}
use Rattle.memo.specs.Log.{Fits, spare}
use Rattle.memo.specs.Says.{Keeps}
use Rattle.memo.proofs.Appends.{keeps_self}
use Rattle.std.specs.Prelude.{Result, Ok, Err}
use Rattle.memo.specs.declared.log.NoRoom.{NoRoom}
use Rattle.driver.specs.declared.state.At.{At}
use Rattle.driver.specs.declared.state.Now.TheVariants.{Call, Back, Tell}
use Rattle.driver.specs.Says.{memo_in}
use Rattle.driver.specs.Doing.{Doing, desk, asks, Area, Grown, CallSays, HandSays, ReturnSays, TellSays}
use Rattle.driver.specs.Turns.{added, Tight, TurnSays}
use Rattle.driver.proofs.Asked.{stacked_long}
use Rattle.driver.proofs.Decode.{deep_short}
use Rattle.driver.proofs.Lent.{same_memo, shorter}

-- the frame that an answer comes back to
pub back_there : (ms w : List ℕ) (r f n : ℕ) (c : State) → Busy c → Doing ms w r f (Back n) c → (m : Kept) × (a : Ans) × (fr : Frame) × (st : List Frame) × Doing ms w r f (Back n) (back m a (fr ∷ st))
back_there ms w r f n (call m k st) y d = absurd d
back_there ms w r f n (back m a []) y d = absurd y
back_there ms w r f n (back m a (fr ∷ st)) y d = (m, a, fr, st, d)
back_there ms w r f n (tell m k gs st) y d = absurd d

-- what a rule is told
pub tell_there : (ms w : List ℕ) (r f : ℕ) (k : Key) (n from : ℕ) (c : State) → Doing ms w r f (Tell (asks k n from)) c → (m : Kept) × (gs : List Got) × (st : List Frame) × Doing ms w r f (Tell (asks k n from)) (tell m k gs st)
tell_there ms w r f k n from (call m j st) d = absurd d
tell_there ms w r f k n from (back m a st) d = absurd d
tell_there ms w r f k n from (tell m j gs st) d = (m, gs, st, subst (λ q. Doing ms w r f (Tell (asks k n from)) (tell m q gs st)) (sym d.0) d)

-- where its row and its keys stand
pub tell_row : (ms w : List ℕ) (r f : ℕ) (k : Key) (n from : ℕ) (m : Kept) (j : Key) (gs : List Got) (st : List Frame) → r ≤ length w → Doing ms w r f (Tell (asks k n from)) (tell m j gs st) → (r ≡ from + length (row (answers gs))) × (3 * n ≤ f)
tell_row ms w r f k n from m j gs st h d =
    let t = d.3 in
    let a = ap length t.row1 in
    let b = length-append t.vs (row (answers gs)) in
    let c = length-take-le r w h in
    let e = t.from in
    let l = ap length t.keys1 in
    let s = stacked_long gs t.us in
    let q = deep_short f w in
    let p = d.1 in
    (omega (arith, a, b, c, e), omega (arith, l, s, q, p))

module _ (b : Rules) (i : Inputs) (known memo r f : ℕ) (ws : List ℕ) (area : Area ws (desk known memo r f)) where
  abbrev ms : List ℕ
  ms = memo_in known memo ws

  -- the memo as it was
  still : (vs : List ℕ) → take memo vs ≡ take memo ws → Grown known memo ws vs
  still vs e =
      let q = same_memo known memo ws vs area.low e in
      record { fits = subst Fits (sym q) area.fits; keeps = subst (Keeps ms) (sym q) (keeps_self ms); buckets = ap (λ v. get_or v 2 0) q; before = shorter known memo vs ws area.low e }

  as_much : (vs : List ℕ) → take memo vs ≡ take memo ws → spare ms ≡ 0 + spare (memo_in known memo vs)
  as_much vs e = let q = ap spare (same_memo known memo ws vs area.low e) in omega (arith, q)

  pub turn_input : (k : Key) → b.input k ≡ true → (vs : List ℕ) (t : Result At NoRoom) → HandSays (desk known memo r f) (i k) ws vs t → TurnSays b i (desk known memo r f) (Call k) ws vs t
  turn_input k p vs (Ok t) x = go
    where
      go : (c : State) → Busy c → Doing ms (drop memo ws) r f (Call k) c → Area vs (desk known memo t.rows t.frames) × Grown known memo ws vs × Doing (memo_in known memo vs) (drop memo vs) t.rows t.frames t.now (turn b i c) × (spare ms ≡ added b c + spare (memo_in known memo vs))
      go (call m j st) y d =
          let D : State → Type 0 = Doing (memo_in known memo vs) (drop memo vs) t.rows t.frames t.now in
          let z : D (back m (i k) st) = x.2 m st d.1 d.2 in
          let u : D (pick (b.input k) (back m (i k) st) (called m k st (find m.entries k))) = subst (λ q. D (pick q (back m (i k) st) (called m k st (find m.entries k)))) (sym p) z in
          (x.0, still vs x.1, subst (λ q. D (turn b i (call m q st))) d.0 u, as_much vs x.1)
      go (back m a st) y d = absurd d
      go (tell m j gs st) y d = absurd d
  turn_input k p vs (Err er) x = go
    where
      go : (c : State) → Busy c → Doing ms (drop memo ws) r f (Call k) c → Grown known memo ws vs × Tight b i (length ws) (memo + (r + f)) (spare ms) c
      go (call m j st) y d = (still vs x.0, inl (sym (ap b.input d.0) ∙ p, subst (λ q. length ws < memo + (r + f) + (1 + length (i q))) d.0 x.1))
      go (back m a st) y d = absurd d
      go (tell m j gs st) y d = absurd d

  pub turn_kept : (k : Key) → b.input k ≡ false → (vs : List ℕ) (t : Result At NoRoom) → CallSays (desk known memo r f) k ws vs t → TurnSays b i (desk known memo r f) (Call k) ws vs t
  turn_kept k p vs (Ok t) x = go
    where
      go : (c : State) → Busy c → Doing ms (drop memo ws) r f (Call k) c → Area vs (desk known memo t.rows t.frames) × Grown known memo ws vs × Doing (memo_in known memo vs) (drop memo vs) t.rows t.frames t.now (turn b i c) × (spare ms ≡ added b c + spare (memo_in known memo vs))
      go (call m j st) y d =
          let D : State → Type 0 = Doing (memo_in known memo vs) (drop memo vs) t.rows t.frames t.now in
          let z : D (called m k st (find m.entries k)) = x.2 m st d.1 d.2 in
          let u : D (pick (b.input k) (back m (i k) st) (called m k st (find m.entries k))) = subst (λ q. D (pick q (back m (i k) st) (called m k st (find m.entries k)))) (sym p) z in
          (x.0, still vs x.1, subst (λ q. D (turn b i (call m q st))) d.0 u, as_much vs x.1)
      go (back m a st) y d = absurd d
      go (tell m j gs st) y d = absurd d
  turn_kept k p vs (Err er) x = go
    where
      go : (c : State) → Busy c → Doing ms (drop memo ws) r f (Call k) c → Grown known memo ws vs × Tight b i (length ws) (memo + (r + f)) (spare ms) c
      go (call m j st) y d = (still vs x.0, inr (x.1, (λ t. find (d.1 t) (sym d.0 t)) ∙ x.2, x.3))
      go (back m a st) y d = absurd d
      go (tell m j gs st) y d = absurd d

  pub turn_back : (n : ℕ) (vs : List ℕ) (t : Result At NoRoom) → ReturnSays (desk known memo r f) n ws vs t → TurnSays b i (desk known memo r f) (Back n) ws vs t
  turn_back n vs (Ok t) x = go
    where
      go : (c : State) → Busy c → Doing ms (drop memo ws) r f (Back n) c → Area vs (desk known memo t.rows t.frames) × Grown known memo ws vs × Doing (memo_in known memo vs) (drop memo vs) t.rows t.frames t.now (turn b i c) × (spare ms ≡ added b c + spare (memo_in known memo vs))
      go (call m j st) y d = absurd d
      go (back m a []) y d = absurd y
      go (back m a (fr ∷ st)) y d = (x.0, still vs x.1, x.2 m a fr st d, as_much vs x.1)
      go (tell m j gs st) y d = absurd d
  turn_back n vs (Err er) x = go
    where
      go : (c : State) → Busy c → Doing ms (drop memo ws) r f (Back n) c → Grown known memo ws vs × Tight b i (length ws) (memo + (r + f)) (spare ms) c
      go (call m j st) y d = absurd d
      go (back m a []) y d = absurd y
      go (back m a (fr ∷ st)) y d = (still vs x.0, x.1 m a fr st d)
      go (tell m j gs st) y d = absurd d

  pub turn_tell : (k : Key) (n from : ℕ) (vs : List ℕ) (t : Result At NoRoom) → TellSays b (desk known memo r f) (asks k n from) ws vs t → TurnSays b i (desk known memo r f) (Tell (asks k n from)) ws vs t
  turn_tell k n from vs (Ok t) x = go
    where
      go : (c : State) → Busy c → Doing ms (drop memo ws) r f (Tell (asks k n from)) c → Area vs (desk known memo t.rows t.frames) × Grown known memo ws vs × Doing (memo_in known memo vs) (drop memo vs) t.rows t.frames t.now (turn b i c) × (spare ms ≡ added b c + spare (memo_in known memo vs))
      go (call m j st) y d = absurd d
      go (back m a st) y d = absurd d
      go (tell m j gs st) y d =
          let P : Key → Type 0 = λ q. Area vs (desk known memo t.rows t.frames) × Grown known memo ws vs × Doing (memo_in known memo vs) (drop memo vs) t.rows t.frames t.now (turn b i (tell m q gs st)) × (spare ms ≡ added b (tell m q gs st) + spare (memo_in known memo vs)) in
          subst P d.0 (x m gs st (subst (λ q. Doing ms (drop memo ws) r f (Tell (asks k n from)) (tell m q gs st)) (sym d.0) d))
  turn_tell k n from vs (Err er) x = go
    where
      go : (c : State) → Busy c → Doing ms (drop memo ws) r f (Tell (asks k n from)) c → Grown known memo ws vs × Tight b i (length ws) (memo + (r + f)) (spare ms) c
      go (call m j st) y d = absurd d
      go (back m a st) y d = absurd d
      go (tell m j gs st) y d =
          let P : Key → Type 0 = λ q. Grown known memo ws vs × Tight b i (length ws) (memo + (r + f)) (spare ms) (tell m q gs st) in
          let dk = subst (λ q. Doing ms (drop memo ws) r f (Tell (asks k n from)) (tell m q gs st)) (sym d.0) d in
          let z = x m gs st dk in
          let wl = length-drop memo ws in
          let hi = area.high in
          let rw1 = (tell_row ms (drop memo ws) r f k n from m k gs st (omega (arith, wl, hi)) dk).0 in
          let e : r - from ≡ length (row (answers gs)) = omega (arith, rw1) in
          let s : Tight b i (length ws) (memo + (r + f)) (spare ms) (tell m k gs st) = elim z.1 [ inl p ↦ inl (subst (λ q. length ws < memo + (r + f) + (4096 + 256 * (q + answer_long (b.next k (answers gs))))) e p) | inr p ↦ inr p ] in
          subst P d.0 (z.0, s)
