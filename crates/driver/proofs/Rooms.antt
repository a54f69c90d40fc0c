-- Room: the words of the stack are no more than its signs (state_words), and a turn for which there is too little room shows that one of the
-- rows was too short (tight_room). How often rules were told is within the words of the row (goes_room).
use Rattle.std.proofs.Common.{◌≡◌, ℕ, suc, ◌+◌, ◌*◌, ◌<◌, ◌≤◌, ◌⊎◌, List, [], ◌∷◌, ◌++◌, length, take, ap, subst, inl, inr, arith, length-append}
use mathlib.Core.Option.{Option, some, none}
use Rattle.std.proofs.lemmas.List.{length-take-le}
use Rattle.std.proofs.lemmas.Bool.{both_ways}
use Rattle.base.specs.Base.{pick}
use Rattle.engine.specs.declared.key.Key.{Key}
use Rattle.engine.specs.Engine.{Ans, Then, done, Rules, Inputs, Got, Entry, Kept, bring, find, store, answers}
use Rattle.engine.specs.Says.{row, kept, signs_gots, signs_entries}
use Rattle.engine.specs.Theorems.{Falls, told_of}
use Rattle.engine.specs.Machine.{Frame, looks, works, State, call, back, tell, called, told, pending_in, pending, stack_signs, state_signs}
use Rattle.engine.proofs.Sizes.{size_of}
use Rattle.engine.proofs.Longest.{row_signs}
use Rattle.engine.proofs.Invariant.{kept_of}
use Rattle.engine.proofs.Loops.{OnTheWay, again, stack_room, back_room, narrow_room}
use Rattle.engine.proofs.Logs.{Inner, Others, total, total_less, found_room, worked_room, goes_tally, done_total}
use Rattle.memo.specs.Record.{deep, gots_long, entry_long, made}
use Rattle.memo.proofs.Places.{deep_long}
use Rattle.driver.specs.declared.state.Now.{Now}
use Rattle.driver.specs.declared.state.Now.TheVariants.{Call, Back, Tell}
use Rattle.driver.specs.Rows.{Stack}
use Rattle.driver.specs.Doing.{Doing}
use Rattle.driver.specs.Turns.{Tight}
use Rattle.driver.proofs.Asked.{stacked_long}

-- a row and the keys that were asked, in words and in signs
asked_words : (gs : List Got) → length (row (answers gs)) + 3 * length gs ≤ signs_gots gs
asked_words [] = omega arith
asked_words (g ∷ gs) = let h = asked_words gs in let l = length-append g.ans (row (answers gs)) in omega (arith, h, l)

stack_words : (ms rows fs : List ℕ) (st : List Frame) → Stack ms rows fs st → (length rows + length fs ≤ stack_signs st) × (pending_in st ≤ length fs)
stack_words ms rows fs [] s = let a = ap length s.0 in let b = ap length s.1 in (omega (arith, a, b), omega arith)
stack_words ms rows fs (looks k e g gs ∷ st) s =
    let h = stack_words ms rows s.0 st s.2 in
    let h0 = h.0 in
    let h1 = h.1 in
    let a = ap length s.1.words in
    (omega (arith, h0, a), omega (arith, h1, a))
stack_words ms rows fs (works k gs q ∷ st) s =
    let h = stack_words ms s.0 s.1 st s.3 in
    let h0 = h.0 in
    let h1 = h.1 in
    let a = ap length s.2.words in
    let b = stacked_long gs s.1 in
    let r = ap length s.2.row1 in
    let l = length-append s.0 (row (answers gs)) in
    let w = asked_words gs in
    (omega (arith, h0, a, b, r, l, w), omega (arith, h1, a, b))

-- the words of a state
pub state_words : (ms w : List ℕ) (r f : ℕ) (t : Now) (c : State) → r ≤ length w → f ≤ length w → Doing ms w r f t c → (r + f ≤ state_signs c) × (pending c ≤ f)
state_words ms w r f t c hr hf d = go t c d
  where
    lr : length (take r w) ≡ r
    lr = length-take-le r w hr

    lf : length (deep f w) ≡ f
    lf = deep_long w f hf

    plain : (st : List Frame) → Stack ms (take r w) (deep f w) st → (r + f ≤ stack_signs st) × (pending_in st ≤ f)
    plain st s =
        let h = stack_words ms (take r w) (deep f w) st s in
        let h0 = h.0 in
        let h1 = h.1 in
        let a = lr in
        let b = lf in
        (omega (arith, h0, a, b), omega (arith, h1, b))

    go : (t : Now) (c : State) → Doing ms w r f t c → (r + f ≤ state_signs c) × (pending c ≤ f)
    go (Call k) (call m j st) d = plain st d.2
    go (Call k) (back m a st) d = absurd d
    go (Call k) (tell m j gs st) d = absurd d
    go (Back n) (call m j st) d = absurd d
    go (Back n) (back m a st) d = plain st d.4
    go (Back n) (tell m j gs st) d = absurd d
    go (Tell q) (call m j st) d = absurd d
    go (Tell q) (back m a st) d = absurd d
    go (Tell q) (tell m j gs st) d =
        let z = d.3 in
        let h = stack_words ms z.vs z.us st z.below in
        let h0 = h.0 in
        let h1 = h.1 in
        let e = ap length z.keys1 in
        let b = stacked_long gs z.us in
        let x = ap length z.row1 in
        let l = length-append z.vs (row (answers gs)) in
        let w1 = asked_words gs in
        let a = lr in
        let q = lf in
        (omega (arith, h0, e, b, x, l, w1, a, q), omega (arith, h1, e, b, q))

-- the words of an entry's record
abbrev pub long_of : Option Entry → ℕ
long_of none = 0
long_of (some e) = entry_long e

gots_less : (gs : List Got) → (gots_long gs ≤ signs_gots gs) × (length gs ≤ gots_long gs)
gots_less [] = (omega arith, omega arith)
gots_less (g ∷ gs) = let h = gots_less gs in let h0 = h.0 in let h1 = h.1 in (omega (arith, h0), omega (arith, h1))

long_size : (o : Option Entry) → long_of o ≤ size_of o
long_size none = omega arith
long_size (some e) = let h = (gots_less e.gots).0 in omega (arith, h)

told_long : (o : Option Entry) → told_of o ≤ long_of o
told_long none = omega arith
told_long (some e) = let h = (gots_less e.gots).1 in omega (arith, h)

module _ (b : Rules) (i : Inputs) (fall : Falls b) (es : List Entry) (k : Key) where
  abbrev fs : List Entry
  fs = (bring b i (suc (b.rank k)) (kept es) k).kept.entries

  -- how often rules were told, by the words that were put into the memo and the words of frames
  pub goes_room : (c : State) → OnTheWay b i (kept es) k c → (f : ℕ) → pending c ≤ f → (kept_of c).goes ≤ total long_of (kept_of c).entries (kept_of c).worked + f
  goes_room c w f p =
      let a = goes_tally b i fall es k c w in
      let l = total_less told_of long_of told_long (kept_of c).entries (kept_of c).worked in
      omega (arith, a, l, p)

  -- a record that doesn't go in, with those that were put in so far, takes more than there was at first
  done_room : (m : Kept) (q : Key) (gs : List Got) (st : List Frame) (a : Ans) (s0 s : ℕ) → OnTheWay b i (kept es) k (tell m q gs st) → b.next q (answers gs) ≡ done a → s0 ≡ s + total long_of m.entries m.worked → s < entry_long (made q a gs) → s0 < signs_entries fs
  done_room m q gs st a s0 s w e l t =
      let en : Entry = made q a gs in
      let w2 : OnTheWay b i (kept es) k (told m q gs st (done a)) = subst (λ (y : Then). OnTheWay b i (kept es) k (told m q gs st y)) e (again b i fall (kept es) k (tell m q gs st) w) in
      let x = worked_room b i fall es k (told m q gs st (done a)) w2 in
      let y = total_less long_of size_of long_size (store en m.entries) (m.worked ++ (q ∷ [])) in
      let z = done_total b i fall es k long_of m q gs st a w in
      omega (arith, l, t, x, y, z)

  -- too little room for a turn: the work area was too short (all of the row has x words, memo of them before the work area), or the memo
  pub tight_room : (c : State) → OnTheWay b i (kept es) k c → Others b i es (kept_of c).entries → Inner b c → (memo y x s0 s : ℕ) → y ≤ state_signs c → s0 ≡ s + total long_of (kept_of c).entries (kept_of c).worked → Tight b i x (memo + y) s c
      → (s0 < signs_entries fs) ⊎ (x < memo + (65536 + 512 * (signs_entries es + signs_entries fs)))
  tight_room (call m q []) w o n memo y x s0 s h l (inl t) = absurd (both_ways _ n t.0)
  tight_room (call m q (fr ∷ st)) w o n memo y x s0 s h l (inl t) =
      let w2 : OnTheWay b i (kept es) k (back m (i q) (fr ∷ st)) = subst (λ z. OnTheWay b i (kept es) k (pick z (back m (i q) (fr ∷ st)) (called m q (fr ∷ st) (find m.entries q)))) t.0 (again b i fall (kept es) k (call m q (fr ∷ st)) w) in
      let a = back_room b i fall (kept es) k m (i q) fr st w2 in
      let r = stack_room b i fall (kept es) k (call m q (fr ∷ st)) w in
      let u = t.1 in
      inr (omega (arith, a, r, u, h))
  tight_room (call m q []) w o n memo y x s0 s h l (inr t) =
      let a = found_room b i fall es k (call m q []) w o q t.0 t.1 in
      let r = stack_room b i fall (kept es) k (call m q []) w in
      let u = t.2 in
      inr (omega (arith, a, r, u, h))
  tight_room (call m q (fr ∷ st)) w o n memo y x s0 s h l (inr t) =
      let a = found_room b i fall es k (call m q (fr ∷ st)) w o q t.0 t.1 in
      let r = stack_room b i fall (kept es) k (call m q (fr ∷ st)) w in
      let u = t.2 in
      inr (omega (arith, a, r, u, h))
  tight_room (back m a []) w o n memo y x s0 s h l t = absurd t
  tight_room (back m a (looks q e g gs ∷ st)) w o n memo y x s0 s h l t =
      let z = found_room b i fall es k (back m a (looks q e g gs ∷ st)) w o q e w.holds.at1.3.0.found in
      let r = stack_room b i fall (kept es) k (back m a (looks q e g gs ∷ st)) w in
      inr (omega (arith, z, r, t, h))
  tight_room (back m a (works q gs j ∷ st)) w o n memo y x s0 s h l t =
      let r = stack_room b i fall (kept es) k (back m a (works q gs j ∷ st)) w in
      inr (omega (arith, r, t, h))
  tight_room (tell m q gs st) w o n memo y x s0 s h l (inl t) =
      let r = narrow_room b i fall (kept es) k m q gs st w in
      let a = row_signs gs in
      inr (omega (arith, r, a, t, h))
  tight_room (tell m q gs st) w o n memo y x s0 s h l (inr t) = inl (done_room m q gs st t.0 s0 s w t.1 l t.2)
