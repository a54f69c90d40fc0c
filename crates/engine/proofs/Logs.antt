-- What is kept on the way, for code that adds a record for each key that is worked out: an entry is one of before or is settled (Others), so it
-- takes no more words than the entries before and at the end (found_room); and what was added is what the keys worked out so far take
-- (total, done_total).
use Rattle.std.proofs.Common.{◌≡◌, ℕ, suc, ◌+◌, ◌≤◌, Bool, true, false, ◌⊎◌, List, [], ◌∷◌, ◌++◌, sym, refl, ap, ◌∙◌, subst, inl, inr, append-nil, arith}
use mathlib.Core.Option.{Option, some, none}
use Rattle.engine.specs.declared.key.Key.{Key}
use Rattle.base.specs.Base.{pick, same}
use Rattle.engine.specs.Engine.{Ans, Then, ask, done, Rules, Inputs, Got, Entry, Kept, Brought, bring, find, store, answers}
use Rattle.engine.specs.Says.{kept, signs_entries}
use Rattle.engine.specs.Theorems.{Falls, Asked, ends, Among, here, there, blank, another, Settled, tally, told_of}
use Rattle.engine.specs.Machine.{Frame, looks, works, State, call, back, tell, look, called, told, turn, mean, pending}
use Rattle.engine.proofs.Basics.{find_here, find_apart}
use Rattle.engine.proofs.Steps.{stale_not, stored}
use Rattle.engine.proofs.Sizes.{size_of, sizes, sizes_signs}
use Rattle.engine.proofs.Invariant.{Holds, kept_of, settled_turn}
use Rattle.engine.proofs.Stacks.{stays, entered_size}
use Rattle.engine.proofs.Room.{future}
use Rattle.engine.proofs.Loops.{OnTheWay, fits}

-- a key called with an empty stack is no input
abbrev pub Inner : Rules → State → Type 0
Inner r (call m k []) = r.input k ≡ false
Inner r (call m k (fr ∷ st)) = Unit {0}
Inner r (back m a st) = Unit {0}
Inner r (tell m k gs st) = Unit {0}

module _ (r : Rules) (i : Inputs) where
  inner_look : (m : Kept) (k : Key) (e : Entry) (gs : List Got) (st : List Frame) → Inner r (look m k e gs st)
  inner_look m k e [] st = tt
  inner_look m k e (g ∷ gs) st = tt

  pub inner_turn : (c : State) → Inner r (turn r i c)
  inner_turn (call m k st) = go (r.input k) (find m.entries k)
    where
      go : (b : Bool) (o : Option Entry) → Inner r (pick b (back m (i k) st) (called m k st o))
      go true o = tt
      go false none = tt
      go false (some e) = inner_look m k e e.gots st
  inner_turn (back m a []) = tt
  inner_turn (back m a (looks k e g gs ∷ st)) = go (same a g.ans)
    where
      go : (b : Bool) → Inner r (pick b (look m k e gs st) (tell m k [] st))
      go true = inner_look m k e gs st
      go false = tt
  inner_turn (back m a (works k gs q ∷ st)) = tt
  inner_turn (tell m k gs st) = go (r.next k (answers gs))
    where
      go : (t : Then) → Inner r (told m k gs st t)
      go (done a) = tt
      go (ask q) = tt

-- an entry is as it was, or settled
abbrev pub Others : Rules → Inputs → List Entry → List Entry → Type 0
Others r i es fs = (j : Key) → (find fs j ≡ find es j) ⊎ Settled r i fs j

module _ (r : Rules) (i : Inputs) (fall : Falls r) (n : ℕ) (ws : List Key) (g₀ : ℕ) where
  others_one : (c : State) → Holds r i n ws g₀ c → Others r i (kept_of c).entries (kept_of (turn r i c)).entries
  others_one (call m k st) h j = go (r.input k) (find m.entries k)
    where
      looking : (e : Entry) (gs : List Got) → (find (kept_of (look m k e gs st)).entries j ≡ find m.entries j) ⊎ Settled r i (kept_of (look m k e gs st)).entries j
      looking e [] = inl refl
      looking e (g ∷ gs) = inl refl

      go : (b : Bool) (o : Option Entry) → (find (kept_of (pick b (back m (i k) st) (called m k st o))).entries j ≡ find m.entries j) ⊎ Settled r i (kept_of (pick b (back m (i k) st) (called m k st o))).entries j
      go true o = inl refl
      go false none = inl refl
      go false (some e) = looking e e.gots
  others_one (back m a []) h j = inl refl
  others_one (back m a (looks k e g gs ∷ st)) h j = go (same a g.ans) gs
    where
      go : (b : Bool) (gs : List Got) → (find (kept_of (pick b (look m k e gs st) (tell m k [] st))).entries j ≡ find m.entries j) ⊎ Settled r i (kept_of (pick b (look m k e gs st) (tell m k [] st))).entries j
      go true [] = inl refl
      go true (x ∷ xs) = inl refl
      go false xs = inl refl
  others_one (back m a (works k gs q ∷ st)) h j = inl refl
  others_one (tell m k gs st) h j = go (r.next k (answers gs)) refl
    where
      go : (t : Then) → r.next k (answers gs) ≡ t → (find (kept_of (told m k gs st t)).entries j ≡ find m.entries j) ⊎ Settled r i (kept_of (told m k gs st t)).entries j
      go (done a) e =
          let o = h.at1.1 in
          let asked : Asked (r.next k) [] gs a = rw append-nil at (o.part [] a (ends e)) in
          let s = stored r i fall m.entries m.worked (record { key = k; ans = a; gots = gs }) h.since.fair asked o.right o.settled o.stale in
          elim (s.others j) [ inl x ↦ inr (s.after j x) | inr x ↦ inl x ]
      go (ask q) e = inl refl

  pub others_turn : (es : List Entry) (c : State) → Holds r i n ws g₀ c → Others r i es (kept_of c).entries → Others r i es (kept_of (turn r i c)).entries
  others_turn es c h o j = elim (others_one c h j) [ inr x ↦ inr x | inl x ↦ elim (o j) [ inl y ↦ inl (x ∙ y) | inr y ↦ inr (settled_turn r i fall n ws g₀ c h j y) ] ]

-- what the entries of some keys come to, each by h
abbrev pub total : (Option Entry → ℕ) → List Entry → List Key → ℕ
total h es [] = 0
total h es (j ∷ js) = h (find es j) + total h es js

pub total_less : (h g : Option Entry → ℕ) → ((o : Option Entry) → h o ≤ g o) → (es : List Entry) (js : List Key) → total h es js ≤ total g es js
total_less h g l es [] = omega arith
total_less h g l es (j ∷ js) = let a = total_less h g l es js in let b = l (find es j) in omega (arith, a, b)

pub total_sizes : (es : List Entry) (js : List Key) → total size_of es js ≡ sizes es js
total_sizes es [] = refl
total_sizes es (j ∷ js) = let h = total_sizes es js in omega arith

pub total_tally : (es : List Entry) (js : List Key) → total told_of es js ≡ tally es js
total_tally es [] = refl
total_tally es (j ∷ js) = let h = total_tally es js in omega arith

total_same : (h : Option Entry → ℕ) (es fs : List Entry) (js : List Key) → ((j : Key) → Among j js → find fs j ≡ find es j) → total h fs js ≡ total h es js
total_same h es fs [] x = refl
total_same h es fs (j ∷ js) x = let a = ap h (x j here) in let b = total_same h es fs js (λ l y. x l (there y)) in omega (arith, a, b)

total_push : (h : Option Entry → ℕ) (es : List Entry) (js : List Key) (k : Key) → total h es (js ++ (k ∷ [])) ≡ total h es js + h (find es k)
total_push h es [] k = omega arith
total_push h es (j ∷ js) k = let a = total_push h es js k in omega (arith, a)

module _ (r : Rules) (i : Inputs) (fall : Falls r) (es : List Entry) (k : Key) where
  abbrev n : ℕ
  n = suc (r.rank k)

  abbrev fs : List Entry
  fs = (bring r i n (kept es) k).kept.entries

  -- an entry that is found on the way takes no more words than the entries before and at the end
  pub found_room : (c : State) → OnTheWay r i (kept es) k c → Others r i es (kept_of c).entries → (q : Key) (e : Entry) → find (kept_of c).entries q ≡ some e → size_of (some e) ≤ signs_entries es + signs_entries fs
  found_room c w o q e f = elim (o q) [ inl x ↦ before x | inr x ↦ after x ]
    where
      within : (ds : List Entry) → size_of (find ds q) ≤ signs_entries ds
      within ds = let a = sizes_signs ds (q ∷ []) (another (λ x. elim x [ ]) blank) in omega (arith, a)

      before : find (kept_of c).entries q ≡ find es q → size_of (some e) ≤ signs_entries es + signs_entries fs
      before x = let a = ap size_of (sym f ∙ x) in let b = within es in omega (arith, a, b)

      after : Settled r i (kept_of c).entries q → size_of (some e) ≤ signs_entries es + signs_entries fs
      after x =
          let l : size_of (some e) ≤ size_of (some e) = omega arith in
          let y = stays r i n (kept_of c) (mean r i n c) q (size_of (some e)) (future r i fall n [] 0 c w.holds) x (e, f, l) in
          let z = entered_size (mean r i n c).kept.entries q (size_of (some e)) y in
          let u = within (mean r i n c).kept.entries in
          let v = ap (λ (b : Brought). signs_entries b.kept.entries) w.comes in
          omega (arith, z, u, v)

  -- the keys that were worked out so far
  worked_js : (c : State) (w : OnTheWay r i (kept es) k c) → (kept_of c).worked ≡ w.holds.since.js
  worked_js c w = w.holds.since.worked

  pub worked_room : (c : State) → OnTheWay r i (kept es) k c → total size_of (kept_of c).entries (kept_of c).worked ≤ signs_entries fs
  worked_room c w =
      let a = fits r i fall (kept es) k c w in
      let b = total_sizes (kept_of c).entries (kept_of c).worked in
      let e = ap (sizes (kept_of c).entries) (worked_js c w) in
      omega (arith, a, b, e)

  pub goes_tally : (c : State) → OnTheWay r i (kept es) k c → (kept_of c).goes ≡ total told_of (kept_of c).entries (kept_of c).worked + pending c
  goes_tally c w =
      let a = w.holds.since.told in
      let b = total_tally (kept_of c).entries (kept_of c).worked in
      let e = ap (tally (kept_of c).entries) (worked_js c w) in
      omega (arith, a, b, e)

  -- a rule that is done adds its entry to them
  pub done_total : (h : Option Entry → ℕ) (m : Kept) (q : Key) (gs : List Got) (st : List Frame) (a : Ans) → OnTheWay r i (kept es) k (tell m q gs st)
      → total h (store (record { key = q; ans = a; gots = gs }) m.entries) (m.worked ++ (q ∷ [])) ≡ total h m.entries m.worked + h (some (record { key = q; ans = a; gots = gs }))
  done_total h m q gs st a w =
      let en : Entry = record { key = q; ans = a; gots = gs } in
      let t = w.holds.at1.1 in
      let z = w.holds.since in
      let apart : (j : Key) → Among j m.worked → q ≡ j → ⊥ = λ j x y. stale_not r i m.entries q t.stale (subst (Settled r i m.entries) (sym y) (z.settled j (subst (Among j) z.worked x))) in
      let p = total_push h (store en m.entries) m.worked q in
      let s = total_same h m.entries (store en m.entries) m.worked (λ j x. find_apart en m.entries j (apart j x)) in
      let f = ap h (find_here en m.entries) in
      omega (arith, p, s, f)
