-- The loop over turns: its invariant (Going) holds at the start, is kept by each turn, and says at each end what is promised.
use Rattle.std.proofs.Common.{◌≡◌, ℕ, suc, ◌+◌, ◌-◌, ◌*◌, ◌<◌, ◌≤◌, Bool, true, false, ◌⊎◌, List, [], ◌∷◌, length, get_or, take, drop, Some, None, sym, refl, ap, ◌∙◌, subst, inl, arith, length-drop}
use mathlib.Core.Option.{Option, some, none}
use Rattle.std.proofs.lemmas.List.{length-take-le, drop_all}
use Rattle.base.specs.Base.{pick, same}
use Rattle.engine.specs.declared.key.Key.{Key}
use Rattle.engine.specs.Engine.{Ans, Then, ask, done, Rules, Inputs, Got, Entry, Kept, Brought, brought, find, answers}
use Rattle.engine.specs.Says.{kept, signs_entries}
use Rattle.engine.specs.Theorems.{Falls, Honest}
use Rattle.engine.specs.Machine.{Frame, looks, works, State, call, back, tell, look, called, backed, told, turn, Busy, left}
use Rattle.engine.proofs.Invariant.{kept_of}
use Rattle.engine.proofs.Loops.{OnTheWay, starts, again, less, at_end}
use Rattle.engine.proofs.Logs.{Inner, inner_turn, Others, others_turn, total, done_total}
use Rattle.memo.specs.Record.{deep}
use Rattle.memo.specs.Log.{kept_entries, spare, Marked, entries_at}
use Rattle.memo.specs.declared.mark.Mark.{Mark}
use Rattle.memo.proofs.Places.{deep_long}
use Rattle.std.specs.Prelude.{Ok, Err}
use Rattle.memo.specs.declared.log.NoRoom.{NoRoom}
use Rattle.driver.specs.declared.state.At.{At}
use Rattle.driver.specs.declared.state.Now.{Now}
use Rattle.driver.specs.declared.state.Now.TheVariants.{Call, Back, Tell}
use Rattle.driver.specs.Rows.{Stack}
use Rattle.driver.specs.Says.{memo_in}
use Rattle.driver.specs.Doing.{Doing, desk, Area, Grown, stored_long}
use Rattle.driver.specs.Turns.{tellings, added, TurnSays}
use Rattle.driver.specs.Bringing.{brings, EndSays}
use Rattle.driver.proofs.Decode.{decoded, left_decoded}
use Rattle.driver.proofs.Lent.{memo_long}
use Rattle.driver.proofs.Returns.{frame_seven}
use Rattle.driver.proofs.Rooms.{long_of, state_words, goes_room, tight_room}

-- es the entries at the start, of the row ws₀, when rules had been told c₀ times and s₀ words of the memo were free; the row is ws now, rules
-- were told d times, and the machine stands at t
pub record Going (b : Rules) (i : Inputs) (k : Key) (es : List Entry) (mark : Mark) (known memo : ℕ) (ws₀ : List ℕ) (c₀ s₀ : ℕ) (ws : List ℕ) (d : ℕ) (t : At) : Type 0 where
  pub c : State
  pub way : OnTheWay b i (kept es) k c
  pub others : Others b i es (kept_of c).entries
  pub inner : Inner b c
  pub doing : Doing (memo_in known memo ws) (drop memo ws) t.rows t.frames t.now c
  pub area : Area ws (desk known memo t.rows t.frames)
  pub marked : Marked (memo_in known memo ws) mark
  pub entries1 : entries_at (memo_in known memo ws) mark ≡ es
  pub before : take known ws ≡ take known ws₀
  pub buckets : get_or (memo_in known memo ws) 2 0 ≡ get_or (memo_in known memo ws₀) 2 0
  pub count : d ≡ c₀ + (kept_of c).goes
  pub log : s₀ ≡ spare (memo_in known memo ws) + total long_of (kept_of c).entries (kept_of c).worked
  pub free : s₀ + 4 ≤ memo

take_none : (w : List ℕ) → take 0 w ≡ []
take_none [] = refl
take_none (x ∷ w) = refl

-- what is kept changes only where a rule is told
kept_look : (m : Kept) (k : Key) (e : Entry) (gs : List Got) (st : List Frame) → kept_of (look m k e gs st) ≡ m
kept_look m k e [] st = refl
kept_look m k e (g ∷ gs) st = refl

kept_call : (b : Rules) (i : Inputs) (m : Kept) (k : Key) (st : List Frame) → kept_of (turn b i (call m k st)) ≡ m
kept_call b i m k st = go (b.input k) (find m.entries k)
  where
    go : (p : Bool) (o : Option Entry) → kept_of (pick p (back m (i k) st) (called m k st o)) ≡ m
    go true o = refl
    go false none = refl
    go false (some e) = kept_look m k e e.gots st

kept_back : (m : Kept) (a : Ans) (st : List Frame) → kept_of (backed m a st) ≡ m
kept_back m a [] = refl
kept_back m a (looks k e g gs ∷ st) = go (same a g.ans)
  where
    go : (p : Bool) → kept_of (pick p (look m k e gs st) (tell m k [] st)) ≡ m
    go true = kept_look m k e gs st
    go false = refl
kept_back m a (works k gs q ∷ st) = refl

goes_turn : (b : Rules) (i : Inputs) (ms w : List ℕ) (r f : ℕ) (n : Now) (c : State) → Doing ms w r f n c → (kept_of (turn b i c)).goes ≡ (kept_of c).goes + tellings n
goes_turn b i ms w r f (Call k) (call m j st) d = let e = ap (λ (x : Kept). x.goes) (kept_call b i m j st) in omega (arith, e)
goes_turn b i ms w r f (Call k) (back m a st) d = absurd d
goes_turn b i ms w r f (Call k) (tell m j gs st) d = absurd d
goes_turn b i ms w r f (Back n) (call m j st) d = absurd d
goes_turn b i ms w r f (Back n) (back m a st) d = let e = ap (λ (x : Kept). x.goes) (kept_back m a st) in omega (arith, e)
goes_turn b i ms w r f (Back n) (tell m j gs st) d = absurd d
goes_turn b i ms w r f (Tell q) (call m j st) d = absurd d
goes_turn b i ms w r f (Tell q) (back m a st) d = absurd d
goes_turn b i ms w r f (Tell q) (tell m j gs st) d = go (b.next j (answers gs))
  where
    go : (t : Then) → (kept_of (told m j gs st t)).goes ≡ m.goes + 1
    go (done a) = refl
    go (ask q) = refl

module _ (b : Rules) (i : Inputs) (fall : Falls b) (k : Key) (es : List Entry) where
  log_turn : (c : State) → OnTheWay b i (kept es) k c → total long_of (kept_of (turn b i c)).entries (kept_of (turn b i c)).worked ≡ total long_of (kept_of c).entries (kept_of c).worked + added b c
  log_turn (call m j st) w = let e = ap (λ (x : Kept). total long_of x.entries x.worked) (kept_call b i m j st) in omega (arith, e)
  log_turn (back m a st) w = let e = ap (λ (x : Kept). total long_of x.entries x.worked) (kept_back m a st) in omega (arith, e)
  log_turn (tell m j gs st) w = go (b.next j (answers gs))
    where
      go : (t : Then) → total long_of (kept_of (told m j gs st t)).entries (kept_of (told m j gs st t)).worked ≡ total long_of m.entries m.worked + stored_long j gs t
      go (done a) = done_total b i fall es k long_of m j gs st a w
      go (ask q) = omega arith

  pub going_starts : (mark : Mark) (known memo : ℕ) (ws : List ℕ) (c₀ : ℕ) → Area ws (desk known memo 0 0) → kept_entries (memo_in known memo ws) ≡ es → Honest b (kept es) → b.input k ≡ false → Marked (memo_in known memo ws) mark → entries_at (memo_in known memo ws) mark ≡ kept_entries (memo_in known memo ws)
      → Going b i k es mark known memo ws c₀ (spare (memo_in known memo ws)) ws c₀ (record { rows = 0; frames = 0; now = Call k })
  unfolding spare
  going_starts mark known memo ws c₀ area e h p mk em =
      let w = drop memo ws in
      let ms = memo_in known memo ws in
      let none1 : deep 0 w ≡ [] = drop_all (length w - 0) w (omega arith) in
      let bu = area.fits.buckets in
      let ro = area.fits.room in
      let lo = area.low in
      let hi = area.high in
      let ml = memo_long ws known memo lo (omega (arith, hi)) in
      record {
        c = call (kept es) k [];
        way = starts b i fall (kept es) k h;
        others = λ j. inl refl;
        inner = p;
        doing = (refl, sym e, (take_none w, none1));
        area = area;
        marked = mk;
        entries1 = em ∙ e;
        before = refl;
        buckets = refl;
        count = omega arith;
        log = omega arith;
        free = omega (arith, bu, ro, lo, ml);
      }

  module _ (mark : Mark) (known memo : ℕ) (ws₀ : List ℕ) (c₀ s₀ : ℕ) (ws : List ℕ) (d : ℕ) (t : At) (g : Going b i k es mark known memo ws₀ c₀ s₀ ws d t) where
    words : (t.rows ≤ length (drop memo ws)) × (t.frames ≤ length (drop memo ws)) × (length ws ≡ memo + length (drop memo ws))
    words = let hi = g.area.high in let l = length-drop memo ws in (omega (arith, hi, l), omega (arith, hi, l), omega (arith, hi, l))

    -- not ended, so there is a turn to make
    pub going_busy : EndSays t None → Busy g.c
    going_busy e = go t.now refl g.c g.doing
      where
        at_end1 : (n : ℕ) → t.now ≡ Back n → (rows : List ℕ) → Stack (memo_in known memo ws) rows (deep t.frames (drop memo ws)) [] → ⊥
        at_end1 n p rows s = let l = deep_long (drop memo ws) t.frames words.1 in let z = ap length s.1 in e n p (omega (arith, l, z))

        go : (n : Now) → t.now ≡ n → (c : State) → Doing (memo_in known memo ws) (drop memo ws) t.rows t.frames n c → Busy c
        go (Call q) p (call m j st) x = tt
        go (Call q) p (back m a st) x = absurd x
        go (Call q) p (tell m j gs st) x = absurd x
        go (Back n) p (call m j st) x = absurd x
        go (Back n) p (back m a []) x = at_end1 n p _ x.4
        go (Back n) p (back m a (fr ∷ st)) x = tt
        go (Back n) p (tell m j gs st) x = absurd x
        go (Tell q) p (call m j st) x = absurd x
        go (Tell q) p (back m a st) x = absurd x
        go (Tell q) p (tell m j gs st) x = tt

    -- how often rules were told is within the words of the row, with one telling to spare
    pub going_count : d + 1 ≤ c₀ + length ws
    going_count =
        let x = (state_words (memo_in known memo ws) (drop memo ws) t.rows t.frames t.now g.c words.0 words.1 g.doing).1 in
        let y = goes_room b i fall es k g.c g.way t.frames x in
        let z = g.log in
        let u = g.free in
        let v = g.count in
        let f = words.1 in
        let l = words.2 in
        omega (arith, y, z, u, v, f, l)

    -- a turn made
    pub going_turn : (vs : List ℕ) (s : At) (d1 : ℕ) → EndSays t None → TurnSays b i (desk known memo t.rows t.frames) t.now ws vs (Ok s) → d1 ≡ d + tellings t.now → Going b i k es mark known memo ws₀ c₀ s₀ vs d1 s
    going_turn vs s d1 e x p =
        let y = x g.c (going_busy e) g.doing in
        let gr = y.1 in
        let mk = gr.keeps.marks mark g.marked in
        let q = goes_turn b i (memo_in known memo ws) (drop memo ws) t.rows t.frames t.now g.c g.doing in
        let lt = log_turn g.c g.way in
        let sp = y.3 in
        let lg = g.log in
        let ct = g.count in
        record {
          c = turn b i g.c;
          way = again b i fall (kept es) k g.c g.way;
          others = others_turn b i fall (suc (b.rank k)) [] 0 es g.c g.way.holds g.others;
          inner = inner_turn b i g.c;
          doing = y.2;
          area = y.0;
          marked = mk.0;
          entries1 = mk.1 ∙ g.entries1;
          before = gr.before ∙ g.before;
          buckets = gr.buckets ∙ g.buckets;
          count = omega (arith, p, q, ct);
          log = omega (arith, lt, sp, lg);
          free = g.free;
        }

    -- fewer turns are left after it
    pub going_less : (vs : List ℕ) (s : At) → EndSays t None → TurnSays b i (desk known memo t.rows t.frames) t.now ws vs (Ok s)
        → left b i (suc (b.rank k)) (decoded (memo_in known memo vs) (drop memo vs) s.rows s.frames s.now) < left b i (suc (b.rank k)) (decoded (memo_in known memo ws) (drop memo ws) t.rows t.frames t.now)
    going_less vs s e x =
        let y = x g.c (going_busy e) g.doing in
        let n = suc (b.rank k) in
        let a = left_decoded b i n (memo_in known memo ws) (drop memo ws) t.rows t.frames t.now g.c g.doing in
        let z = left_decoded b i n (memo_in known memo vs) (drop memo vs) s.rows s.frames s.now (turn b i g.c) y.2 in
        let l = less b i fall (kept es) k g.c g.way (going_busy e) in
        omega (arith, a, z, l)

    -- no turn made, for want of room
    pub going_stops : (er : NoRoom) (vs : List ℕ) → EndSays t None → TurnSays b i (desk known memo t.rows t.frames) t.now ws vs (Err er) → Grown known memo ws vs × ((s₀ < signs_entries (brings b i k es).kept.entries) ⊎ (length ws < memo + (65536 + 512 * (signs_entries es + signs_entries (brings b i k es).kept.entries))))
    unfolding brings
    going_stops er vs e x =
        let y = x g.c (going_busy e) g.doing in
        let z = (state_words (memo_in known memo ws) (drop memo ws) t.rows t.frames t.now g.c words.0 words.1 g.doing).0 in
        (y.0, tight_room b i fall es k g.c g.way g.others g.inner memo (t.rows + t.frames) (length ws) s₀ (spare (memo_in known memo ws)) z g.log y.1)

  -- the end: what came of it
  pub record Ended (known memo : ℕ) (c₀ : ℕ) (ws : List ℕ) (d r n : ℕ) : Type 0 where
    pub none1 : r ≡ 0
    pub room : r + 1 + n ≤ length (drop memo ws)
    pub long : n ≡ length (brings b i k es).ans
    pub is : take n (drop (r + 1) (drop memo ws)) ≡ (brings b i k es).ans
    pub entries1 : kept_entries (memo_in known memo ws) ≡ (brings b i k es).kept.entries
    pub count : d ≡ c₀ + (brings b i k es).kept.goes

  pub going_ends : (mark : Mark) (known memo : ℕ) (ws₀ : List ℕ) (c₀ s₀ : ℕ) (ws : List ℕ) (d : ℕ) (t : At) (g : Going b i k es mark known memo ws₀ c₀ s₀ ws d t) (n : ℕ) → EndSays t (Some n) → Ended known memo c₀ ws d t.rows n
  unfolding brings
  going_ends mark known memo ws₀ c₀ s₀ ws d t g n e =
      go g.c g.way g.count (subst (λ x. Doing (memo_in known memo ws) (drop memo ws) t.rows t.frames x g.c) e.0 g.doing)
    where
      go : (c : State) → OnTheWay b i (kept es) k c → d ≡ c₀ + (kept_of c).goes → Doing (memo_in known memo ws) (drop memo ws) t.rows t.frames (Back n) c → Ended known memo c₀ ws d t.rows n
      go (call m j st) y q x = absurd x
      go (tell m j gs st) y q x = absurd x
      go (back m a (fr ∷ st)) y q x =
          let s = frame_seven _ _ _ fr st x.4 in
          let wd = (words mark known memo ws₀ c₀ s₀ ws d t g).1 in
          let l = deep_long (drop memo ws) t.frames wd in
          let z = e.1 in
          absurd (omega (arith, s, l, z))
      go (back m a []) y q x =
          let z : brought m a ≡ brings b i k es = at_end b i fall (kept es) k m a y in
          let r0 = ap length x.4.0 in
          let rl = length-take-le t.rows (drop memo ws) (words mark known memo ws₀ c₀ s₀ ws d t g).0 in
          let rm = x.2 in
          record {
            none1 = omega (arith, r0, rl);
            room = omega (arith, rm);
            long = x.0 ∙ ap (λ (v : Brought). length v.ans) z;
            is = x.1 ∙ ap (λ (v : Brought). v.ans) z;
            entries1 = sym x.3 ∙ ap (λ (v : Brought). v.kept.entries) z;
            count = q ∙ ap (λ (v : Brought). c₀ + v.kept.goes) z;
          }
