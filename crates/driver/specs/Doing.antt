-- What the words and the state between turns stand for, as a state of the machine. ms is the memo, w the work area, with r words of rows
-- and f words of frames.
use Rattle.std.specs.Prelude.{◌≡◌, ℕ, ◌+◌, ◌-◌, ◌*◌, ◌<◌, ◌≤◌, ◌⊎◌, List, ◌∷◌, length, take, drop, Result, Ok, Err, slice_index}
use Rattle.std.proofs.Math.Option.{some}
use Rattle.engine.specs.declared.key.Key.{Key}
use Rattle.engine.specs.Engine.{Ans, Then, ask, done, Rules, answers, Kept, Entry, Got, find}
use Rattle.engine.specs.Says.{answer_long}
use Rattle.engine.specs.declared.rules.Turn.{Turn}
use Rattle.engine.specs.declared.rules.Turn.TheVariants.{Ask, Done, Narrow}
use Rattle.engine.specs.Machine.{Frame, looks, works, State, call, back, tell, look, called, backed, told}
use Rattle.memo.specs.Record.{deep, entry_long, made}
use Rattle.memo.specs.Log.{Fits, kept_entries, entry_at, spare}
use Rattle.memo.specs.Says.{Keeps}
use Rattle.memo.specs.declared.log.NoRoom.{NoRoom}
use Rattle.driver.specs.declared.state.Told.{Told}
use Rattle.driver.specs.declared.state.Desk.{Desk}
use Rattle.driver.specs.declared.state.Now.{Now}
use Rattle.driver.specs.declared.state.At.{At}
use Rattle.driver.specs.declared.state.Now.TheVariants.{Call, Back, Tell}
use Rattle.driver.specs.Rows.{Stack, Telling}
use Rattle.driver.specs.Says.{memo_in}

-- where the machine stands: a key is to be brought; an answer of n words came back, one word behind the newest row; a rule is to be told
-- n answers, whose row begins at a word
abbrev pub Doing : List ℕ → List ℕ → ℕ → ℕ → Now → State → Type 0
Doing ms w r f (Call k) (call m j st) = (k ≡ j) × (m.entries ≡ kept_entries ms) × Stack ms (take r w) (deep f w) st
Doing ms w r f (Call k) (back m a st) = ⊥
Doing ms w r f (Call k) (tell m j gs st) = ⊥
Doing ms w r f (Back n) (call m j st) = ⊥
Doing ms w r f (Back n) (back m a st) = (n ≡ length a) × (take n (drop (r + 1) w) ≡ a) × (r + 1 + n + f ≤ length w) × (m.entries ≡ kept_entries ms) × Stack ms (take r w) (deep f w) st
Doing ms w r f (Back n) (tell m j gs st) = ⊥
Doing ms w r f (Tell t) (call m j st) = ⊥
Doing ms w r f (Tell t) (back m a st) = ⊥
Doing ms w r f (Tell t) (tell m j gs st) = (t.key ≡ j) × (t.count ≡ length gs) × (m.entries ≡ kept_entries ms) × Telling ms (take r w) (deep f w) t.from gs st

-- where things stand in a row, and a rule that is to be told, by their numbers
abbrev pub desk : ℕ → ℕ → ℕ → ℕ → Desk
desk known memo r f = record { known = known; memo = memo; rows = r; frames = f }

abbrev pub asks : Key → ℕ → ℕ → Told
asks k n from = record { key = k; count = n; from = from }

-- the row is in order: inputs up to known, the memo up to memo, and the words of rows and of frames in the work area
pub record Area (ws : List ℕ) (s : Desk) : Type 0 where
  pub low : s.known ≤ s.memo
  pub high : s.memo + (s.rows + s.frames) ≤ length ws
  pub small : length ws < 4294967296
  pub fits : Fits (memo_in s.known s.memo ws)

-- a key's entry at the depth d looked at from its i-th question on: where the machine stands then; or there was too little room
abbrev pub LookSays : Desk → Key → ℕ → ℕ → List ℕ → List ℕ → Result At NoRoom → Type 0
LookSays s k d i ws vs (Ok t) = Area vs (desk s.known s.memo t.rows t.frames) × (take s.memo vs ≡ take s.memo ws) × ((m : Kept) (e : Entry) (gs : List Got) (st : List Frame) → entry_at (memo_in s.known s.memo ws) d ≡ e → drop i e.gots ≡ gs → m.entries ≡ kept_entries (memo_in s.known s.memo ws) → Stack (memo_in s.known s.memo ws) (take s.rows (drop s.memo ws)) (deep s.frames (drop s.memo ws)) st → Doing (memo_in s.known s.memo vs) (drop s.memo vs) t.rows t.frames t.now (look m k e gs st))
LookSays s k d i ws vs (Err x) = (take s.memo vs ≡ take s.memo ws) × (length ws < s.memo + (s.rows + s.frames) + (7 + length (entry_at (memo_in s.known s.memo ws) d).ans))

-- a key that is no input is to be brought: where the machine stands then; or its entry's answer doesn't go in
abbrev pub CallSays : Desk → Key → List ℕ → List ℕ → Result At NoRoom → Type 0
CallSays s k ws vs (Ok t) = Area vs (desk s.known s.memo t.rows t.frames) × (take s.memo vs ≡ take s.memo ws) × ((m : Kept) (st : List Frame) → m.entries ≡ kept_entries (memo_in s.known s.memo ws) → Stack (memo_in s.known s.memo ws) (take s.rows (drop s.memo ws)) (deep s.frames (drop s.memo ws)) st → Doing (memo_in s.known s.memo vs) (drop s.memo vs) t.rows t.frames t.now (called m k st (find m.entries k)))
CallSays s k ws vs (Err x) = (take s.memo vs ≡ take s.memo ws) × (e : Entry) × (find (kept_entries (memo_in s.known s.memo ws)) k ≡ some e) × (length ws < s.memo + (s.rows + s.frames) + (7 + length e.ans))

-- an answer of n words comes back to a frame that looks
abbrev pub BackSays : Desk → ℕ → List ℕ → List ℕ → Result At NoRoom → Type 0
BackSays s n ws vs (Ok t) = Area vs (desk s.known s.memo t.rows t.frames) × (take s.memo vs ≡ take s.memo ws) × ((m : Kept) (a : Ans) (k : Key) (e : Entry) (g : Got) (gs : List Got) (st : List Frame) → Doing (memo_in s.known s.memo ws) (drop s.memo ws) s.rows s.frames (Back n) (back m a (looks k e g gs ∷ st)) → Doing (memo_in s.known s.memo vs) (drop s.memo vs) t.rows t.frames t.now (backed m a (looks k e g gs ∷ st)))
BackSays s n ws vs (Err x) = (take s.memo vs ≡ take s.memo ws) × ((m : Kept) (a : Ans) (k : Key) (e : Entry) (g : Got) (gs : List Got) (st : List Frame) → Doing (memo_in s.known s.memo ws) (drop s.memo ws) s.rows s.frames (Back n) (back m a (looks k e g gs ∷ st)) → length ws < s.memo + (s.rows + s.frames) + (7 + length e.ans))

-- a rule asks q
abbrev pub AskSays : Desk → Told → Key → List ℕ → List ℕ → Result At NoRoom → Type 0
AskSays s p q ws vs (Ok t) = Area vs (desk s.known s.memo t.rows t.frames) × (take s.memo vs ≡ take s.memo ws) × ((m : Kept) (gs : List Got) (st : List Frame) → Doing (memo_in s.known s.memo ws) (drop s.memo ws) s.rows s.frames (Tell p) (tell m p.key gs st) → Doing (memo_in s.known s.memo vs) (drop s.memo vs) t.rows t.frames t.now (told m p.key gs st (ask q)))
AskSays s p q ws vs (Err x) = (take s.memo vs ≡ take s.memo ws) × (length ws < s.memo + (s.rows + s.frames) + 10)

-- the memo holds more, or as much; what is before it stays
pub record Grown (known memo : ℕ) (ws vs : List ℕ) : Type 0 where
  pub fits : Fits (memo_in known memo vs)
  pub keeps : Keeps (memo_in known memo ws) (memo_in known memo vs)
  pub buckets : slice_index (memo_in known memo vs) 2 ≡ slice_index (memo_in known memo ws) 2
  pub before : take known vs ≡ take known ws

-- a rule is done, with the answer a of n words behind its row: where the machine stands then; or there was too little room in the memo,
-- or to work in
abbrev pub DoneSays : Desk → Told → ℕ → List ℕ → List ℕ → Result At NoRoom → Type 0
DoneSays s q len ws vs (Ok t) = (m : Kept) (gs : List Got) (st : List Frame) → Doing (memo_in s.known s.memo ws) (drop s.memo ws) s.rows s.frames (Tell q) (tell m q.key gs st) →
    Area vs (desk s.known s.memo t.rows t.frames) × Grown s.known s.memo ws vs × Doing (memo_in s.known s.memo vs) (drop s.memo vs) t.rows t.frames t.now (told m q.key gs st (done (take len (drop (s.memo + s.rows) ws)))) × (spare (memo_in s.known s.memo ws) ≡ entry_long (made q.key (take len (drop (s.memo + s.rows) ws)) gs) + spare (memo_in s.known s.memo vs))
DoneSays s q len ws vs (Err x) = (m : Kept) (gs : List Got) (st : List Frame) → Doing (memo_in s.known s.memo ws) (drop s.memo ws) s.rows s.frames (Tell q) (tell m q.key gs st) →
    Grown s.known s.memo ws vs × ((spare (memo_in s.known s.memo ws) < entry_long (made q.key (take len (drop (s.memo + s.rows) ws)) gs)) ⊎ (length ws < s.memo + (q.from + (1 + (len + s.frames)))))

-- an input's answer a handed on: where the machine stands then; or it doesn't go in
abbrev pub HandSays : Desk → Ans → List ℕ → List ℕ → Result At NoRoom → Type 0
HandSays s a ws vs (Ok t) = Area vs (desk s.known s.memo t.rows t.frames) × (take s.memo vs ≡ take s.memo ws) × ((m : Kept) (st : List Frame) → m.entries ≡ kept_entries (memo_in s.known s.memo ws) → Stack (memo_in s.known s.memo ws) (take s.rows (drop s.memo ws)) (deep s.frames (drop s.memo ws)) st → Doing (memo_in s.known s.memo vs) (drop s.memo vs) t.rows t.frames t.now (back m a st))
HandSays s a ws vs (Err x) = (take s.memo vs ≡ take s.memo ws) × (length ws < s.memo + (s.rows + s.frames) + (1 + length a))

-- a rule is told what it got: it does t next. Its row begins at a word of the work area
abbrev pub RuleSays : Then → Desk → ℕ → List ℕ → List ℕ → Turn → Type 0
RuleSays t s from ws vs (Ask q) = t ≡ ask q
RuleSays t s from ws vs (Done n) = (t ≡ done (take n (drop (s.memo + s.rows) vs))) × (s.memo + (s.rows + (n + s.frames)) ≤ length ws)
RuleSays t s from ws vs Narrow = length ws < s.memo + (s.rows + s.frames) + (4096 + 256 * (s.rows - from + answer_long t))

-- how many words a rule that does t next puts into the memo
abbrev pub stored_long : Key → List Got → Then → ℕ
stored_long k gs (ask q) = 0
stored_long k gs (done a) = entry_long (made k a gs)

-- the rule of k is told what it got: where the machine stands then; or there was too little room, by what the rule does next
abbrev pub Short : Desk → Key → ℕ → List Got → Then → List ℕ → Type 0
Short s k from gs t ws = (length ws < s.memo + (s.rows + s.frames) + (4096 + 256 * (s.rows - from + answer_long t))) ⊎ ((a : Ans) × (t ≡ done a) × (spare (memo_in s.known s.memo ws) < entry_long (made k a gs)))

abbrev pub TellSays : Rules → Desk → Told → List ℕ → List ℕ → Result At NoRoom → Type 0
TellSays b s q ws vs (Ok t) = (m : Kept) (gs : List Got) (st : List Frame) → Doing (memo_in s.known s.memo ws) (drop s.memo ws) s.rows s.frames (Tell q) (tell m q.key gs st) →
    Area vs (desk s.known s.memo t.rows t.frames) × Grown s.known s.memo ws vs × Doing (memo_in s.known s.memo vs) (drop s.memo vs) t.rows t.frames t.now (told m q.key gs st (b.next q.key (answers gs))) × (spare (memo_in s.known s.memo ws) ≡ stored_long q.key gs (b.next q.key (answers gs)) + spare (memo_in s.known s.memo vs))
TellSays b s q ws vs (Err x) = (m : Kept) (gs : List Got) (st : List Frame) → Doing (memo_in s.known s.memo ws) (drop s.memo ws) s.rows s.frames (Tell q) (tell m q.key gs st) → Grown s.known s.memo ws vs × Short s q.key q.from gs (b.next q.key (answers gs)) ws

-- the answer that a frame may have to hand on
abbrev pub look_long : Frame → ℕ
look_long (looks k e g gs) = length e.ans
look_long (works k gs q) = 0

-- an answer of n words comes back to the newest frame
abbrev pub ReturnSays : Desk → ℕ → List ℕ → List ℕ → Result At NoRoom → Type 0
ReturnSays s n ws vs (Ok t) = Area vs (desk s.known s.memo t.rows t.frames) × (take s.memo vs ≡ take s.memo ws) × ((m : Kept) (a : Ans) (fr : Frame) (st : List Frame) → Doing (memo_in s.known s.memo ws) (drop s.memo ws) s.rows s.frames (Back n) (back m a (fr ∷ st)) → Doing (memo_in s.known s.memo vs) (drop s.memo vs) t.rows t.frames t.now (backed m a (fr ∷ st)))
ReturnSays s n ws vs (Err x) = (take s.memo vs ≡ take s.memo ws) × ((m : Kept) (a : Ans) (fr : Frame) (st : List Frame) → Doing (memo_in s.known s.memo ws) (drop s.memo ws) s.rows s.frames (Back n) (back m a (fr ∷ st)) → length ws < s.memo + (s.rows + s.frames) + (7 + look_long fr))
