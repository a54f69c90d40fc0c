-- One turn of the machine in words, whatever is next: it is the machine's, or there was too little room for it (Tight).
use Rattle.std.specs.Prelude.{◌≡◌, ℕ, ◌+◌, ◌*◌, ◌<◌, true, ◌⊎◌, List, [], ◌∷◌, length, drop, Result, Ok, Err}
use Rattle.std.proofs.Math.Option.{some}
use Rattle.engine.specs.Engine.{Ans, done, Rules, Inputs, Entry, answers, find}
use Rattle.engine.specs.Says.{row, answer_long}
use Rattle.engine.specs.Machine.{State, call, back, tell, Busy, turn}
use Rattle.memo.specs.Record.{entry_long, made}
use Rattle.memo.specs.Log.{spare}
use Rattle.memo.specs.declared.log.NoRoom.{NoRoom}
use Rattle.driver.specs.declared.state.Desk.{Desk}
use Rattle.driver.specs.declared.state.Now.{Now}
use Rattle.driver.specs.declared.state.Now.TheVariants.{Call, Back, Tell}
use Rattle.driver.specs.declared.state.At.{At}
use Rattle.driver.specs.Says.{memo_in}
use Rattle.driver.specs.Doing.{Doing, desk, Area, Grown, stored_long, look_long}

-- how often a rule is told in a turn
abbrev pub tellings : Now → ℕ
tellings (Call k) = 0
tellings (Back n) = 0
tellings (Tell t) = 1

-- how many words a turn puts into the memo
abbrev pub added : Rules → State → ℕ
added b (call m k st) = 0
added b (back m a st) = 0
added b (tell m k gs st) = stored_long k gs (b.next k (answers gs))

-- there is too little room for a turn: in the work area, of which r words are rows and f frames; or in the memo, which has s words free
abbrev pub Tight : Rules → Inputs → ℕ → ℕ → ℕ → State → Type 0
Tight b i x y s (call m k st) = ((b.input k ≡ true) × (x < y + (1 + length (i k)))) ⊎ ((e : Entry) × (find m.entries k ≡ some e) × (x < y + (7 + length e.ans)))
Tight b i x y s (back m a []) = ⊥
Tight b i x y s (back m a (fr ∷ st)) = x < y + (7 + look_long fr)
Tight b i x y s (tell m k gs st) = (x < y + (4096 + 256 * (length (row (answers gs)) + answer_long (b.next k (answers gs))))) ⊎ ((a : Ans) × (b.next k (answers gs) ≡ done a) × (s < entry_long (made k a gs)))

-- a turn from a state that these words stand for
abbrev pub TurnSays : Rules → Inputs → Desk → Now → List ℕ → List ℕ → Result At NoRoom → Type 0
TurnSays b i s n ws vs (Ok t) = (c : State) → Busy c → Doing (memo_in s.known s.memo ws) (drop s.memo ws) s.rows s.frames n c →
    Area vs (desk s.known s.memo t.rows t.frames) × Grown s.known s.memo ws vs × Doing (memo_in s.known s.memo vs) (drop s.memo vs) t.rows t.frames t.now (turn b i c) × (spare (memo_in s.known s.memo ws) ≡ added b c + spare (memo_in s.known s.memo vs))
TurnSays b i s n ws vs (Err x) = (c : State) → Busy c → Doing (memo_in s.known s.memo ws) (drop s.memo ws) s.rows s.frames n c → Grown s.known s.memo ws vs × Tight b i (length ws) (s.memo + (s.rows + s.frames)) (spare (memo_in s.known s.memo ws)) c
