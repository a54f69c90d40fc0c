-- A key brought up to date by the loop over turns, from a memo with s words free.
use Rattle.std.specs.Prelude.{◌≡◌, ℕ, suc, ◌+◌, ◌*◌, ◌<◌, ◌≤◌, ◌⊎◌, List, length, take, Result, Ok, Err, ⊤, Some, None, Option as Perhaps, ◌≢◌}
use Rattle.engine.specs.declared.key.Key.{Key}
use Rattle.engine.specs.Engine.{Rules, Inputs, Entry, Brought, bring}
use Rattle.engine.specs.Says.{kept, signs_entries}
use Rattle.memo.specs.Record.{entries_long}
use Rattle.memo.specs.Log.{kept_entries, spare, capacity}
use Rattle.memo.specs.declared.log.NoRoom.{NoRoom}
use Rattle.driver.specs.declared.state.Now.TheVariants.{Back}
use Rattle.driver.specs.declared.state.At.{At}

-- what the definition says
unfoldable pub brings : Rules → Inputs → Key → List Entry → Brought
brings b i k es = bring b i (suc (b.rank k)) (kept es) k

-- es and fs are the entries before and after, c and d how often rules were told before and after; the work area has x words, and is o
-- after. All is as the definition says; or the entries are as they were, and the memo or the work area was too small
abbrev pub RunSays : Rules → Inputs → Key → List Entry → List Entry → ℕ → ℕ → ℕ → ℕ → List ℕ → Result ℕ NoRoom → Type 0
RunSays b i k es fs c d s x o (Ok n) = (n ≡ length (brings b i k es).ans) × (take n o ≡ (brings b i k es).ans) × (fs ≡ (brings b i k es).kept.entries) × (d ≡ c + (brings b i k es).kept.goes)
RunSays b i k es fs c d s x o (Err e) = (fs ≡ es) × ((s < signs_entries (brings b i k es).kept.entries) ⊎ (x < 65536 + 512 * (signs_entries es + signs_entries (brings b i k es).kept.entries)))

-- an answer with no frame that waits for it
abbrev pub EndSays : At → Perhaps ℕ → Type 0
EndSays t (Some n) = (t.now ≡ Back n) × (t.frames ≡ 0)
EndSays t None = (n : ℕ) → t.now ≡ Back n → t.frames ≢ 0

-- the memo ws made ready: it is vs then, with the same entries, and half of its room is free or all but what the entries take; or the work
-- area, of n words, is too small for the entries
abbrev pub TidySays : List ℕ → List ℕ → ℕ → Result ⊤ NoRoom → Type 0
TidySays ws vs n (Ok u) = (kept_entries vs ≡ kept_entries ws) × ((capacity ws ≤ spare vs + spare vs) ⊎ (spare vs + entries_long (kept_entries ws) ≡ capacity ws))
TidySays ws vs n (Err e) = (kept_entries vs ≡ kept_entries ws) × (n < entries_long (kept_entries ws))
