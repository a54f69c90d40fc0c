-- The row in which rules are tried: 16 cells, a memo of 8192 words, and room to work in.
use Rattle.std.specs.Prelude.{◌≡◌, ℕ, suc, ◌<◌, ◌≤◌, true, List, length, take, drop, Some, None, Option as Perhaps, slice_index}
use Rattle.engine.specs.declared.key.Key.{Key}
use Rattle.engine.specs.Engine.{Entry, bring}
use Rattle.engine.specs.Says.{kept}
use Rattle.engine.specs.Theorems.{Honest, value}
use Rattle.memo.specs.Log.{kept_entries}
use Rattle.memo.specs.Whether.{memo_ready}
use Rattle.trials.specs.declared.desk.Said.{Said}
use Rattle.trials.specs.Small.{small, cells}

-- the memo's words, and its entries
abbrev pub memo_of : List ℕ → List ℕ
memo_of ws = drop 16 (take 8208 ws)

abbrev pub entries_of : List ℕ → List Entry
entries_of ws = kept_entries (memo_of ws)

pub record Ready (ws : List ℕ) : Type 0 where
  pub long : 8208 ≤ length ws
  pub small1 : length ws < 4294967296
  pub fit : memo_ready (memo_of ws) ≡ true
  pub honest : Honest small (kept (entries_of ws))

-- what a key is worth by the cells of now, and how often rules are told, by the definition
unfoldable pub answer_of : List ℕ → Key → List ℕ
answer_of ws k = value small (cells (take 16 ws)) k

unfoldable pub goes_of : List ℕ → Key → ℕ
goes_of ws k = (bring small (cells (take 16 ws)) (suc (small.rank k)) (kept (entries_of ws)) k).kept.goes

-- a key asked; or there was too little room, and the entries are as they were
abbrev pub SaidSays : List ℕ → List ℕ → Key → Perhaps Said → Type 0
SaidSays ws vs k (Some s) = (s.words ≡ length (answer_of ws k)) × (s.first ≡ slice_index (answer_of ws k) 0) × (s.told ≡ goes_of ws k)
SaidSays ws vs k None = entries_of vs ≡ entries_of ws
