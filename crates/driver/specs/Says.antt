-- What the functions of the work area promise. ws is the row before, vs the row after.
use Rattle.std.specs.Prelude.{◌≡◌, ℕ, ◌+◌, ◌-◌, ◌<◌, ◌≤◌, true, false, List, ◌∷◌, ◌++◌, length, take, drop, Result, Ok, Err, ⊤, Some, None, Option as Perhaps, slice_index, ◌≢◌}
use Rattle.base.specs.Base.{same}
use Rattle.engine.specs.Engine.{Ans, Got, Entry}
use Rattle.memo.specs.declared.log.NoRoom.{NoRoom}
use Rattle.memo.specs.declared.entry.Cursor.{Cursor}
use Rattle.memo.specs.Log.{Fits, entry_at}
use Rattle.memo.specs.Says.{Looks, Keeps, StoreSays}
use Rattle.memo.specs.Record.{deep}
use Rattle.driver.specs.declared.stack.Head.{Head}
use Rattle.driver.specs.declared.stack.Head.TheVariants.{Looks as LooksAt, Works}
use Rattle.driver.specs.declared.state.Desk.{Desk}
use Rattle.driver.specs.Rows.{key_words, look_words}

-- words put in front of the last f: what is before them stays
pub record Pushed (f : ℕ) (xs ws vs : List ℕ) : Type 0 where
  pub adds : deep (f + length xs) vs ≡ xs ++ deep f ws
  pub below : (m : ℕ) → m + (f + length xs) ≤ length ws → take m vs ≡ take m ws

-- a frame's first words in front of others, and that they are words
abbrev pub head_words : Head → List ℕ → List ℕ
head_words (LooksAt k d c) us = look_words k d c.index c.place us
head_words (Works t) us = 1 ∷ key_words t.key (t.count ∷ t.from ∷ 0 ∷ us)

abbrev pub HeadFits : Head → Type 0
HeadFits (LooksAt k d c) = (d < 4294967296) × (c.index < 4294967296) × (c.place < 4294967296)
HeadFits (Works t) = (t.count < 4294967296) × (t.from < 4294967296)

-- the first words of fs are a frame's, and us is behind them
abbrev pub HeadSays : Head → List ℕ → List ℕ → Type 0
HeadSays (LooksAt k d c) fs us = fs ≡ look_words k d c.index c.place us
HeadSays (Works t) fs us = (tag : ℕ) × (z : ℕ) × (tag ≢ 0) × (t.count < 4294967296) × (fs ≡ tag ∷ key_words t.key (t.count ∷ t.from ∷ z ∷ us))

-- the memo in the whole row
abbrev pub memo_in : ℕ → ℕ → List ℕ → List ℕ
memo_in known memo ws = take (memo - known) (drop known ws)

-- an entry's answer a copied one word behind the newest row; or it doesn't go in before the frames
abbrev pub CopySays : Desk → Ans → List ℕ → List ℕ → Result ℕ NoRoom → Type 0
CopySays s a ws vs (Ok n) = (n ≡ length a) × (take n (drop (s.rows + 1) (drop s.memo vs)) ≡ a) × (s.rows + 1 + n + s.frames ≤ length (drop s.memo vs)) × (length vs ≡ length ws) × (take s.memo vs ≡ take s.memo ws) × (take s.rows (drop s.memo vs) ≡ take s.rows (drop s.memo ws)) × (deep s.frames (drop s.memo vs) ≡ deep s.frames (drop s.memo ws))
CopySays s a ws vs (Err x) = (take s.memo vs ≡ take s.memo ws) × (length ws < s.memo + (s.rows + s.frames) + (1 + length a))

-- an answer a against the i-th thing that the entry at the depth d asked: it is the one that the entry got, and here the next stands
abbrev pub CompareSays : List ℕ → ℕ → ℕ → Ans → Perhaps Cursor → Type 0
CompareSays ms d i a (Some c) = Looks ms d c.index c.place × (c.index ≡ i + 1) × ((g : Got) (gs : List Got) → drop i (entry_at ms d).gots ≡ g ∷ gs → (same a g.ans ≡ true) × (drop (i + 1) (entry_at ms d).gots ≡ gs))
CompareSays ms d i a None = (g : Got) (gs : List Got) → drop i (entry_at ms d).gots ≡ g ∷ gs → same a g.ans ≡ false

-- an entry stored in the memo, or not, by too little room
pub record StoredSays (e : Entry) (ms ns : List ℕ) (r : Result ⊤ NoRoom) : Type 0 where
  pub fits : Fits ns
  pub says : StoreSays e ms ns r
  pub keeps : Keeps ms ns
  pub buckets : slice_index ns 2 ≡ slice_index ms 2
