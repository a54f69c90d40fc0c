-- The work area: the machine's stack in words, from both ends of one row.
--
--   word           what stands there
--   0 ..           the rows of frames that work, the oldest first: what a rule got so far, each answer with its length before it
--   ..             free; the newest row ends where it begins
--   to the end     frames, the newest first
--
--   a frame that looks          a frame that works
--   0      0                    0      1
--   1 2 3  its key              1 2 3  its key
--   4      its record's depth   4      how many answers it got
--   5      which question       5      where its row begins
--   6      where the answer     6      0
--          stands in the row    7 8 9  the key that it asked
--                               10 ..  the keys that it asked before, the newest first, three words each
--
-- An answer that comes back stands one word behind the newest row: with its length put before it, it is the row's next. A rule that is
-- told has no frame: its row is the newest, and the keys that it asked stand in front of the frames.
use Rattle.std.specs.Prelude.{◌≡◌, ℕ, List, [], ◌∷◌, ◌++◌, length, drop}
use Rattle.engine.specs.declared.key.Key.{Key}
use Rattle.engine.specs.Engine.{Got, Entry, answers}
use Rattle.engine.specs.Says.{row}
use Rattle.engine.specs.Machine.{Frame, looks, works}
use Rattle.memo.specs.Log.{entry_at}
use Rattle.memo.specs.Says.{Looks}

-- a key's words, in front of others
abbrev pub key_words : Key → List ℕ → List ℕ
key_words k ws = k.kind ∷ k.a ∷ k.b ∷ ws

-- the keys that were asked, the newest first, in front of others
abbrev pub stacked : List Got → List ℕ → List ℕ
stacked [] ws = ws
stacked (g ∷ gs) ws = stacked gs (key_words g.key ws)

-- the first words of a frame that looks, and of one that works
abbrev pub look_words : Key → ℕ → ℕ → ℕ → List ℕ → List ℕ
look_words k d i q ws = 0 ∷ key_words k (d ∷ i ∷ q ∷ ws)

abbrev pub work_words : Key → ℕ → ℕ → Key → List ℕ → List ℕ
work_words k n from q ws = 1 ∷ key_words k (n ∷ from ∷ 0 ∷ key_words q ws)

-- a frame that looks, in front of the frames us: its record and its question stand in the memo ms
pub record Looking (ms fs us : List ℕ) (k : Key) (e : Entry) (g : Got) (gs : List Got) : Type 0 where
  pub d : ℕ
  pub i : ℕ
  pub q : ℕ
  pub words : fs ≡ look_words k d i q us
  pub looks1 : Looks ms d i q
  pub entry : entry_at ms d ≡ e
  pub rest : drop i e.gots ≡ g ∷ gs

-- a frame that works, in front of the frames us, with its row behind the rows vs
pub record Working (rows vs fs us : List ℕ) (k : Key) (gs : List Got) (q : Key) : Type 0 where
  pub row1 : rows ≡ vs ++ row (answers gs)
  pub words : fs ≡ work_words k (length gs) (length vs) q (stacked gs us)

-- the rows and the frames are those of a stack
abbrev pub Stack : List ℕ → List ℕ → List ℕ → List Frame → Type 0
Stack ms rows fs [] = (rows ≡ []) × (fs ≡ [])
Stack ms rows fs (looks k e g gs ∷ st) = (us : List ℕ) × Looking ms fs us k e g gs × Stack ms rows us st
Stack ms rows fs (works k gs q ∷ st) = (vs : List ℕ) × (us : List ℕ) × Working rows vs fs us k gs q × Stack ms vs us st

-- a rule that is told: its row, from the word n on, and the keys that it asked, over a stack
pub record Telling (ms rows fs : List ℕ) (n : ℕ) (gs : List Got) (st : List Frame) : Type 0 where
  pub vs : List ℕ
  pub us : List ℕ
  pub from : length vs ≡ n
  pub row1 : rows ≡ vs ++ row (answers gs)
  pub keys1 : fs ≡ stacked gs us
  pub below : Stack ms vs us st
