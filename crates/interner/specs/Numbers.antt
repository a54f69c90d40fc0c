-- Numbers for bytes, and for a text's lines. m is the row before, m' the row after.
use Rattle.std.specs.Prelude.{◌≡◌, ℕ, ◌+◌, ◌<◌, ◌≤◌, ◌⊎◌, List, map, length, take, Some, None, Option as Perhaps, Ok, Err, Result}
use Rattle.lexer.specs.Tokens.{lines}
use Rattle.interner.specs.Lines.{bodies, Every}
use Rattle.interner.specs.Index.{count, end, place, bytes, Sound, Live, Grown, Pooled}
use Rattle.interner.specs.Interner.{Interned}
use Rattle.interner.specs.declared.refused.NoRoom.{NoRoom}

-- a number that is not in use, or one past all of them
pub record NextSays (nb cap : ℕ) (m : List ℕ) (n : ℕ) : Type 0 where
  pub not_zero : 0 < n
  pub next : n ≤ count m
  pub unused : n < count m → place nb m n ≡ 0
  pub all_used : cap ≤ n → (k : ℕ) → 0 < k → k < cap → Live nb m k

-- the first number that is free, if there is one
abbrev pub FreeSays : ℕ → List ℕ → Perhaps ℕ → Type 0
FreeSays nb m (Some n) = (0 < n) × (n < count m) × (place nb m n ≡ 0) × ((k : ℕ) → 0 < k → k < n → 0 < place nb m k)
FreeSays nb m None = (k : ℕ) → 0 < k → k < count m → 0 < place nb m k

-- these bytes have a number; or nothing changed: each number is in use, or there is no room left
abbrev pub InternSays : ℕ → ℕ → List ℕ → List ℕ → List ℕ → Result ℕ NoRoom → Type 0
InternSays nb cap m key m' (Ok n) = Interned nb cap m key m' n
InternSays nb cap m key m' (Err e) = (m' ≡ m) × (((k : ℕ) → 0 < k → k < cap → Live nb m k) ⊎ (length m < end m + 1 + length key))

-- numbers that stand for a text's lines; the pool grew by no more than the text
pub record Numbered (nb cap : ℕ) (m text m' ns : List ℕ) : Type 0 where
  pub sound : Sound nb cap m'
  pub grown : Grown nb m m'
  pub pooled : Pooled nb cap m m'
  pub live : Every (Live nb m') ns
  pub lines_are : map (bytes nb m') ns ≡ bodies (lines text)
  pub end_most : end m' ≤ end m + length text + 1
  pub count_most : count m' ≤ count m + length text + 1
  pub long : length m' ≡ length m

-- room for all lines of a text, however many of them are new
pub record Roomy (nb cap : ℕ) (m text out : List ℕ) : Type 0 where
  pub numbers : count m + length text + 1 ≤ cap
  pub words : end m + length text + 1 ≤ length m
  pub places : length text + 1 ≤ length out

-- they stand at the front of out; or there wasn't room for all, and some of the lines may have got numbers
abbrev pub NumberSays : ℕ → ℕ → List ℕ → List ℕ → List ℕ → List ℕ → Result ℕ NoRoom → Type 0
NumberSays nb cap m text m' out (Ok k) = (k ≤ length out) × Numbered nb cap m text m' (take k out) × (k ≤ length text + 1)
NumberSays nb cap m text m' out (Err e) = (Sound nb cap m' × Grown nb m m' × Pooled nb cap m m' × (length m' ≡ length m)) × (Roomy nb cap m text out → ⊥)
