-- What calls promise: a rule that is told (GoSays), an input that is asked for (InputSays), a key brought up to date in words (BringSays).
-- o and o' are lent words before and after the call.
use Rattle.std.specs.Prelude.{◌≡◌, ℕ, suc, ◌+◌, ◌*◌, ◌<◌, ◌⊎◌, List, [], ◌∷◌, ◌++◌, length, take, Some, None, Option as Perhaps}
use Rattle.engine.specs.declared.key.Key.{Key}
use Rattle.engine.specs.declared.rules.Turn.{Turn}
use Rattle.engine.specs.declared.rules.Turn.TheVariants.{Ask, Done, Narrow}
use Rattle.engine.specs.Engine.{Ans, Then, ask, done, Rules, Inputs, Got, Entry, Kept, bring}

-- how long an answer is there, if there is one
abbrev pub answer_long : Then → ℕ
answer_long (ask k) = 0
answer_long (done a) = length a

-- answers in one row, the length before each
abbrev pub row : List Ans → List ℕ
row [] = []
row (a ∷ as₁) = length a ∷ (a ++ row as₁)

-- What a rule says when it is told answers: by the rules it does t next, and the answers' row has k words. It may ask; it may be done,
-- with its answer at the front of what is lent; or what is lent may be too little, which it may say only if it is
abbrev pub GoSays : Then → ℕ → List ℕ → List ℕ → Turn → Type 0
GoSays t k o o' (Ask q) = t ≡ ask q
GoSays t k o o' (Done n) = (a : Ans) × (t ≡ done a) × (n ≡ length a) × (take n o' ≡ a)
GoSays t k o o' Narrow = length o < 4096 + 256 * (k + answer_long t)

-- An input's answer a stands at the front of what is lent; none only if it doesn't go in there
abbrev pub InputSays : Ans → List ℕ → List ℕ → Perhaps ℕ → Type 0
InputSays a o o' (Some n) = (n ≡ length a) × (take n o' ≡ a)
InputSays a o o' None = length o < length a

-- these entries, with nothing counted yet
abbrev pub kept : List Entry → Kept
kept es = record { entries = es; worked = []; goes = 0 }

-- how many words entries take at most: room is promised by that
abbrev pub signs_gots : List Got → ℕ
signs_gots [] = 0
signs_gots (g ∷ gs) = (8 + length g.ans) + signs_gots gs

abbrev pub signs_entries : List Entry → ℕ
signs_entries [] = 0
signs_entries (e ∷ es) = (16 + (length e.ans + signs_gots e.gots)) + signs_entries es

-- A key brought up to date in words: es and fs are the entries before and after, c and d how often rules were told before and after;
-- w words are lent for entries, x to work in. The answer stands at the front of what is lent, all is as 'bring' says, and so is the
-- count. If there was too little room, the entries are as they were, and one of the three rows was in fact too short
abbrev pub BringSays : Rules → Inputs → Key → List Entry → List Entry → ℕ → ℕ → ℕ → ℕ → List ℕ → List ℕ → Perhaps ℕ → Type 0
BringSays r i k es fs c d w x o o' (Some n) = (n ≡ length (bring r i (suc (r.rank k)) (kept es) k).ans) × (take n o' ≡ (bring r i (suc (r.rank k)) (kept es) k).ans) × (fs ≡ (bring r i (suc (r.rank k)) (kept es) k).kept.entries) × (d ≡ c + (bring r i (suc (r.rank k)) (kept es) k).kept.goes)
BringSays r i k es fs c d w x o o' None = (fs ≡ es) × ((length o < length (bring r i (suc (r.rank k)) (kept es) k).ans) ⊎ (w < 4096 + 4 * (signs_entries es + signs_entries (bring r i (suc (r.rank k)) (kept es) k).kept.entries)) ⊎ (x < 65536 + 512 * (signs_entries es + signs_entries (bring r i (suc (r.rank k)) (kept es) k).kept.entries)))
