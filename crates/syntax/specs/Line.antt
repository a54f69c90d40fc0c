-- What reading a line promises.
use Rattle.std.specs.Prelude.{◌≡◌, ℕ, ◌+◌, ◌*◌, ◌<◌, ◌≤◌, ◌⊎◌, List, length, take, Ok, Err, Result}
use Rattle.lexer.specs.Tokens.{toks, gap, left}
use Rattle.grammar.specs.Grammar.{Item, item_of, settled, bad, nothing, i_use, i_kind, i_rec, i_def, i_bad}
use Rattle.grammar.specs.Code.{item_code}
use Rattle.parser.specs.Rows.{ops_of}
use Rattle.syntax.specs.declared.read.Refusal.{Refusal}
use Rattle.syntax.specs.declared.read.Refusal.TheVariants.{Wrong as WrongAt, NoRoom}
use Rattle.parser.specs.declared.parse.Wrong.{Wrong}
use Rattle.syntax.specs.declared.reading.Reading.{Reading}

-- the item that a line of these bytes is
abbrev pub item_in : List ℕ → Item
item_in bytes = item_of (toks gap 0 bytes)

-- an item that is understood
abbrev pub Understood : Item → Type 0
Understood nothing = Unit {0}
Understood (i_use t) = Unit {0}
Understood (i_kind t cs) = Unit {0}
Understood (i_rec t fs) = Unit {0}
Understood (i_def t ps r e) = Unit {0}
Understood (i_bad a b) = ⊥

-- what was read of a line, of which the code stands in vs from base on; or where it went wrong
abbrev pub ItemRead : List ℕ → ℕ → List ℕ → Result Reading Wrong → Type 0
ItemRead line base vs (Ok q) = Understood (item_in line) × (ops_of line base q.count vs ≡ item_code (item_in line))
ItemRead line base vs (Err w) = item_in line ≡ settled (left line 0) (bad (left line w.at))

-- the words that are enough behind base
abbrev pub room_for : ℕ → ℕ
room_for len = 14 * len + 64

-- the line is the first len words of ws; vs are the words afterwards
abbrev pub LineSays : List ℕ → ℕ → ℕ → List ℕ → Result ℕ Refusal → Type 0
LineSays ws len base vs (Ok n) = Understood (item_in (take len ws)) × (ops_of (take len ws) base n vs ≡ item_code (item_in (take len ws)))
LineSays ws len base vs (Err (WrongAt s)) = item_in (take len ws) ≡ i_bad s.from s.to
LineSays ws len base vs (Err NoRoom) = (4294967000 ≤ len) ⊎ (base < len) ⊎ (length ws < base + room_for len)
