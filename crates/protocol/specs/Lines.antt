-- How replies are written, a line each.
use Rattle.std.specs.Prelude.{ℕ, List, [], ◌∷◌, ◌++◌, length, map, take, drop, codes, decimal, ◌==◌, nat_lt}
use Rattle.base.specs.Base.{pick}
use Rattle.helper.specs.declared.contract.Changed.{Changed}
use Rattle.helper.specs.declared.contract.Changed.TheVariants.{Made, NoFile, NoPlace, NoRoom}
use Rattle.helper.specs.declared.contract.Answer.TheVariants.{Words, Missing, OutFull}
use Rattle.helper.specs.declared.request.Reply.{Reply}
use Rattle.helper.specs.declared.request.Reply.TheVariants.{Changed as Change, Closed, Answered}
use Rattle.helper.specs.Replies.{Call, opens, edited, closes, asks_faults, asks_type, asks_place}

-- what came of a change
abbrev pub change_text : Changed → List ℕ
change_text Made = codes "made"
change_text NoFile = codes "no file"
change_text NoPlace = codes "no place"
change_text NoRoom = codes "no room"

-- a word of an answer that stands for a byte; one that is none is shown as a question mark
abbrev pub byte_of : ℕ → ℕ
byte_of w = pick (nat_lt w 256) w 63

abbrev pub bytes_of : List ℕ → List ℕ
bytes_of ws = map byte_of ws

-- a name: how long it is, a blank, and its bytes
abbrev pub name_text : List ℕ → List ℕ
name_text ws = decimal (length ws) ++ (32 ∷ bytes_of ws)

-- numbers, a blank before each
abbrev pub spaced : List ℕ → List ℕ
spaced [] = []
spaced (w ∷ ws) = (32 ∷ decimal w) ++ spaced ws

-- faults: from, behind and the fault's number for each
abbrev pub faults_text : List ℕ → List ℕ
faults_text ws = codes "faults" ++ spaced ws

-- a type with a name: its file's name, and its own
abbrev pub of_text : List ℕ → List ℕ → List ℕ
of_text f n = codes "type of " ++ (name_text f ++ (32 ∷ name_text n))

-- a type, of the words that the definition gives: 0; 1; 2; or 3, the length of its file's name, that name, and its own
abbrev pub type_text : List ℕ → List ℕ
type_text [] = codes "type none"
type_text (k ∷ []) = pick (k == 1) (codes "type num") (pick (k == 2) (codes "type bool") (codes "type none"))
type_text (k ∷ n ∷ ws) = pick (k == 1) (codes "type num") (pick (k == 2) (codes "type bool") (pick (k == 3) (of_text (take n ws) (drop n ws)) (codes "type none")))

-- where a name is declared: from, behind, and the file's name
abbrev pub declared_text : ℕ → ℕ → List ℕ → List ℕ
declared_text a b ws = codes "declared " ++ (decimal a ++ (32 ∷ (decimal b ++ (32 ∷ name_text ws))))

-- a place, of the words that the definition gives: none, or from, behind, and the file's name
abbrev pub place_text : List ℕ → List ℕ
place_text [] = codes "declared none"
place_text (a ∷ []) = codes "declared none"
place_text (a ∷ b ∷ ws) = declared_text a b ws

-- the words of an answer, by what was asked
abbrev pub answer_text : Call → List ℕ → List ℕ
answer_text (opens f x) ws = []
answer_text (edited f a b x) ws = []
answer_text (closes f) ws = []
answer_text (asks_faults f) ws = faults_text ws
answer_text (asks_type f n) ws = type_text ws
answer_text (asks_place f n) ws = place_text ws

-- a reply, with the words ws of its answer and how often rules were told for it (t)
abbrev pub reply_text : Call → Reply → List ℕ → ℕ → List ℕ
reply_text c (Change r) ws t = change_text r
reply_text c (Closed b) ws t = pick b (codes "closed") (codes "no file")
reply_text c (Answered Missing) ws t = codes "missing"
reply_text c (Answered (OutFull n)) ws t = codes "output full " ++ decimal n
reply_text c (Answered (Words n)) ws t = answer_text c ws ++ (codes " told " ++ decimal t)
