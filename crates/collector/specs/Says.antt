-- What the functions say.
use Rattle.std.specs.Prelude.{◌≡◌, ℕ, ◌+◌, ◌-◌, ◌*◌, ◌<◌, ◌≤◌, Bool, ◌⊎◌, List, [], ◌∷◌, length, take, drop, Some, None, Ok, Err, Option, Result}
use Rattle.std.proofs.Math.Option.{some}
use Rattle.std.specs.List.{slice_get}
use Rattle.base.specs.Base.{Word, same, among}
use Rattle.lexer.specs.Tokens.{Tok, Line, lines, toks, gap}
use Rattle.grammar.specs.Grammar.{Field, Item, nothing, i_use, i_kind, i_rec, i_def, i_bad}
use Rattle.grammar.specs.Code.{item_code, o_slot}
use Rattle.semantics.specs.Names.{Decl, File, Texts, find_file, decls, decls_item, uses_item, used}
use Rattle.semantics.specs.Read.{with_used}
use Rattle.semantics.specs.Theorems.{Among}
use Rattle.parser.specs.Rows.{ops_of, op_is}
use Rattle.parser.specs.declared.code.Op.{Op}
use Rattle.parser.specs.declared.code.Span.{Span}
use Rattle.syntax.specs.Line.{item_in, room_for}
use Rattle.semantics.specs.Numbers.{sort_number}
use Rattle.source.specs.declared.Extent.{Extent}
use Rattle.symbols.specs.declared.layout.Layout.{Layout}
use Rattle.collector.specs.declared.NoRoom.{NoRoom}
use Rattle.collector.specs.declared.line.Loaded.{Loaded}
use Rattle.collector.specs.declared.entry.Head.{Head}
use Rattle.collector.specs.declared.entry.Origin.{Origin}
use Rattle.collector.specs.declared.entry.Listed.{Listed}
use Rattle.collector.specs.declared.lines.Put.{Put}
use Rattle.symbols.specs.Rows.{InOrder, texts_in}
use Rattle.collector.specs.Rows.{Wrote, Kept}
use Rattle.collector.specs.Entries.{Declared, Using, decl_need, decls_need, uses_need}

-- a line that isn't understood says nothing
abbrev pub plain : Item → Item
plain nothing = nothing
plain (i_use t) = i_use t
plain (i_kind t cs) = i_kind t cs
plain (i_rec t fs) = i_rec t fs
plain (i_def t ps r e) = i_def t ps r e
plain (i_bad a b) = nothing

abbrev pub line_of : List ℕ → Loaded → List ℕ
line_of ws r = take r.len ws

-- a line stands in the slot of a row, and its code in the room to work in
pub record Loads (l : Layout) (ws : List ℕ) (r : Loaded) : Type 0 where
  pub order : InOrder l ws
  pub short : r.len ≤ l.texts
  pub code_in : l.work + 5 * r.count ≤ length ws
  pub code_is : ops_of (line_of ws r) l.work r.count ws ≡ item_code (plain (item_in (line_of ws r)))

-- where the line's bytes stand in the texts m
pub record InTexts (l : Layout) (m bytes : List ℕ) (r : Loaded) : Type 0 where
  pub begins : l.texts ≤ r.place
  pub ends : r.place - l.texts + r.len ≤ length m
  pub bytes_are : take r.len (drop (r.place - l.texts) m) ≡ bytes

-- a line of so many bytes is too long for the slot, or for the room to work in
abbrev pub TooLong : Layout → ℕ → ℕ → Type 0
TooLong l long len = (l.texts < len) ⊎ (long < l.work + room_for len)

-- the line that stands in the slot was read, or is too long; the texts and the table are as they were
abbrev pub ReadSays : Layout → List ℕ → Extent → List ℕ → Result Loaded NoRoom → Type 0
ReadSays l ws e vs (Ok r) = Kept l l.index l.index ws vs × Loads l vs r × (r.place ≡ e.from) × (r.len ≡ e.len) × (line_of vs r ≡ take e.len ws)
ReadSays l ws e vs (Err z) = Kept l l.index l.index ws vs × TooLong l (length ws) e.len

-- the i-th line of a file is the one that was read
pub record LineIn (x : File) (l : Layout) (i : ℕ) (ws vs : List ℕ) (r : Loaded) : Type 0 where
  pub line : Line
  pub is_line : slice_get (lines x.text) i ≡ Some line
  pub bytes_are : line_of vs r ≡ line.bytes
  pub stands : InTexts l (texts_in l ws) line.bytes r

-- a line of the texts is too long, or begins where places don't reach
pub record LineTrouble (p : Texts) (l : Layout) (long : ℕ) : Type 0 where
  pub file : ℕ
  pub number : ℕ
  pub text : File
  pub line : Line
  pub is_file : slice_get p file ≡ Some text
  pub is_line : slice_get (lines text.text) number ≡ Some line
  pub why : TooLong l long (length line.bytes) ⊎ (4294967296 ≤ line.start)

abbrev pub There : Texts → ℕ → ℕ → Type 0
There p file i = (x : File) × (slice_get p file ≡ Some x) × (i < length (lines x.text))

abbrev pub LoadSays : Texts → Layout → ℕ → ℕ → List ℕ → List ℕ → Result Loaded NoRoom → Type 0
LoadSays p l file i ws vs (Ok r) = Kept l l.index l.index ws vs × Loads l vs r × (r.place ≤ l.index) × ((x : File) → slice_get p file ≡ Some x → LineIn x l i ws vs r)
LoadSays p l file i ws vs (Err e) = Kept l l.index l.index ws vs × LineTrouble p l (length ws)

-- the i-th of what a line declares, without its fields
pub record HeadIs (bytes : List ℕ) (x : Decl) (h : Head) : Type 0 where
  pub sort_is : x.sort ≡ sort_number h.sort
  pub from_is : x.from ≡ h.name.from
  pub to_is : x.to ≡ h.name.to
  pub type : Tok
  pub type_among : Among type (toks gap 0 bytes)
  pub type_from : type.from ≡ h.ty.from
  pub type_to : type.to ≡ h.ty.to
  pub type_is : x.ty ≡ type.w
  pub slots_are : length x.fields ≡ h.slots

abbrev pub HeadSays : List ℕ → ℕ → Option Head → Type 0
HeadSays bytes i (Some h) = (x : Decl) × (slice_get (decls_item 0 (item_in bytes)) i ≡ Some x) × HeadIs bytes x h
HeadSays bytes i None = length (decls_item 0 (item_in bytes)) ≤ i

-- the four words of a field that an operation is
abbrev pub FieldWords : Op → List ℕ → Type 0
FieldWords op r = (line : List ℕ) (f : Field) → op_is line op ≡ o_slot f → r ≡ f.name.from ∷ f.name.to ∷ f.ty.from ∷ f.ty.to ∷ []

-- words were written from a place on, but not behind the table
pub record WroteOn (l : Layout) («at» to : ℕ) (ws vs : List ℕ) : Type 0 where
  pub onward : «at» ≤ to
  pub within : to ≤ l.work
  pub wrote : Wrote «at» to ws vs

-- a declaration was written, or it didn't go in
abbrev pub EntrySays : Layout → List ℕ → Loaded → Origin → ℕ → ℕ → List ℕ → Result ℕ NoRoom → Type 0
EntrySays l ws r by i «at» vs (Ok to) = WroteOn l «at» to ws vs × ((x : Decl) → slice_get (decls_item by.start (item_in (line_of ws r))) i ≡ Some x → to ≡ «at» + decl_need x) × ((m : List ℕ) (x : Decl) → InTexts l m (line_of ws r) r → slice_get (decls_item by.start (item_in (line_of ws r))) i ≡ Some x → Declared m l.texts by.file vs «at» to 1 (x ∷ []))
EntrySays l ws r by i «at» vs (Err e) = (vs ≡ ws) × ((x : Decl) × (slice_get (decls_item by.start (item_in (line_of ws r))) i ≡ Some x) × (l.work < «at» + decl_need x))

-- all that a line declares was written, or it didn't go in
abbrev pub LineSays : Layout → List ℕ → Loaded → Origin → ℕ → List ℕ → Result Listed NoRoom → Type 0
LineSays l ws r by «at» vs (Ok e) = WroteOn l «at» e.to ws vs × ((m : List ℕ) → InTexts l m (line_of ws r) r → Declared m l.texts by.file vs «at» e.to e.count (decls_item by.start (item_in (line_of ws r))))
LineSays l ws r by «at» vs (Err e) = Wrote «at» l.work ws vs × (l.work < «at» + decls_need (decls_item by.start (item_in (line_of ws r))))

-- a line begins there
abbrev pub BeginsAt : Texts → ℕ → ℕ → ℕ → Type 0
BeginsAt p file i start = (x : File) (n : Line) → slice_get p file ≡ Some x → slice_get (lines x.text) i ≡ Some n → n.start ≡ start

-- words of the table were written from a place on
pub record WentOn (l : Layout) («at» to : ℕ) (ws vs : List ℕ) : Type 0 where
  pub onward : «at» ≤ to
  pub within : to ≤ l.work
  pub kept : Kept l «at» to ws vs

-- what the i-th line of a file declares stands
pub record NthIn (x : File) (l : Layout) (file i : ℕ) (ws : List ℕ) («at» : ℕ) (vs : List ℕ) (s : Put) : Type 0 where
  pub line : Line
  pub is_line : slice_get (lines x.text) i ≡ Some line
  pub long : s.len ≡ length line.bytes
  pub stands : Declared (texts_in l ws) l.texts file vs «at» s.listed.to s.listed.count (decls_item line.start (item_in line.bytes))

-- or it doesn't go in
abbrev pub NthShort : File → Layout → ℕ → ℕ → Type 0
NthShort x l i «at» = (n : Line) × (slice_get (lines x.text) i ≡ Some n) × (l.work < «at» + decls_need (decls_item n.start (item_in n.bytes)))

abbrev pub NthSays : Texts → Layout → ℕ → ℕ → ℕ → List ℕ → ℕ → List ℕ → Result Put NoRoom → Type 0
NthSays p l file i start ws «at» vs (Ok s) = WentOn l «at» s.listed.to ws vs × (start < 4294967296) × (s.len < 4294967296) × ((x : File) → slice_get p file ≡ Some x → NthIn x l file i ws «at» vs s)
NthSays p l file i start ws «at» vs (Err e) = Kept l «at» l.work ws vs × (LineTrouble p l (length ws) ⊎ ((x : File) → slice_get p file ≡ Some x → NthShort x l i «at»))

abbrev pub LinesSays : Texts → Layout → ℕ → List ℕ → ℕ → List ℕ → Result Listed NoRoom → Type 0
LinesSays p l file ws «at» vs (Ok e) = WentOn l «at» e.to ws vs × ((x : File) → slice_get p file ≡ Some x → Declared (texts_in l ws) l.texts file vs «at» e.to e.count (decls x))
LinesSays p l file ws «at» vs (Err e) = Kept l «at» l.work ws vs × (LineTrouble p l (length ws) ⊎ ((x : File) → slice_get p file ≡ Some x → l.work < «at» + decls_need (decls x)))

-- the word at places of the row's front
abbrev pub word_in : List ℕ → Span → Word
word_in ws s = take (s.to - s.from) (drop s.from ws)

-- the place of the name of the file that the line uses, or it uses none
abbrev pub UseSays : List ℕ → Loaded → Option Span → Type 0
UseSays ws r (Some s) = (s.from ≤ s.to) × (s.to ≤ r.len) × (uses_item (item_in (line_of ws r)) ≡ word_in ws s ∷ [])
UseSays ws r None = uses_item (item_in (line_of ws r)) ≡ []

-- whether a file has that name
abbrev pub NamedSays : Texts → ℕ → Word → Bool → Type 0
NamedSays p file w b = (x : File) → slice_get p file ≡ Some x → b ≡ same x.name w

-- whether a name that a file has is among those of which the files are listed
abbrev pub ListedSays : Texts → List ℕ → ℕ → ℕ → Word → Bool → Type 0
ListedSays p ws from to w b = (ns : List Word) (x : File) → Using p ws from to ns → find_file p w ≡ some x → b ≡ among w ns

-- a file's use of a name was noted, or its list has no room
abbrev pub PutUseSays : Texts → Layout → ℕ → Word → List ℕ → ℕ → ℕ → List ℕ → Result ℕ NoRoom → Type 0
PutUseSays p l file w ws from to vs (Ok t) = WroteOn l to t ws vs × ((x : File) (ns : List Word) → slice_get p file ≡ Some x → Using p ws from to ns → Using p vs from t (with_used x.name ns (w ∷ [])))
PutUseSays p l file w ws from to vs (Err e) = (vs ≡ ws) × ((x : File) (ns : List Word) → slice_get p file ≡ Some x → Using p ws from to ns → l.work < from + uses_need p (with_used x.name ns (w ∷ [])))

-- what the i-th line uses was noted
pub record UsedIn (p : Texts) (x : File) (i from t : ℕ) (ns : List Word) (vs : List ℕ) : Type 0 where
  pub line : Line
  pub is_line : slice_get (lines x.text) i ≡ Some line
  pub stands : Using p vs from t (with_used x.name ns (uses_item (item_in line.bytes)))

abbrev pub UseShort : Texts → File → Layout → ℕ → ℕ → List Word → Type 0
UseShort p x l i from ns = (n : Line) × (slice_get (lines x.text) i ≡ Some n) × (l.work < from + uses_need p (with_used x.name ns (uses_item (item_in n.bytes))))

abbrev pub NthUseSays : Texts → Layout → ℕ → ℕ → List ℕ → ℕ → ℕ → List ℕ → Result ℕ NoRoom → Type 0
NthUseSays p l file i ws from to vs (Ok t) = WentOn l to t ws vs × ((x : File) (ns : List Word) → slice_get p file ≡ Some x → Using p ws from to ns → UsedIn p x i from t ns vs)
NthUseSays p l file i ws from to vs (Err e) = Kept l to l.work ws vs × (LineTrouble p l (length ws) ⊎ ((x : File) (ns : List Word) → slice_get p file ≡ Some x → Using p ws from to ns → UseShort p x l i from ns))

abbrev pub UsesSays : Texts → Layout → ℕ → List ℕ → ℕ → List ℕ → Result ℕ NoRoom → Type 0
UsesSays p l file ws «at» vs (Ok t) = WentOn l «at» t ws vs × ((x : File) → slice_get p file ≡ Some x → Using p vs «at» t (used x))
UsesSays p l file ws «at» vs (Err e) = Kept l «at» l.work ws vs × (LineTrouble p l (length ws) ⊎ ((x : File) → slice_get p file ≡ Some x → l.work < «at» + uses_need p (used x)))
