-- What the parser's words stand for. One row of words holds all:
--   from 0           the line
--   from base        the code, growing upwards, five words an operation: a tag and four numbers
--   down from the end  the stack, growing downwards, four words a frame: a tag and three numbers
--
-- an operation's tag                 a frame's tag
--   0 number, piece a b                0 brackets that began at a
--   1 name, piece a b                  1 call that begins at operation a, with b arguments so far
--   2 call, piece a b, c arguments     2 let that began at a, name piece b c: its value
--   3 argument                         3 let that began at a: its body
--   4 call ends at a                   4 if that began at a: its condition
--   5 field, piece a b                 5 if that began at a: its first branch
--   6 operator a                       6 if that began at a: its second branch
--   7 condition                        any other: right side of operator a
--   8 if that began at a
--   9 bound name, piece a b
--   10 let that began at a
--   11 brackets from a to b
--   12 file used, piece a b
--   13 record or def named, piece a b
--   14 kind or constant, piece a b
--   15 field or parameter, pieces a b and c d
--   16 result, piece a b
--   17 body
--   any other: not understood, from a to b
-- An operator's number above 6 counts as 6.
use Rattle.std.specs.Prelude.{◌≡◌, ℕ, ◌+◌, ◌-◌, ◌*◌, ◌<◌, ◌≤◌, false, List, [], ◌∷◌, ◌++◌, length, take, drop, ◌==◌, slice_index, Option, Some, None, Result as Outcome, Ok, Err}
use Rattle.base.specs.Base.{pick, same}
use Rattle.lexer.specs.Tokens.{Tok, piece, left, next, tail1}
use Rattle.lexer.specs.Words.{t_lp, t_gets}
use Rattle.lexer.specs.Kinds.{operator, token_of}
use Rattle.lexer.specs.Seen.{is_end}
use Rattle.lexer.specs.declared.token.Token.{Token}
use Rattle.lexer.specs.declared.token.Operator.{Operator}
use Rattle.lexer.specs.declared.token.Operator.TheVariants.{Plus, Minus, Times, Equal, Less, And, Or}
use Rattle.grammar.specs.Grammar.{E, it, bad, expr}
use Rattle.grammar.specs.Code.{code, Op as Flat, o_num, o_name, o_call, o_arg, o_end, o_field, o_op, o_cond, o_if, o_bind, o_let, o_par, o_use, o_new, o_const, o_slot, o_result, o_body, o_bad}
use Rattle.grammar.specs.Machine.{Frame as Waits, f_par, f_call, f_bound, f_body, f_cond, f_then, f_else, f_right, Phase as Stage, p_begin, p_atom, p_value, State, going, won, lost, names_it, eats, do_call, pop, step}
use Rattle.parser.specs.declared.code.Span.{Span}
use Rattle.parser.specs.declared.code.Op.{Op}
use Rattle.parser.specs.declared.code.Op.TheVariants.{Number, Name, Call, Arg, End, Field, Sign, Cond, If, Bind, Let, Par, Use, New, Const, Slot, Result, Body, Bad}
use Rattle.parser.specs.declared.stack.Frame.{Frame}
use Rattle.parser.specs.declared.stack.Frame.TheVariants.{Par as WaitPar, Call as WaitCall, Bound as WaitBound, Body as WaitBody, Cond as WaitCond, Then as WaitThen, Else as WaitElse, Right as WaitRight}
use Rattle.parser.specs.declared.parse.Wrong.{Wrong}
use Rattle.parser.specs.declared.parse.Parsed.{Parsed}
use Rattle.parser.specs.declared.turn.Cursor.{Cursor}
use Rattle.parser.specs.declared.turn.Next.{Next}
use Rattle.parser.specs.declared.turn.Phase.{Phase}
use Rattle.parser.specs.declared.turn.Phase.TheVariants.{Begin, Atom, Value}
use Rattle.parser.specs.declared.turn.Step.{Step}
use Rattle.parser.specs.declared.turn.Step.TheVariants.{Go, Won}

-- the operator of a number
abbrev pub sign_of : ℕ → Operator
sign_of a = pick (a == 0) Plus (pick (a == 1) Minus (pick (a == 2) Times (pick (a == 3) Equal (pick (a == 4) Less (pick (a == 5) And Or)))))

-- an operation by its words
abbrev pub op_of : List ℕ → ℕ → ℕ → ℕ → ℕ → ℕ → Flat
op_of line t a b c d =
    pick (t == 0) (o_num (piece line a b)) (pick (t == 1) (o_name (piece line a b)) (pick (t == 2) (o_call (piece line a b) c) (pick (t == 3) o_arg (pick (t == 4) (o_end a) (pick (t == 5) (o_field (piece line a b))
    (pick (t == 6) (o_op (operator (sign_of a))) (pick (t == 7) o_cond (pick (t == 8) (o_if a) (pick (t == 9) (o_bind (piece line a b)) (pick (t == 10) (o_let a) (pick (t == 11) (o_par a b)
    (pick (t == 12) (o_use (piece line a b)) (pick (t == 13) (o_new (piece line a b)) (pick (t == 14) (o_const (piece line a b)) (pick (t == 15) (o_slot (record { name = piece line a b; ty = piece line c d }))
    (pick (t == 16) (o_result (piece line a b)) (pick (t == 17) o_body (o_bad a b))))))))))))))))))

-- the operation whose words begin at i
abbrev pub op_in : List ℕ → List ℕ → ℕ → Flat
op_in line ws i = op_of line (slice_index ws i) (slice_index ws (i + 1)) (slice_index ws (i + 2)) (slice_index ws (i + 3)) (slice_index ws (i + 4))

abbrev pub ops : List ℕ → List ℕ → List Flat
ops line [] = []
ops line (t ∷ []) = []
ops line (t ∷ a ∷ []) = []
ops line (t ∷ a ∷ b ∷ []) = []
ops line (t ∷ a ∷ b ∷ c ∷ []) = []
ops line (t ∷ a ∷ b ∷ c ∷ d ∷ ws) = op_of line t a b c d ∷ ops line ws

-- the n operations from a word on
abbrev pub ops_of : List ℕ → ℕ → ℕ → List ℕ → List Flat
ops_of line base n ws = ops line (drop base (take (base + 5 * n) ws))

-- a frame by its words
abbrev pub frame_of : List ℕ → ℕ → ℕ → ℕ → ℕ → Waits
frame_of line t a b c = pick (t == 0) (f_par a) (pick (t == 1) (f_call a b) (pick (t == 2) (f_bound a (piece line b c)) (pick (t == 3) (f_body a) (pick (t == 4) (f_cond a) (pick (t == 5) (f_then a) (pick (t == 6) (f_else a) (f_right (operator (sign_of a)))))))))

-- the frame whose words begin at i
abbrev pub frame_in : List ℕ → List ℕ → ℕ → Waits
frame_in line ws i = frame_of line (slice_index ws i) (slice_index ws (i + 1)) (slice_index ws (i + 2)) (slice_index ws (i + 3))

abbrev pub frames : List ℕ → List ℕ → List Waits
frames line [] = []
frames line (t ∷ []) = []
frames line (t ∷ a ∷ []) = []
frames line (t ∷ a ∷ b ∷ []) = []
frames line (t ∷ a ∷ b ∷ c ∷ ws) = frame_of line t a b c ∷ frames line ws

-- the stack of d frames at the row's end, the newest first
abbrev pub frames_of : List ℕ → ℕ → List ℕ → List Waits
frames_of line d ws = frames line (drop (length ws - 4 * d) ws)

-- what the code's own types stand for
abbrev pub span_of : List ℕ → Span → Tok
span_of line s = piece line s.from s.to

abbrev pub op_is : List ℕ → Op → Flat
op_is line (Number s) = o_num (span_of line s)
op_is line (Name s) = o_name (span_of line s)
op_is line (Call s k) = o_call (span_of line s) k
op_is line Arg = o_arg
op_is line (End a) = o_end a
op_is line (Field s) = o_field (span_of line s)
op_is line (Sign o) = o_op (operator o)
op_is line Cond = o_cond
op_is line (If a) = o_if a
op_is line (Bind s) = o_bind (span_of line s)
op_is line (Let a) = o_let a
op_is line (Par s) = o_par s.from s.to
op_is line (Use s) = o_use (span_of line s)
op_is line (New s) = o_new (span_of line s)
op_is line (Const s) = o_const (span_of line s)
op_is line (Slot x t) = o_slot (record { name = span_of line x; ty = span_of line t })
op_is line (Result s) = o_result (span_of line s)
op_is line Body = o_body
op_is line (Bad s) = o_bad s.from s.to

abbrev pub frame_is : List ℕ → Frame → Waits
frame_is line (WaitPar a) = f_par a
frame_is line (WaitCall p k) = f_call p k
frame_is line (WaitBound a s) = f_bound a (span_of line s)
frame_is line (WaitBody a) = f_body a
frame_is line (WaitCond a) = f_cond a
frame_is line (WaitThen a) = f_then a
frame_is line (WaitElse a) = f_else a
frame_is line (WaitRight o) = f_right (operator o)

-- the newest of d frames, or there are none
abbrev pub NewestSays : ℕ → List ℕ → Option Frame → Type 0
NewestSays d ws (Some f) = (0 < d) × ((line : List ℕ) → frames_of line d ws ≡ frame_is line f ∷ frames_of line (d - 1) ws)
NewestSays d ws None = d ≡ 0

abbrev pub phase_is : Phase → Stage
phase_is Begin = p_begin
phase_is Atom = p_atom
phase_is (Value l) = p_value l

abbrev pub line_of : Cursor → List ℕ → List ℕ
line_of p ws = take p.len ws

-- where the line ends and the code begins stays as it is
pub record Beside (p q : Cursor) : Type 0 where
  pub len_is : q.len ≡ p.len
  pub base_is : q.base ≡ p.base

-- what the parser has come to stays, and only the place in the line is another
pub record Behind (p q : Cursor) («at» : ℕ) : Type 0 where
  pub beside : Beside p q
  pub at_is : q.at ≡ «at»
  pub depth_is : q.depth ≡ p.depth
  pub count_is : q.count ≡ p.count

-- the next piece from a place on, whose token this is, stands there
pub record Shown (len : ℕ) (ws : List ℕ) (at : ℕ) (t : Token) (s : Span) : Type 0 where
  pub cuts : left (take len ws) at ≡ span_of (take len ws) s ∷ left (take len ws) s.to
  pub word : token_of (span_of (take len ws) s).w ≡ t

pub record NextSays (p : Cursor) (ws : List ℕ) (n : Next) : Type 0 where
  pub token_is : n.token ≡ token_of (next (left (line_of p ws) p.at))
  pub shows : is_end n.token ≡ false → Shown p.len ws p.at n.token n.span
  pub behind : Behind p n.behind n.span.to
  pub onward : p.at ≤ n.span.to
  pub within : n.span.to ≤ p.len

-- the next piece, where it is of this token; or it goes wrong here, as it isn't
abbrev pub TakesSays : Cursor → List ℕ → Token → Outcome Next Wrong → Type 0
TakesSays p ws t (Ok n) = (n.token ≡ t) × NextSays p ws n
TakesSays p ws t (Err w) = (w.at ≡ p.at) × (token_of (next (left (line_of p ws) p.at)) ≡ t → ⊥)

-- what a turn may build on: the line before the code, and k words of room between code and stack
pub record Ready (k : ℕ) (p : Cursor) (ws : List ℕ) : Type 0 where
  pub at_in : p.at ≤ p.len
  pub line_in : p.len ≤ p.base
  pub room : p.base + 5 * p.count + 4 * p.depth + k ≤ length ws
  pub few : p.count + k < 4294967295
  pub short : p.len < 4294967000

-- a call that waits on top has few arguments
abbrev pub Few : List Waits → Type 0
Few [] = Unit {0}
Few (f_par a ∷ fs) = Unit {0}
Few (f_call p k ∷ fs) = k < 4294967295
Few (f_bound a x ∷ fs) = Unit {0}
Few (f_body a ∷ fs) = Unit {0}
Few (f_cond a ∷ fs) = Unit {0}
Few (f_then a ∷ fs) = Unit {0}
Few (f_else a ∷ fs) = Unit {0}
Few (f_right o ∷ fs) = Unit {0}

-- an operation, by the line, came to stand behind those that were there, and all else is as it was
pub record Emits (p : Cursor) (ws vs : List ℕ) (o : List ℕ → Flat) (q : Cursor) : Type 0 where
  pub line_in : p.len ≤ p.base
  pub kept : take p.base vs ≡ take p.base ws
  pub beside : Beside p q
  pub at_is : q.at ≡ p.at
  pub depth_is : q.depth ≡ p.depth
  pub count_is : q.count ≡ p.count + 1
  pub adds : ops_of (line_of p ws) p.base (p.count + 1) vs ≡ ops_of (line_of p ws) p.base p.count ws ++ (o (line_of p ws) ∷ [])
  pub waiting : frames_of (line_of p ws) p.depth vs ≡ frames_of (line_of p ws) p.depth ws

-- from a place p of a line, a turn's end is the machine's state x: it goes on, it has won, it has lost
pub record Went (line : List ℕ) (p : Cursor) (vs : List ℕ) (x : State) (m : Phase) (q : Cursor) : Type 0 where
  pub comes : x ≡ going (phase_is m) (left line q.at) (frames_of line q.depth vs) (ops_of line p.base q.count vs)
  pub beside : Beside p q
  pub onward : p.at ≤ q.at
  pub within : q.at ≤ p.len
  pub fits : p.base + 5 * q.count + 4 * q.depth ≤ length vs

pub record Ended (line : List ℕ) (p : Cursor) (vs : List ℕ) (x : State) (q : Cursor) : Type 0 where
  pub comes : x ≡ won (ops_of line p.base q.count vs) (left line q.at)
  pub onward : p.at ≤ q.at
  pub within : q.at ≤ p.len
  pub fits : p.base + 5 * q.count ≤ length vs

pub record Stopped (line : List ℕ) (p : Cursor) (x : State) (a : ℕ) : Type 0 where
  pub comes : x ≡ lost (left line a)
  pub onward : p.at ≤ a
  pub within : a ≤ p.len

abbrev pub Says : List ℕ → Cursor → List ℕ → State → Outcome Step Wrong → Type 0
Says line p vs x (Ok (Go m q)) = Went line p vs x m q
Says line p vs x (Ok (Won q)) = Ended line p vs x q
Says line p vs x (Err w) = Stopped line p x w.at

-- a turn from a place does what F, by the line, does to what the words stand for there, and leaves what lies before the code
pub record Does (p : Cursor) (ws vs : List ℕ) (F : List ℕ → List Tok → List Waits → List Flat → State) (r : Outcome Step Wrong) : Type 0 where
  pub kept : take p.base vs ≡ take p.base ws
  pub says : Says (line_of p ws) p vs (F (line_of p ws) (left (line_of p ws) p.at) (frames_of (line_of p ws) p.depth ws) (ops_of (line_of p ws) p.base p.count ws)) r

-- the machine's steps in the parts in which the code takes them: behind let; behind a name; behind a dot
abbrev pub after_let : ℕ → List Tok → List Waits → List Flat → State
after_let n us fs c = names_it us (λ x vs. eats t_gets vs (λ g xs. going p_begin xs (f_bound n x ∷ fs) c))

abbrev pub after_name : Tok → List Tok → List Waits → List Flat → State
after_name t us fs c = pick (same (next us) t_lp) (do_call t (tail1 us) fs c) (going (p_value 7) us fs (c ++ (o_name t ∷ [])))

abbrev pub after_dot : List Tok → List Waits → List Flat → State
after_dot us fs c = names_it us (λ x vs. going (p_value 7) vs fs (c ++ (o_field x ∷ [])))

-- a value goes to this frame
abbrev pub goes_to : Waits → List Tok → List Waits → List Flat → State
goes_to f us fs c = pop us (f ∷ fs) c

-- one operation more, and a value of a level is there; a frame waits for what begins
abbrev pub puts : Flat → ℕ → List Tok → List Waits → List Flat → State
puts o l us fs c = going (p_value l) us fs (c ++ (o ∷ []))

abbrev pub waits : Waits → Phase → List Tok → List Waits → List Flat → State
waits f m us fs c = going (phase_is m) us (f ∷ fs) c

abbrev pub takes : Phase → List Tok → List Waits → List Flat → State
takes m us fs c = step (going (phase_is m) us fs c)

-- what was read from a place on is an expression, its code stands from base on, and the rest of the line is its rest
pub record ReadIt (line : List ℕ) (len base from : ℕ) (vs : List ℕ) («at» count : ℕ) : Type 0 where
  pub reads : (e : E) × (ops_of line base count vs ≡ code e) × ((m : ℕ) → 10 * length (left line from) + 10 ≤ m → expr m (left line from) ≡ it e (left line «at»))
  pub onward : from ≤ «at»
  pub within : «at» ≤ len
  pub few : count ≤ length (left line from)
  pub fits : base + 5 * count ≤ length vs

-- no expression stands there: what is left at a place can't be
pub record ReadBad (line : List ℕ) (len from «at» : ℕ) : Type 0 where
  pub reads : (m : ℕ) → 10 * length (left line from) + 10 ≤ m → expr m (left line from) ≡ bad (left line «at»)
  pub onward : from ≤ «at»
  pub within : «at» ≤ len

abbrev pub ReadSays : List ℕ → ℕ → ℕ → ℕ → List ℕ → Outcome Parsed Wrong → Type 0
ReadSays line len base from vs (Ok r) = ReadIt line len base from vs r.at r.count
ReadSays line len base from vs (Err w) = ReadBad line len from w.at
