-- A line has no more pieces than bytes, and asks no more than it has bytes.
use mathlib.Core.Bool.{Bool, true, false}
use mathlib.Core.List.{List, [], ◌∷◌, ◌++◌}
use Prim.Native.Nat.{ℕ, ◌+◌, ◌≤◌}
use native.Mathlib.Omega.{arith}
use lib.ListN.{length, length-append}
use lib.Dec.{eqb}
use Rattle.base.specs.Base.{pick}
use Rattle.lexer.specs.Tokens.{Tok, tok, Mode, gap, in_word, equals, note, Turn, turn, fresh, turns, last1, toks, letter, blank, Line, pieces}
use Rattle.grammar.specs.Grammar.{item}
use Rattle.grammar.specs.Code.{item_code}
use Rattle.semantics.specs.Walk.{Query, Known, asked, start}
use Rattle.semantics.proofs.Partial.{asked_few}
use Rattle.semantics.proofs.Pieces.{line_few}

abbrev pending : Mode → ℕ
pending gap = 0
pending (in_word w f) = 1
pending (equals f) = 1
pending note = 0

abbrev In : ℕ → Turn → Type 0
In b t = length t.out + pending t.mode ≤ b

in_pick : (n : ℕ) (b : Bool) (x y : Turn) → In n x → In n y → In n (pick b x y)
in_pick n true x y p q = p
in_pick n false x y p q = q

fresh_few : (o : List Tok) (at1 c : ℕ) → In (length o + 1) (fresh o at1 c)
fresh_few o at1 c = in_pick (length o + 1) (blank c) (turn o gap) _ (omega arith) (in_pick (length o + 1) (eqb c 35) (turn o note) _ (omega arith) (in_pick (length o + 1) (letter c) (turn o (in_word (c ∷ []) at1)) _ (omega arith) (in_pick (length o + 1) (eqb c 61) (turn o (equals at1)) (turn (o ++ (tok (c ∷ []) at1 (at1 + 1) ∷ [])) gap) (omega arith) (omega (arith, length-append o (tok (c ∷ []) at1 (at1 + 1) ∷ []))))))

turns_few : (m : Mode) (at1 c : ℕ) → In (pending m + 1) (turns m at1 c)
turns_few gap at1 c = fresh_few [] at1 c
turns_few (in_word w f) at1 c = in_pick 2 (letter c) (turn [] (in_word (w ++ (c ∷ [])) f)) (fresh (tok w f at1 ∷ []) at1 c) (omega arith) (fresh_few (tok w f at1 ∷ []) at1 c)
turns_few (equals f) at1 c = in_pick 2 (eqb c 61) (turn (tok (61 ∷ 61 ∷ []) f (at1 + 1) ∷ []) gap) (fresh (tok (61 ∷ []) f at1 ∷ []) at1 c) (omega arith) (fresh_few (tok (61 ∷ []) f at1 ∷ []) at1 c)
turns_few note at1 c = omega arith

last_few : (m : Mode) (at1 : ℕ) → length (last1 m at1) ≤ pending m
last_few gap at1 = omega arith
last_few (in_word w f) at1 = omega arith
last_few (equals f) at1 = omega arith
last_few note at1 = omega arith

pub toks_few : (cs : List ℕ) (m : Mode) (at1 : ℕ) → length (toks m at1 cs) ≤ length cs + pending m
toks_few [] m at1 = omega (arith, last_few m at1)
toks_few (c ∷ cs) m at1 = omega (arith, length-append (turns m at1 c).out (toks (turns m at1 c).mode (at1 + 1) cs), toks_few cs (turns m at1 c).mode (at1 + 1), turns_few m at1 c)

pub asks_few : (f : Query → Known) (l : Line) → length (asked f (item_code (item l)) start) ≤ length l.bytes
asks_few f l = omega (arith, asked_few f (item_code (item l)) start, line_few (pieces l), toks_few l.bytes gap 0)
