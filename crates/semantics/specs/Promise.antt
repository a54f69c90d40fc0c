-- What the walk over a line's code promises, whole.
use Rattle.std.specs.Prelude.{◌≡◌, Bool, List, ◌≤◌, length}
use Rattle.base.specs.Base.{opt, Word}
use Rattle.lexer.specs.Tokens.{Line}
use Rattle.grammar.specs.Grammar.{Item, item}
use Rattle.grammar.specs.Code.{item_code}
use Rattle.semantics.specs.Names.{Sig}
use Rattle.semantics.specs.Check.{of_item}
use Rattle.semantics.specs.Walk.{Query, Fetch, Agrees, tries, need, ends, first_lacking, asked, run, start, add, silent, answer}

-- For every line, with whatever its names mean: where all is known, the walk over the line's code says what the definition says, in its
-- order; where what is known agrees with that and not all is, it stops at the first thing of those that the whole walk asks that isn't
-- known, and ends as that one does if there is none; and it asks at most one thing for each operation, and for each byte of the line.
abbrev pub LineSaid : Type 0
LineSaid = (me : Word) (here : Word → Sig) (there : Word → Word → Sig) (file_there : Word → Bool) (before : List Word) (it : Item) →
    ((run (answer me here there file_there before) (item_code it) start).out ≡ add silent (of_item me here there file_there before it))
    × ((l : Query → Fetch Query) → Agrees l (answer me here there file_there before) →
    tries l (item_code it) start ≡ opt (first_lacking l (asked (answer me here there file_there before) (item_code it) start)) (ends (run (answer me here there file_there before) (item_code it) start)) need)
    × (length (asked (answer me here there file_there before) (item_code it) start) ≤ length (item_code it))
    × ((ln : Line) → length (asked (answer me here there file_there before) (item_code (item ln)) start) ≤ length ln.bytes)
