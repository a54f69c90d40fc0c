use Rattle.std.proofs.Common.{◌≡◌, ℕ, ◌+◌, ◌*◌, List, [], take, drop}
use Rattle.grammar.specs.Grammar.{Field}
use Rattle.grammar.specs.Code.{slots_onto}
use Rattle.parser.specs.Rows.{ops}
use Rattle.collector.specs.Rows.{Wrote, Held}
use Rattle.collector.specs.Entries.{slot_words}
use Rattle.collector.proofs.entry.put_fields.Given as goal

-- the first i fields stand
abbrev pub invariant-loop-i : goal.invariant-loop-i
invariant-loop-i l =
    Wrote l.at (l.at + 4 * l.i) l.initial.words l.words
    × ((line : List ℕ) (fs : List Field) → ops line (take (5 * l.n) (drop l.from l.initial.words)) ≡ slots_onto fs [] → Held l.words l.at (slot_words (take l.i fs)))
