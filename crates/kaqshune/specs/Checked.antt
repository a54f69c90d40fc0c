-- What the program finds of a line.
use Rattle.std.specs.Prelude.{◌≡◌, ℕ, List, Some, None, Option}
use Rattle.grammar.specs.Grammar.{i_bad}
use Rattle.parser.specs.declared.code.Span.{Span}
use Rattle.syntax.specs.Line.{item_in, Understood}

-- nothing, where the line is understood; else the place where the definition says that it isn't
abbrev pub Checked : List ℕ → Option Span → Type 0
Checked line None = Understood (item_in line)
Checked line (Some s) = item_in line ≡ i_bad s.from s.to
