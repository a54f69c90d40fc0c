-- DepthEnough, by the functions that have no such number.
use mathlib.Core.Path.{sym, ap, ◌∙◌}
use mathlib.Core.List.{◌∷◌}
use Rattle.grammar.specs.Grammar.{settled}
use Rattle.grammar.proofs.Same.{same_expr}
use Rattle.grammar.proofs.Items.{reads_free, item_free}
use Rattle.grammar.proofs.theorems.depth_enough.Goals as goal

pub returns : goal.returns
returns c = (same_expr, λ n m t ts p q. reads_free n t ts p ∙ sym (reads_free m t ts q), λ n t ts p. item_free t ts ∙ ap (settled (t ∷ ts)) (sym (reads_free n t ts p)))
