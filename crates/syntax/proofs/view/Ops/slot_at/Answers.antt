use Rattle.std.proofs.Common.{◌≡◌, ℕ, Bool, false, List, Some, None, Option, sym, ap, ◌∙◌}
use Rattle.std.specs.Option.{MatchOption}
use Rattle.std.specs.List.{slice_get}
use Rattle.parser.specs.Rows.{ops, op_is}
use Rattle.parser.specs.declared.code.Op.{Op}
use Rattle.syntax.specs.View.{is_slot, slot_in, GetSays}
use Rattle.syntax.proofs.Views.{nth_none}
use Rattle.syntax.proofs.view.Ops.slot_at.Goals as goal

slot_said : (line code : List ℕ) (i : ℕ) (o : Option Op) (r : Bool) → GetSays line code i o → MatchOption o (r ≡ false) (λ op. (l : List ℕ) → r ≡ is_slot (op_is l op)) → r ≡ slot_in (slice_get (ops line code) i)
slot_said line code i (Some op) r g h = h line ∙ sym (ap slot_in g.1)
slot_said line code i None r g h = h ∙ sym (ap slot_in (nth_none line code i g))

pub returns-clause-slot : goal.returns-clause-slot
returns-clause-slot c = slot_said c.args.self.now.line.now c.args.self.now.code.now c.args.i c.get.result c.is_some_and.result c.get.ensures c.is_some_and.ensures
