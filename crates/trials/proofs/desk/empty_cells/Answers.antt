-- What is proved by hand of empty_cells.
use Rattle.std.proofs.Common.{◌≡◌, ◌++◌, length, drop, sym, ◌∙◌, arith, length-append, length-drop}
use Rattle.std.proofs.lemmas.List.{length-take-le}
use Rattle.trials.proofs.Desks.{cells_set, still_ready}
use Rattle.trials.proofs.desk.empty_cells.Goals as goal

pub slice_bounds-fill-end-2 : goal.slice_bounds-fill-end-2
slice_bounds-fill-end-2 c = let r = c.requires.long in sym (length-take-le 16 c.args.row.now (omega arith))

pub returns : goal.returns
returns c =
    let ws = c.args.row.now in
    let v = c.fill.new.self in
    let r = c.requires.long in
    let l : length v ≡ 16 = c.fill.ensures.len ∙ length-take-le 16 ws (omega arith) in
    let a = length-append v (drop 16 ws) in
    let d = length-drop 16 ws in
    still_ready ws (v ++ drop 16 ws) (cells_set ws v l) (omega arith) c.requires
