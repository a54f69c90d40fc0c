-- What is proved by hand of go.
use Rattle.std.proofs.Common.{◌≡◌, ◌+◌, ◌-◌, List, [], ◌∷◌, length, take, drop, sym, refl, ◌∙◌, arith, length-drop}
use Rattle.engine.specs.Engine.{Got, answers}
use Rattle.std.proofs.lemmas.List.{take-take, length-take-le}
use Rattle.driver.proofs.Hands.{go_before, go_behind, go_says}
use Rattle.driver.proofs.state.Desk.go.Goals as goal

answers_long : (gs : List Got) → length (answers gs) ≡ length gs
answers_long [] = refl
answers_long (x ∷ gs) = let r = answers_long gs in omega arith

pub returns : goal.returns
returns g c =
    let ws = c.args.mem.now in
    let f = c.args.self.frames in
    let memo = c.args.self.memo in
    let r = c.args.self.rows in
    let from = c.args.told.from in
    let s = c.go.ensures in
    let y = c.go.new.words in
    let b = memo + from in
    let k = length ws - f - b in
    let dl = length-drop b ws in
    let el : length (take k (drop b ws)) ≡ k = length-take-le k (drop b ws) (omega arith) in
    let ly : length y ≡ k = s.1.1.0 ∙ el in
    let fr = s.1.1.1.0 in
    let cut : take (r - from) (take k (drop b ws)) ≡ take (r - from) (drop b ws) = take-take (r - from) k (drop b ws) (omega arith) in
    record {
      book1 = s.0;
      runs1 = s.1.0;
      before = go_before c.args.self.known memo r f from ws y c.requires.row.0 c.requires.row.1 ly fr;
      behind = go_behind c.args.self.known memo r f from ws y c.requires.row.0 c.requires.row.1 ly fr;
      says = λ gs l e. go_says c.args.self.known memo r f from ws y c.requires.row.0 c.requires.row.1 ly fr _ c.go.result (s.1.1.1.1 (answers gs) (answers_long gs ∙ l) (sym (cut ∙ e)));
    }
