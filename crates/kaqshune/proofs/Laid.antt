-- A row that was cleared, filled with a line and made longer begins with the line.
use Rattle.std.proofs.Common.{◌≡◌, ℕ, ◌≤◌, List, [], ◌++◌, length, take, ap, ◌∙◌}
use Rattle.std.proofs.Math.Seq.{take-append_seam}
use Rattle.std.proofs.lemmas.List.{take_all}

pub laid : (line before filled row ys : List ℕ) (n : ℕ) → before ≡ [] → filled ≡ before ++ line → row ≡ take n filled ++ ys → length line ≤ n → take (length line) row ≡ line
laid line before filled row ys n a b c h =
    let f : filled ≡ line = b ∙ ap (λ l. l ++ line) a in
    ap (take (length line)) (c ∙ ap (λ l. take n l ++ ys) f ∙ ap (λ l. l ++ ys) (take_all n line h)) ∙ take-append_seam line ys
