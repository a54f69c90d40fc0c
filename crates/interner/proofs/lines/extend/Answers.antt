-- What is proved by hand of extend.
use Rattle.std.proofs.Common.{◌≡◌, ℕ, ◌+◌, List, ◌++◌, length, take, ap, ◌∙◌, arith}
use Rattle.std.proofs.lemmas.Slice.{take-put_mid}
use Rattle.interner.proofs.Writing.{put_long}
use Rattle.interner.proofs.lines.extend.Goals as goal

pub returns : goal.returns
returns c =
    let e : length c.copy_from_slice.new.self ≡ length c.args.xs.now = ap length c.copy_from_slice.ensures.after in
    let l : c.args.k + length c.args.xs.now ≡ c.args.k + length c.copy_from_slice.new.self = omega arith in
    (put_long _ _ _ _ _ c.requires e, take-put_mid _ _ _ _ _ l c.requires ∙ ap (λ (z : List ℕ). take c.args.k c.args.out.now ++ z) c.copy_from_slice.ensures.after)
