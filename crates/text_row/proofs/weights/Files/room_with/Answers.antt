-- What is proved by hand of room_with.
use Rattle.std.proofs.Common.{ℕ, ◌+◌, ◌*◌, max, ap, ◌∙◌, arith}
use Rattle.text_row.proofs.Loads.{room_is, texts_long}
use Rattle.text_row.proofs.weights.Files.room_with.Goals as goal

pub returns : goal.returns
returns c y a b = let e = texts_long _ _ _ _ c.requires.fits in let l = c.max-largest.ensures ∙ ap (max c.weigh-before.result.largest) c.max.ensures in ap (λ (x : ℕ). 65536 + 24 * (c.weigh-before.result.total + (16 + (c.args.name + c.args.size) + c.weigh-behind.result.total)) + 256 * x) l ∙ room_is _ _ _ _ _ _ _ _ _ (omega arith) c.weigh-before.ensures c.weigh-behind.ensures y a b
