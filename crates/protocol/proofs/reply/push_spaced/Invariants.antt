use Rattle.std.proofs.Common.{◌≡◌, ◌++◌, drop, vec_items}
use Rattle.protocol.specs.Lines.{spaced}
use Rattle.protocol.proofs.reply.push_spaced.Given as goal

abbrev pub invariant-loop-w : goal.invariant-loop-w
invariant-loop-w l = vec_items l.out ++ spaced (drop l.w-index l.words) ≡ vec_items l.initial.out ++ spaced l.words
