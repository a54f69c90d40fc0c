use Rattle.std.proofs.Common.{◌≡◌, length, take, vec_items}
use Rattle.helper.specs.Replies.{calls_of}
use Rattle.helper.specs.Runs.{Runs}
use Rattle.helper.proofs.run.answer_all.Given as goal

abbrev pub invariant-loop-request : goal.invariant-loop-request
invariant-loop-request g l = g.H.Helper.fit l.helper × (g.H.Helper.words l.helper ≡ g.H.Helper.words l.initial.helper) × Runs (g.H.Helper.words l.initial.helper) (length l.initial.out) (g.H.Helper.texts l.initial.helper) (calls_of (take l.request-index l.requests)) (vec_items l.transcript.replies) (vec_items l.transcript.words) (g.H.Helper.texts l.helper)
