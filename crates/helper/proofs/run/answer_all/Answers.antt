use Rattle.std.proofs.Common.{length, vec_items, refl, ◌∙◌}
use Rattle.std.proofs.lemmas.Result.{err_from_is_err_and}
use Rattle.helper.proofs.Steps.{turn, whole, started}
use Rattle.helper.proofs.run.answer_all.Goals as goal

pub loop-request-init : goal.loop-request-init
loop-request-init g c = (c.requires, refl, started _ _ _ _ _ c.new-transcript.ensures.replies c.new-transcript.ensures.words)

pub answer-reply-requires : goal.answer-reply-requires
answer-reply-requires g c = c.loop-request.invariant.0

pub returns-in_err-note : goal.returns-in_err-note
returns-in_err-note g c = record { fits = c.answer-reply.ensures.fits; runs = let p = err_from_is_err_and c.from_residual.result c.from_residual.ensures.1 in rw p.1 tt; lent = c.answer-reply.ensures.lent ∙ c.loop-request.invariant.1 }

pub loop-request-preserved : goal.loop-request-preserved
loop-request-preserved g c =
    (c.answer-reply.ensures.fits, c.answer-reply.ensures.lent ∙ c.loop-request.invariant.1, turn (g.H.Helper.words c.args.helper.now) (g.H.Helper.words c.loop-request.helper) (length c.args.out.now) c.loop-request.request-index (g.H.Helper.texts c.args.helper.now) (g.H.Helper.texts c.loop-request.helper) (g.H.Helper.texts c.answer-reply.new.helper) c.args.requests.now _ (vec_items c.loop-request.transcript.replies) (vec_items c.note.new.self.replies) (vec_items c.loop-request.transcript.words) (vec_items c.note.new.self.words) c.loop-request.out c.answer-reply.new.out c.answer-reply.result c.loop-request.invariant.2 c.loop-request-test.true c.loop-request.auto.out c.loop-request.invariant.1 c.answer-reply.ensures.says c.in_ok-note.ensures.replies c.in_ok-note.ensures.words)

pub returns : goal.returns
returns g c = record { fits = c.loop-request.invariant.0; runs = whole _ _ _ _ _ _ _ c.loop-request.request-index c.loop-request-test.false c.loop-request.invariant.2; lent = c.loop-request.invariant.1 }
