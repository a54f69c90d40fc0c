-- What is proved by hand of roll_back.
use Rattle.std.proofs.Common.{◌∙◌}
use Rattle.memo.proofs.Pops.{came_back, still_marked, some_record}
use Rattle.memo.proofs.mark.roll_back.Goals as goal

pub loop-words-preserved : goal.loop-words-preserved
loop-words-preserved c =
    let s = still_marked c.loop-words.words c.pop.new.words c.args.mark c.loop-words.invariant.0 c.loop-words.invariant.1 c.loop-words-test.true c.pop.ensures.popped in
    (c.pop.ensures.fits, s.0, s.1 ∙ c.loop-words.invariant.2, c.pop.ensures.buckets ∙ c.loop-words.invariant.3)

pub pop-requires : goal.pop-requires
pop-requires c = (c.loop-words.invariant.0, some_record c.loop-words.words c.args.mark c.loop-words.invariant.0 c.loop-words.invariant.1 c.loop-words-test.true)

pub returns : goal.returns
returns c =
    record {
      fits = c.loop-words.invariant.0;
      is = came_back c.loop-words.words c.args.mark c.loop-words.invariant.0 c.loop-words.invariant.1 c.loop-words-test.false ∙ c.loop-words.invariant.2;
      buckets = c.loop-words.invariant.3;
    }
