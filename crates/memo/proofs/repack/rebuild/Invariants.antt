-- Invariant of rebuild.
use Rattle.std.proofs.Common.{◌≡◌, ◌-◌, get_or}
use Rattle.memo.specs.Log.{spare}
use Rattle.memo.specs.Says.{gathered}
use Rattle.memo.proofs.Repacks.{Rebuild}
use Rattle.memo.proofs.repack.rebuild.Given as goal

abbrev pub invariant-loop : goal.invariant-loop
invariant-loop l =
    record {
      rest : Rebuild l.words l.work (gathered l.work l.fn.m) l.d (l.end - l.counter) (spare l.initial.words);
      buckets : get_or l.words 2 0 ≡ get_or l.initial.words 2 0;
    }
