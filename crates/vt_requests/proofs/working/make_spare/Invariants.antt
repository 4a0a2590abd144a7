use Rattle.std.proofs.Common.{◌<◌, Ok, length}
use Rattle.vt_requests.specs.Working.{DoesWork, NeedsRoom, work_left}
use Rattle.vt_requests.proofs.working.make_spare.Given as goal

-- work was done, each piece of it since the shard had no spare
abbrev pub invariant-loop-alloc : goal.invariant-loop-alloc
invariant-loop-alloc g l = record {
  works : DoesWork {T = Unit {0}} g.S.Scorer.score_of g.D.Disk (NeedsRoom l.shard) (Ok tt) l.initial.core l.core;
  within : l.shard < length l.core.shards;
}

abbrev pub decreases-loop-alloc : goal.decreases-loop-alloc
decreases-loop-alloc g l = work_left l.shard l.core
