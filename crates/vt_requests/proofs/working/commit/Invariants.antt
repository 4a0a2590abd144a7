use Rattle.std.proofs.Common.{◌≤◌, Ok}
use Rattle.vt_core.specs.Core.{history_len}
use Rattle.vt_log.specs.Owed.{owed}
use Rattle.vt_requests.specs.Working.{DoesWork, NeedsDurable}
use Rattle.vt_requests.proofs.working.commit.Given as goal

-- the log was advanced, each time since it wasn't durable so far
abbrev pub invariant-loop-alloc : goal.invariant-loop-alloc
invariant-loop-alloc g l = record {
  works : DoesWork {T = Unit {0}} g.S.Scorer.score_of g.D.Disk (NeedsDurable l.number) (Ok tt) l.initial.core l.core;
  low : l.number ≤ history_len l.core;
}

abbrev pub decreases-loop-alloc : goal.decreases-loop-alloc
decreases-loop-alloc g l = owed l.core.log
