use Rattle.std.proofs.Common.{◌≡◌, ◌+◌, ◌≤◌, ℕ}
use Rattle.vt_log.specs.Owed.{owed}
use Rattle.vt_model.specs.History.{History}
use Rattle.vt_rehearse.specs.Counts.{with_events}
use Rattle.vt_rehearse.specs.Rehearsal.{CommitsAll}
use Rattle.vt_rehearse.specs.Stage.{IsSteady}
use Rattle.vt_rehearse.proofs.working.commit_all.Given as goal

-- so many calls were made
abbrev pub invariant-loop-alloc : goal.invariant-loop-alloc
invariant-loop-alloc g l = record {
  calls : (calls : ℕ) × (calls + owed l.stage.core.log ≤ owed l.initial.stage.core.log)
      × CommitsAll g.S.Scorer.score_of g.D.Disk calls l.initial.stage.core l.stage.core
      × (l.stage ≡ record l.initial.stage { core = l.stage.core; summary = with_events calls l.initial.stage.summary });
  steady : (h : History) → IsSteady g.S.Scorer.score_of g.D.Disk l.initial.stage.core h → IsSteady g.S.Scorer.score_of g.D.Disk l.stage.core h;
  waiting : l.stage.core.waiting ≡ l.initial.stage.core.waiting;
}

abbrev pub decreases-loop-alloc : goal.decreases-loop-alloc
decreases-loop-alloc g l = owed l.stage.core.log
