use Rattle.std.proofs.Common.{length}
use Rattle.vt_model.specs.History.{History}
use Rattle.vt_log.specs.Committing.{Stages}
use Rattle.vt_log.specs.Sound.{IsSoundLog}
use Rattle.vt_log.proofs.log.Log.stage_all.Given as goal

-- some blocks are staged
abbrev pub invariant-loop : goal.invariant-loop
invariant-loop g l = record {
  stages : Stages l.fn.self l.self;
  sound : (h : History) → IsSoundLog g.S.Scorer.score_of g.D.Disk l.fn.self h
      → IsSoundLog g.S.Scorer.score_of g.D.Disk l.self h;
}

-- fewer wait
abbrev pub decreases-loop : goal.decreases-loop
decreases-loop g l = length l.self.queue.waiting
