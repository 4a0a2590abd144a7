use Rattle.std.proofs.Common.{◌≡◌}
use Rattle.std.specs.Prelude.{IsTrue}
use Rattle.vt_log.specs.Log.{setup_of_log}
use Rattle.vt_log.specs.Sound.{IsSoundLog}
use Rattle.vt_model.specs.History.{History}
use Rattle.vt_model.specs.Places.{Setup, bucket_count}
use Rattle.vt_rebuild.specs.Gathering.{HasGathered}
use Rattle.vt_rebuild.proofs.Walks.{IsWalking}
use Rattle.vt_rebuild.proofs.gathering.gather.Given as goal

-- the blocks from the walk's place on are gathered
abbrev pub invariant-loop-tail : goal.invariant-loop-tail
invariant-loop-tail g l = IsWalking g.S.Scorer.score_of g.D.Disk l.fn.log l.log l.tail
    × ((c : Setup) (h : History) → IsTrue g.D.Disk.tells → IsSoundLog g.S.Scorer.score_of g.D.Disk l.fn.log h
    → c.versions ≡ (setup_of_log l.fn.log).versions → bucket_count c ≡ l.total
    → HasGathered g.S.Scorer.score_of c h l.first l.end l.tail.left l.entries.items)

abbrev pub decreases-loop-tail : goal.decreases-loop-tail
decreases-loop-tail g l = l.tail.left
