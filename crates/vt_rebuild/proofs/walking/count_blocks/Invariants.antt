use Rattle.std.proofs.Common.{◌≡◌, length, drop}
use Rattle.std.specs.Prelude.{IsTrue}
use Rattle.vt_log.specs.Sound.{IsSoundLog}
use Rattle.vt_model.specs.History.{History}
use Rattle.vt_rebuild.specs.Walking.{AreCounted}
use Rattle.vt_rebuild.proofs.Walks.{IsWalking}
use Rattle.vt_rebuild.proofs.walking.count_blocks.Given as goal

-- the blocks from the walk's place on are counted
abbrev pub invariant-loop-tail : goal.invariant-loop-tail
invariant-loop-tail g l = IsWalking g.S.Scorer.score_of g.D.Disk l.fn.log l.log l.tail
    × (length l.counts ≡ l.total)
    × ((h : History) → IsTrue g.D.Disk.tells → IsSoundLog g.S.Scorer.score_of g.D.Disk l.fn.log h
    → AreCounted g.S.Scorer.score_of l.total (drop l.tail.left h) l.counts)

abbrev pub decreases-loop-tail : goal.decreases-loop-tail
decreases-loop-tail g l = l.tail.left
