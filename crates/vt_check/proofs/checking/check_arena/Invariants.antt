use Rattle.std.proofs.Common.{◌-◌}
use Rattle.vt_check.proofs.Checks.{IsChecking}
use Rattle.vt_check.proofs.checking.check_arena.Given as goal

-- the clumps so far were followed
abbrev pub invariant-loop-followed : goal.invariant-loop-followed
invariant-loop-followed g l = IsChecking g.S.Scorer.score_of g.D.Disk l.fn.log l.log l.arena l.head l.followed

abbrev pub decreases-loop-followed : goal.decreases-loop-followed
decreases-loop-followed g l = l.head.clumps - l.followed.clumps
