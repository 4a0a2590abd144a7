use Rattle.vt_check.proofs.Reports.{IsReporting}
use Rattle.vt_check.proofs.checking.check.Given as goal

-- the arenas so far have their reports
abbrev pub invariant-loop-number : goal.invariant-loop-number
invariant-loop-number g l = IsReporting g.S.Scorer.score_of g.D.Disk l.fn.log l.log l.number l.arenas.items
