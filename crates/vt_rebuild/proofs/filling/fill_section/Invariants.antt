use Rattle.vt_rebuild.proofs.Fills.{IsFilling, round}
use Rattle.vt_rebuild.proofs.filling.fill_section.Given as goal

-- so many buckets are filled
abbrev pub invariant-loop-i : goal.invariant-loop-i
invariant-loop-i g l = IsFilling g.S.Scorer.score_of g.D.Disk l.i (round l.fn.log l.fn.section l.fn.gathered) (round l.log l.section l.gathered)
