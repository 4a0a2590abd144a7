use Rattle.std.proofs.Common.{◌-◌, ◌*◌}
use Rattle.vt_rehearse.specs.Limits.{AreAtMost}
use Rattle.vt_rehearse.specs.Rehearsal.{MakesAll}
use Rattle.vt_rehearse.specs.Rounds.{rounds_from}
use Rattle.vt_rehearse.specs.Stage.{AreAlike, StageState}
use Rattle.vt_rehearse.proofs.rehearsal.make_rounds.Given as goal

-- so many rounds were made, and what the others make of the stage is what all make of the first one
abbrev pub invariant-loop-made : goal.invariant-loop-made
invariant-loop-made g l = record {
  rest : (last : StageState g.row.D.Denot) → MakesAll g.S.Scorer.score_of g.D.Disk g.D.Crashable.leaves (rounds_from l.draws (l.count - l.made)) l.stage last
      → MakesAll g.S.Scorer.score_of g.D.Disk g.D.Crashable.leaves (rounds_from l.seed l.count) l.initial.stage last;
  alike : AreAlike g.S.Scorer.score_of g.D.Disk l.stage;
  most : AreAtMost (8192 * l.made) l.stage.summary;
}
