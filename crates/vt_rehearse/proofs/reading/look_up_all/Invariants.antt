use Rattle.std.proofs.Common.{◌+◌, ◌-◌}
use Rattle.std.specs.List.{range_with_len}
use Rattle.vt_rehearse.specs.Limits.{AreAtMost, ROUNDS_MOST}
use Rattle.vt_rehearse.specs.Rehearsal.{LooksUpAll}
use Rattle.vt_rehearse.specs.Stage.{AreAlike, StageState}
use Rattle.vt_rehearse.specs.Words.{all_words}
use Rattle.vt_rehearse.proofs.reading.look_up_all.Given as goal

-- so many words were looked up
abbrev pub invariant-loop-word : goal.invariant-loop-word
invariant-loop-word g l = record {
  rest : (last : StageState g.row.D.Denot) → LooksUpAll g.S.Scorer.score_of g.D.Disk (range_with_len l.word (64 - l.word)) l.stage last
      → LooksUpAll g.S.Scorer.score_of g.D.Disk all_words l.initial.stage last;
  alike : AreAlike g.S.Scorer.score_of g.D.Disk l.stage;
  most : AreAtMost (ROUNDS_MOST + l.word) l.stage.summary;
}
