use Rattle.std.proofs.Common.{◌+◌, ◌<◌, ℕ, List, true, sym, ap, subst, arith}
use Rattle.vt_rehearse.specs.declared.summary.Summary.{Summary}
use Rattle.vt_rehearse.specs.Counts.{with_compared}
use Rattle.vt_rehearse.specs.Limits.{AreAtMost}
use Rattle.vt_rehearse.specs.Rehearsal.{LooksUpAll}
use Rattle.vt_rehearse.proofs.Limits.{more, more_compared}
use Rattle.vt_rehearse.proofs.Turns.{all_are, words_left}
use Rattle.vt_rehearse.proofs.reading.look_up_all.Goals as goal

pub loop-word-init : goal.loop-word-init
loop-word-init g c = record {
  rest = λ last x. subst (λ (ws : List ℕ). LooksUpAll g.S.Scorer.score_of g.D.Disk ws c.args.stage.now last) all_are x;
  alike = c.requires.alike;
  most = c.requires.most;
}

pub loop-word-preserved : goal.loop-word-preserved
loop-word-preserved g c =
    let w = c.loop-word.word in
    let lt : w < 64 = omega arith in
    let old = c.loop-word.stage in
    let looks = c.in_ok-look_up.ensures.looks in
    let most = 4611686018427387904 + w in
    record {
      rest = λ last makes. c.loop-word.invariant.rest last
          (subst (λ (ws : List ℕ). LooksUpAll g.S.Scorer.score_of g.D.Disk ws old last) (sym (words_left w lt)) (c.look_up.new.stage, (c.in_ok-look_up.field-0, looks), makes));
      alike = c.in_ok-look_up.ensures.alike;
      most = subst (λ (s : Summary). AreAtMost (4611686018427387904 + (w + 1)) s) (sym (ap (λ s. s.summary) looks.same))
          (more (most + 1) (4611686018427387904 + (w + 1)) (with_compared true old.summary) (omega arith) (more_compared most true old.summary c.loop-word.invariant.most));
    }
