-- each round is the one that is drawn, and what is left is made of what it leaves
use Rattle.std.proofs.Common.{◌≡◌, ◌+◌, ◌-◌, ◌*◌, ◌<◌, ◌≤◌, ℕ, List, refl, sym, subst, arith}
use Rattle.vt_rehearse.specs.declared.rounds.Round.{Round}
use Rattle.vt_rehearse.specs.declared.summary.Summary.{Summary}
use Rattle.vt_rehearse.specs.Limits.{AreAtMost}
use Rattle.vt_rehearse.specs.Rehearsal.{MakesRound, MakesAll}
use Rattle.vt_rehearse.specs.Rounds.{rounds_from}
use Rattle.vt_rehearse.proofs.Limits.{more, none_counted}
use Rattle.vt_rehearse.proofs.Turns.{no_rounds_left, rounds_left}
use Rattle.vt_rehearse.proofs.rehearsal.make_rounds.Goals as goal

pub loop-made-init : goal.loop-made-init
loop-made-init g c =
    let score = g.S.Scorer.score_of in
    let disk = g.D.Disk in
    let Leaves = g.D.Crashable.leaves in
    let count = c.args.count in
    let none : count - 0 ≡ count = omega arith in
    record {
      rest = λ last x. subst (λ (d : ℕ). MakesAll score disk Leaves (rounds_from d count) c.args.stage last) c.new-draws.ensures
          (subst (λ (n : ℕ). MakesAll score disk Leaves (rounds_from c.new-draws.result n) c.args.stage last) none x);
      alike = c.requires.alike;
      most = subst (λ (s : Summary). AreAtMost (8192 * 0) s) (sym c.requires.none) (none_counted (8192 * 0));
    }

pub loop-made-preserved : goal.loop-made-preserved
loop-made-preserved g c =
    let score = g.S.Scorer.score_of in
    let disk = g.D.Disk in
    let Leaves = g.D.Crashable.leaves in
    let count = c.args.count in
    let made = c.loop-made.made in
    let draws = c.loop-made.draws in
    let old = c.loop-made.stage in
    let new = c.in_ok-stage.stage in
    let lt : made < count = omega arith in
    let drawn = subst (λ (round : Round). MakesRound score disk Leaves round old new) c.draw.ensures.round c.in_ok-stage.ensures.makes in
    record {
      rest = λ last x. c.loop-made.invariant.rest last
          (subst (λ (rounds : List Round). MakesAll score disk Leaves rounds old last) (sym (rounds_left draws count made lt))
          (new, drawn, subst (λ (d : ℕ). MakesAll score disk Leaves (rounds_from d (count - (made + 1))) new last) c.draw.ensures.behind x));
      alike = c.in_ok-stage.ensures.alike;
      most = more (8192 * made + 8192) (8192 * (made + 1)) new.summary (omega arith) (c.in_ok-stage.ensures.grows (8192 * made) c.loop-made.invariant.most);
    }

pub returns-clause-makes : goal.returns-clause-makes
returns-clause-makes g c =
    let stage = c.loop-made.stage in
    let made = c.loop-made.made in
    let le : c.args.count ≤ made = omega arith in
    c.loop-made.invariant.rest stage
    (subst (λ (rounds : List Round). MakesAll g.S.Scorer.score_of g.D.Disk g.D.Crashable.leaves rounds stage stage) (sym (no_rounds_left c.loop-made.draws c.args.count made le)) refl)
