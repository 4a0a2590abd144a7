-- A commit is staged, and one of its calls is made.
use Rattle.std.proofs.Common.{refl, sym, ◌∙◌, ap, subst, arith}
use Rattle.std.proofs.lemmas.Grind.{common_steps}
use Rattle.vt_log.specs.Log.{LogState}
use Rattle.vt_log.specs.Whole.{IsWholeLog}
use Rattle.vt_log.proofs.Advances.{step_stopped, step_idle, step_made, stand_as_prepared, within_as_prepared}
use Rattle.vt_log.proofs.CallsArena.{rest_stands}
use Rattle.vt_log.proofs.log.Log.advance.Goals as goal

pub returns-in-Some-clause-crash : goal.returns-in-Some-clause-crash
returns-in-Some-clause-crash g c h tells sound files left = rest_stands _ _ c.args.self.now h files _ sound refl left

pub returns-in-Some-clause-step : goal.returns-in-Some-clause-step
returns-in-Some-clause-step g c =
    step_stopped g.D.Disk c.args.self.now _ (sym (ap (λ (l : LogState _). l.stopped) c.self.view_is) ∙ c.in-Some.is)

pub returns-then-is_empty-clause-crash : goal.returns-then-is_empty-clause-crash
returns-then-is_empty-clause-crash g c h tells sound files left = rest_stands _ _ c.args.self.now h files _ sound refl left

pub returns-then-is_empty-clause-step : goal.returns-then-is_empty-clause-step
returns-then-is_empty-clause-step g c =
    step_idle g.D.Disk c.args.self.now (subst (IsWholeLog _) c.self.view_is c.self.invariant) (grind (arith, common_steps)) (grind (arith, common_steps))

pub returns-clause-sound : goal.returns-clause-sound
returns-clause-sound g c h tells sound = c.make_call.ensures.sound h tells (c.stage_commit.ensures.sound h sound)

pub returns-clause-crash : goal.returns-clause-crash
returns-clause-crash g c h tells sound files left =
    stand_as_prepared _ c.args.self.now c.stage_commit.new.self files h c.stage_commit.ensures.prepares
    (c.make_call.ensures.crash h tells (c.stage_commit.ensures.sound h sound) files (within_as_prepared _ c.args.self.now c.stage_commit.new.self _ files c.stage_commit.ensures.prepares left))

pub returns-clause-step : goal.returns-clause-step
returns-clause-step g c =
    step_made g.S.Scorer.score_of g.D.Disk c.make_call.result c.args.self.now c.stage_commit.new.self c.make_call.new.self
    (subst (IsWholeLog _) c.self.view_is c.self.invariant) (grind (arith, common_steps)) (grind (arith, common_steps)) c.stage_commit.ensures.prepares c.make_call.ensures
