use Rattle.std.proofs.Common.{◌≤◌, ◌∙◌, ap, subst, arith}
use Rattle.vt_log.specs.Log.{front}
use Rattle.vt_core.specs.Core.{CoreState}
use Rattle.vt_core.proofs.store.Core.history_len.Goals as goal

pub returns-clause-sound : goal.returns-clause-sound
returns-clause-sound g c = λ h sound. c.front.ensures.front ∙ ap (λ (m : CoreState g.row.D.Denot). front m.log) c.self.view_is ∙ sound.log.front

pub returns-clause-durable : goal.returns-clause-durable
returns-clause-durable g c = subst (λ (m : CoreState g.row.D.Denot). m.log.durable ≤ c.front.result) c.self.view_is (omega (arith, c.front.ensures.front))
