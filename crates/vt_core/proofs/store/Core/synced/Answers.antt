use Rattle.std.proofs.Common.{◌≤◌, subst}
use Rattle.vt_core.specs.Core.{CoreState}
use Rattle.vt_core.specs.View.{state_of}
use Rattle.vt_core.proofs.store.Core.synced.Goals as goal

pub returns-clause-durable : goal.returns-clause-durable
returns-clause-durable g c = subst (λ (m : CoreState g.row.D.Denot). (state_of c.self.inside).synced ≤ m.log.durable) c.self.view_is c.self.invariant.0.synced
