-- the store that is given back is the one that was asked, and its use is ended
use Rattle.std.proofs.Common.{◌≡◌, ◌-◌, ℕ, true, false, sym, ◌∙◌, ap}
use Rattle.vt_core.specs.Core.{history_len}
use Rattle.vt_use.proofs.Uses.{ended, read, use_keeps, used}
use Rattle.vt_use.proofs.using.use_core.Goals.{then-writes, else-writes}
use Rattle.vt_use.proofs.using.use_core.Goals as goal

pub returns-clause-uses : goal.returns-clause-uses
returns-clause-uses g c =
    let score = g.S.Scorer.score_of in
    let disk = g.D.Disk in
    let job = c.args.job.now in
    let ran = rw c.new.ensures at c.run-output.ensures in
    let added = c.saturating_sub-added.ensures
    ∙ ap (λ (n : ℕ). n - c.history_len-before.result) c.history_len.ensures.len
    ∙ ap (λ (n : ℕ). history_len c.if-writes.core - n) c.history_len-before.ensures.len in
    used score disk c.args.now (g.J.Job.writes job) _ c.args.core c.run-output.result.1 ran.0 ran.1
    ran.2 ran.3 c.if-writes.closed c.if-writes.core
    (elim c.if-writes.branch [
      | then-writes w ↦
          let writes : g.J.Job.writes job ≡ true = sym c.writes.ensures ∙ w.if-writes.true in
          ended score disk (g.J.Job.writes job) c.if-writes.closed c.run-output.result.1.core
          c.if-writes.core writes
          (rw (w.closed-is, w.core-is, ← c.into_core-core.ensures.core) w.end-closed.ensures)
      | else-writes w ↦
          let reads : g.J.Job.writes job ≡ false = sym c.writes.ensures ∙ w.if-writes.false in
          read score disk (g.J.Job.writes job) c.if-writes.closed c.run-output.result.1.core
          c.if-writes.core reads w.closed-is (w.core-is ∙ c.into_core-core.ensures.core)
    ]) c.saturating_sub-added.result added

pub returns-clause-waiting : goal.returns-clause-waiting
returns-clause-waiting g c =
    let uses = returns-clause-uses g c in
    (use_keeps g.S.Scorer.score_of g.D.Disk c.args.now (g.J.Job.writes c.args.job.now)
    uses.exchanges c.if-writes.closed c.args.core uses.kept c.if-writes.core uses.asks).waiting
