-- a session over the store in memory
use Rattle.std.proofs.Common.{◌∙◌, inl, refl, sym}
use Rattle.std.proofs.lemmas.Slice.Eq.{bytes_eq-Decides}
use Rattle.run_base.specs.Places.{in_memory}
use Rattle.run_sessions.proofs.SessionCauses.{session_at_cause}
use Rattle.run_sessions.proofs.commands.session_at.session_at.Goals as goal

pub returns-then-is_in_memory-clause-does : goal.returns-then-is_in_memory-clause-does
returns-then-is_in_memory-clause-does g c = inl (
  (bytes_eq-Decides c.args.store.now in_memory).0
      (sym c.is_in_memory.ensures ∙ c.if-is_in_memory.true),
  c.session.ensures.does,
  refl,
  refl,
)

pub returns-then-is_in_memory-clause-cause : goal.returns-then-is_in_memory-clause-cause
returns-then-is_in_memory-clause-cause g c = session_at_cause g.S.Scorer.score_of g.P.Disk.Disk
    g.met.P.Disk.Disk.faults_fit c.args.store.now _ _ _ _ _
    (returns-then-is_in_memory-clause-does g c)
