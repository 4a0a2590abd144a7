-- how the session ended, and what follows from that
use Rattle.run_sessions.proofs.SessionCauses.{session_cause}
use Rattle.run_sessions.proofs.commands.session.session.Goals as goal

pub returns-clause-does : goal.returns-clause-does
returns-clause-does g c = record {
  end = c.serve_memory.result;
  serves = c.serve_memory.ensures.serves;
  outcome_is = c.outcome_of.ensures;
  idle = c.serve_memory.ensures.idle;
}

pub returns-clause-cause : goal.returns-clause-cause
returns-clause-cause g c =
    session_cause g.S.Scorer.score_of _ _ _ (returns-clause-does g c)
