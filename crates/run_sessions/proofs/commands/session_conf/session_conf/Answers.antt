-- the configuration that was read, and the session over its store
use Rattle.std.proofs.Common.{◌≡◌, inl, inr, refl, rules, Err}
use Rattle.run_sessions.proofs.SessionCauses.{session_conf_cause}
use Rattle.run_sessions.proofs.commands.session_conf.session_conf.Goals as goal

pub returns-clause-does : goal.returns-clause-does
returns-clause-does g c =
    inr (c.in_ok-conf.conf, c.in_ok-conf.ensures.said, c.serve_conf.ensures)

pub returns-clause-cause : goal.returns-clause-cause
returns-clause-cause g c = session_conf_cause g.S.Scorer.score_of g.P.Disk.Disk
    g.met.P.Disk.Disk.faults_fit c.args.file.now _ _ _ _ _ (returns-clause-does g c)

pub returns-in_err-conf-clause-does : goal.returns-in_err-conf-clause-does
returns-in_err-conf-clause-does g c =
    let failure = c.in_err-conf.field-0.0 in
    let is : c.from_residual.result ≡ Err failure = search rules in
    inl (record {
      failure = failure;
      outcome_is = is;
      none = c.in_err-conf.ensures.refused;
      idle = (record { unread = refl; unwritten = refl }, refl);
    })

pub returns-in_err-conf-clause-cause : goal.returns-in_err-conf-clause-cause
returns-in_err-conf-clause-cause g c = session_conf_cause g.S.Scorer.score_of g.P.Disk.Disk
    g.met.P.Disk.Disk.faults_fit c.args.file.now _ _ _ _ _ (returns-in_err-conf-clause-does g c)
