-- the configuration that was read, and its arenas
use Rattle.std.proofs.Common.{◌≡◌, inl, inr, rules, Err}
use Rattle.run_stores.proofs.UpkeepCauses.{check_cause}
use Rattle.run_stores.proofs.commands.checkarenas.checkarenas.Goals as goal

pub returns-clause-does : goal.returns-clause-does
returns-clause-does g c =
    inr (c.in_ok-conf.conf, c.in_ok-conf.ensures.said, c.check_conf.ensures)

pub returns-clause-cause : goal.returns-clause-cause
returns-clause-cause g c = check_cause g.S.Scorer.score_of g.P.Disk.Disk c.args.file.now _ _ _ _
    (returns-clause-does g c)

pub returns-in_err-conf-clause-does : goal.returns-in_err-conf-clause-does
returns-in_err-conf-clause-does g c =
    let failure = c.in_err-conf.field-0.0 in
    let is : c.from_residual.result ≡ Err failure = search rules in
    inl (record {
      failure = failure;
      outcome_is = is;
      none = c.in_err-conf.ensures.refused;
      idle = search rules;
    })

pub returns-in_err-conf-clause-cause : goal.returns-in_err-conf-clause-cause
returns-in_err-conf-clause-cause g c = check_cause g.S.Scorer.score_of g.P.Disk.Disk
    c.args.file.now _ _ _ _ (returns-in_err-conf-clause-does g c)
