-- the word, and the store that the first of them names
use Rattle.std.proofs.Common.{◌≡◌, inl, inr, refl, rules, Err}
use Rattle.run_sessions.proofs.BlockCauses.{write_cause}
use Rattle.run_sessions.proofs.commands.write.write.Goals as goal

pub returns-in_err-place-clause-does : goal.returns-in_err-place-clause-does
returns-in_err-place-clause-does g c =
    let failure = c.in_err-place.field-0.0 in
    let is : c.from_residual-in_err-place.result ≡ Err failure = search rules in
    inr (
      c.in_ok-kind.kind,
      c.in_ok-kind.ensures.good,
      inl (record {
        failure = failure;
        why = c.in_err-place.ensures.none;
        outcome_is = is;
        idle = (refl, record { unused = refl; undialled = refl; unwritten = refl });
      }),
    )

pub returns-clause-does : goal.returns-clause-does
returns-clause-does g c = inr (
  c.in_ok-kind.kind,
  c.in_ok-kind.ensures.good,
  inr (c.in_ok-place.place, c.in_ok-place.ensures.found, c.write_to.ensures),
)

pub returns-in_err-place-clause-cause : goal.returns-in_err-place-clause-cause
returns-in_err-place-clause-cause g c =
    let score = g.S.Scorer.score_of in
    write_cause score g.P.Disk.Disk g.N.Link.Link (record {
      said = c.local_refusals_have_causes.ensures.said score;
      closed = c.local_refusals_have_causes.ensures.closed score;
      met = c.refusals_have_causes.ensures.met score;
      first = c.refusals_have_causes.ensures.first score;
    }) c.args.store.now c.args.kind.now _ _ _ _ _ _ refl refl
    (returns-in_err-place-clause-does g c)

pub returns-clause-cause : goal.returns-clause-cause
returns-clause-cause g c =
    let score = g.S.Scorer.score_of in
    write_cause score g.P.Disk.Disk g.N.Link.Link (record {
      said = c.local_refusals_have_causes.ensures.said score;
      closed = c.local_refusals_have_causes.ensures.closed score;
      met = c.refusals_have_causes.ensures.met score;
      first = c.refusals_have_causes.ensures.first score;
    }) c.args.store.now c.args.kind.now _ _ _ _ _ _ refl refl (returns-clause-does g c)
