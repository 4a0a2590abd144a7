-- the word, and the store that the other one names
use Rattle.std.proofs.Common.{◌≡◌, inl, inr, refl, subst, rules, Err}
use Rattle.run_base.specs.Change.{files_change}
use Rattle.run_base.specs.Places.{CanBeUsed, FindsPlace}
use Rattle.run_base.specs.declared.place.Place.TheVariants.{Memory, At}
use Rattle.run_archives.proofs.ViewCauses.{view_caused}
use Rattle.run_archives.proofs.commands.vacfs.vacfs.Goals as goal

pub view_at-requires : goal.view_at-requires
view_at-requires g c = subst CanBeUsed c.in-At.is c.in_ok-find_store.ensures.usable

pub returns-in_err-score-clause-does : goal.returns-in_err-score-clause-does
returns-in_err-score-clause-does g c =
    let failure = c.in_err-score.field-0.0 in
    let is : c.from_residual.result ≡ Err failure = search rules in
    inl (record {
      failure = failure;
      why = c.in_err-score.ensures.bad;
      outcome_is = is;
      idle = (refl, record { unopened = refl; unused = refl; undialled = refl; unwritten = refl });
    })

pub returns-in_err-find_store-clause-does : goal.returns-in_err-find_store-clause-does
returns-in_err-find_store-clause-does g c =
    let failure = c.in_err-find_store.field-0.0 in
    let is : c.from_residual-in_err-find_store.result ≡ Err failure = search rules in
    inr (
      c.in_ok-score.score.0,
      c.in_ok-score.ensures.good,
      inl (record {
        failure = failure;
        why = c.in_err-find_store.ensures.none;
        outcome_is = is;
        idle = (refl, record { unused = refl; undialled = refl; unwritten = refl });
      }),
    )

pub returns-in-Memory-clause-does : goal.returns-in-Memory-clause-does
returns-in-Memory-clause-does g c = inr (
  c.in_ok-score.score.0,
  c.in_ok-score.ensures.good,
  inr (
    Memory,
    subst (FindsPlace c.args.store.now
        (files_change g.I.Files c.args.files.now c.find_store.new.files)) c.in-Memory.is
        c.in_ok-find_store.ensures.found,
    record {
      why = c.no_archive.ensures;
      idle = (refl, record { unused = refl; undialled = refl; unwritten = refl });
    },
  ),
)

pub returns-in-At-clause-does : goal.returns-in-At-clause-does
returns-in-At-clause-does g c = inr (
  c.in_ok-score.score.0,
  c.in_ok-score.ensures.good,
  inr (
    At c.in-At.at,
    subst (FindsPlace c.args.store.now
        (files_change g.I.Files c.args.files.now c.find_store.new.files)) c.in-At.is
        c.in_ok-find_store.ensures.found,
    c.view_at.ensures,
  ),
)

pub returns-in_err-find_store-clause-cause : goal.returns-in_err-find_store-clause-cause
returns-in_err-find_store-clause-cause g c =
    let score = g.S.Scorer.score_of in
    view_caused score g.P.Disk.Disk g.N.Link.Link (record {
      said = c.local_refusals_have_causes.ensures.said score;
      closed = c.local_refusals_have_causes.ensures.closed score;
      met = c.refusals_have_causes.ensures.met score;
      first = c.refusals_have_causes.ensures.first score;
    }) c.args.store.now _ _ _ _ _ _ refl refl (c.failures_have_causes.ensures score)
    (c.remote_failures_have_causes.ensures score) c.args.score.now
    (returns-in_err-find_store-clause-does g c)

pub returns-in-Memory-clause-cause : goal.returns-in-Memory-clause-cause
returns-in-Memory-clause-cause g c =
    let score = g.S.Scorer.score_of in
    view_caused score g.P.Disk.Disk g.N.Link.Link (record {
      said = c.local_refusals_have_causes.ensures.said score;
      closed = c.local_refusals_have_causes.ensures.closed score;
      met = c.refusals_have_causes.ensures.met score;
      first = c.refusals_have_causes.ensures.first score;
    }) c.args.store.now _ _ _ _ _ _ refl refl (c.failures_have_causes.ensures score)
    (c.remote_failures_have_causes.ensures score) c.args.score.now
    (returns-in-Memory-clause-does g c)

pub returns-in-At-clause-cause : goal.returns-in-At-clause-cause
returns-in-At-clause-cause g c =
    let score = g.S.Scorer.score_of in
    view_caused score g.P.Disk.Disk g.N.Link.Link (record {
      said = c.local_refusals_have_causes.ensures.said score;
      closed = c.local_refusals_have_causes.ensures.closed score;
      met = c.refusals_have_causes.ensures.met score;
      first = c.refusals_have_causes.ensures.first score;
    }) c.args.store.now _ _ _ _ _ _ refl refl (c.failures_have_causes.ensures score)
    (c.remote_failures_have_causes.ensures score) c.args.score.now
    (returns-in-At-clause-does g c)
