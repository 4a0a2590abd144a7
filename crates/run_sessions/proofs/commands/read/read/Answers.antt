-- the words, and the store that the first of them names
use Rattle.std.proofs.Common.{◌≡◌, inl, inr, refl, subst, rules, Err}
use Rattle.run_base.specs.Change.{files_change}
use Rattle.run_base.specs.Places.{CanBeUsed, FindsPlace}
use Rattle.run_base.specs.declared.place.Place.TheVariants.{Memory, At}
use Rattle.run_sessions.proofs.BlockCauses.{read_cause}
use Rattle.run_sessions.proofs.commands.read.read.Goals as goal

pub print_at-requires : goal.print_at-requires
print_at-requires g c = subst CanBeUsed c.in-At.is c.in_ok-find_store.ensures.usable

pub returns-in_err-score-clause-does : goal.returns-in_err-score-clause-does
returns-in_err-score-clause-does g c =
    let failure = c.in_err-score.field-0.0 in
    let is : c.from_residual.result ≡ Err failure = search rules in
    inl (record {
      failure = failure;
      why = inl c.in_err-score.ensures.bad;
      outcome_is = is;
      idle = record { unopened = refl; unused = refl; undialled = refl; unwritten = refl };
    })

pub returns-in_err-kind-clause-does : goal.returns-in_err-kind-clause-does
returns-in_err-kind-clause-does g c =
    let failure = c.in_err-kind.field-0.0 in
    let is : c.from_residual-in_err-kind.result ≡ Err failure = search rules in
    inl (record {
      failure = failure;
      why = inr ((c.in_ok-score.score.0, c.in_ok-score.ensures.good), c.in_err-kind.ensures.bad);
      outcome_is = is;
      idle = record { unopened = refl; unused = refl; undialled = refl; unwritten = refl };
    })

pub returns-in_err-find_store-clause-does : goal.returns-in_err-find_store-clause-does
returns-in_err-find_store-clause-does g c =
    let failure = c.in_err-find_store.field-0.0 in
    let is : c.from_residual-in_err-find_store.result ≡ Err failure = search rules in
    inr (
      c.in_ok-score.score.0,
      c.in_ok-kind.kind,
      record { score_is = c.in_ok-score.ensures.good; type_is = c.in_ok-kind.ensures.good },
      inl (record {
        failure = failure;
        why = c.in_err-find_store.ensures.none;
        outcome_is = is;
        idle = record { unused = refl; undialled = refl; unwritten = refl };
      }),
    )

pub returns-in-Memory-clause-does : goal.returns-in-Memory-clause-does
returns-in-Memory-clause-does g c = inr (
  c.in_ok-score.score.0,
  c.in_ok-kind.kind,
  record { score_is = c.in_ok-score.ensures.good; type_is = c.in_ok-kind.ensures.good },
  inr (
    Memory,
    subst (FindsPlace c.args.store.now
        (files_change g.I.Files c.args.files.now c.find_store.new.files)) c.in-Memory.is
        c.in_ok-find_store.ensures.found,
    (c.print_made.ensures, refl, refl),
  ),
)

pub returns-in-At-clause-does : goal.returns-in-At-clause-does
returns-in-At-clause-does g c = inr (
  c.in_ok-score.score.0,
  c.in_ok-kind.kind,
  record { score_is = c.in_ok-score.ensures.good; type_is = c.in_ok-kind.ensures.good },
  inr (
    At c.in-At.at,
    subst (FindsPlace c.args.store.now
        (files_change g.I.Files c.args.files.now c.find_store.new.files)) c.in-At.is
        c.in_ok-find_store.ensures.found,
    c.print_at.ensures,
  ),
)

pub returns-in_err-find_store-clause-cause : goal.returns-in_err-find_store-clause-cause
returns-in_err-find_store-clause-cause g c =
    let score = g.S.Scorer.score_of in
    read_cause score g.P.Disk.Disk g.N.Link.Link (record {
      said = c.local_refusals_have_causes.ensures.said score;
      closed = c.local_refusals_have_causes.ensures.closed score;
      met = c.refusals_have_causes.ensures.met score;
      first = c.refusals_have_causes.ensures.first score;
    }) c.args.store.now c.args.score.now c.args.kind.now _ _ _ _ _ refl refl
    (returns-in_err-find_store-clause-does g c)

pub returns-in-Memory-clause-cause : goal.returns-in-Memory-clause-cause
returns-in-Memory-clause-cause g c =
    let score = g.S.Scorer.score_of in
    read_cause score g.P.Disk.Disk g.N.Link.Link (record {
      said = c.local_refusals_have_causes.ensures.said score;
      closed = c.local_refusals_have_causes.ensures.closed score;
      met = c.refusals_have_causes.ensures.met score;
      first = c.refusals_have_causes.ensures.first score;
    }) c.args.store.now c.args.score.now c.args.kind.now _ _ _ _ _ refl refl
    (returns-in-Memory-clause-does g c)

pub returns-in-At-clause-cause : goal.returns-in-At-clause-cause
returns-in-At-clause-cause g c =
    let score = g.S.Scorer.score_of in
    read_cause score g.P.Disk.Disk g.N.Link.Link (record {
      said = c.local_refusals_have_causes.ensures.said score;
      closed = c.local_refusals_have_causes.ensures.closed score;
      met = c.refusals_have_causes.ensures.met score;
      first = c.refusals_have_causes.ensures.first score;
    }) c.args.store.now c.args.score.now c.args.kind.now _ _ _ _ _ refl refl
    (returns-in-At-clause-does g c)
