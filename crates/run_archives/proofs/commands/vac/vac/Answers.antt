-- what was archived is told, or why nothing was
use Rattle.std.proofs.Common.{inl, inr, refl, []}
use Rattle.run_archives.specs.Skipped.{left_out_lines}
use Rattle.run_base.proofs.SaidBefore.{unsaid}
use Rattle.run_archives.proofs.VacCauses.{vac_cause}
use Rattle.run_archives.proofs.commands.vac.vac.Goals as goal

pub returns-in-Ok-clause-does : goal.returns-in-Ok-clause-does
returns-in-Ok-clause-does g c = (
  left_out_lines c.in-Ok.stored.archived,
  inr (record {
    stored = c.in-Ok.stored;
    archives = c.in-Ok.ensures.stored;
    left_out = refl;
    printed = c.tell.ensures.printed;
  }),
  c.tell.ensures.said,
)

pub returns-in-Err-clause-does : goal.returns-in-Err-clause-does
returns-in-Err-clause-does g c = (
  [],
  inl (record {
    failure = c.in-Err.failure;
    outcome_is = refl;
    none = c.in-Err.ensures.none;
    nothing = refl;
    unwritten = refl;
  }),
  unsaid g.F.Sink _ _ [] refl,
)

pub returns-in-Ok-clause-cause : goal.returns-in-Ok-clause-cause
returns-in-Ok-clause-cause g c =
    let score = g.S.Scorer.score_of in
    vac_cause score g.P.Disk.Disk g.N.Link.Link (record {
      said = c.local_refusals_have_causes.ensures.said score;
      closed = c.local_refusals_have_causes.ensures.closed score;
      met = c.refusals_have_causes.ensures.met score;
      first = c.refusals_have_causes.ensures.first score;
    }) c.args.now c.args.store.now c.args.name.now c.args.size.now _ _ _ _ _ _ _ refl refl
    (returns-in-Ok-clause-does g c).1

pub returns-in-Err-clause-cause : goal.returns-in-Err-clause-cause
returns-in-Err-clause-cause g c =
    let score = g.S.Scorer.score_of in
    vac_cause score g.P.Disk.Disk g.N.Link.Link (record {
      said = c.local_refusals_have_causes.ensures.said score;
      closed = c.local_refusals_have_causes.ensures.closed score;
      met = c.refusals_have_causes.ensures.met score;
      first = c.refusals_have_causes.ensures.first score;
    }) c.args.now c.args.store.now c.args.name.now c.args.size.now _ _ _ _ _ _ _ refl refl
    (returns-in-Err-clause-does g c).1
