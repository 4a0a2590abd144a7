-- what the rounds that were asked for came to
use Rattle.std.proofs.Common.{refl, inl, inr}
use Rattle.run_stores.proofs.commands.rehearse.rehearse.Goals as goal

pub returns-in-Ok-clause-does : goal.returns-in-Ok-clause-does
returns-in-Ok-clause-does g c = inr (
  c.in_ok-seed.seed,
  c.in_ok-seed.rounds,
  c.in_ok-seed.ensures.good,
  inl (c.in-Ok.summary, c.in-Ok.ensures.rehearsal, c.in-Ok.ensures.adds_up, c.print_summary.ensures),
)

pub returns-clause-does : goal.returns-clause-does
returns-clause-does g c = inr (
  c.in_ok-seed.seed,
  c.in_ok-seed.rounds,
  c.in_ok-seed.ensures.good,
  inr (refl, refl),
)
