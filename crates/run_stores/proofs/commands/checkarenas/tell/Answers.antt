-- the lines are written, or a front of them, whatever is told behind them
use Rattle.std.proofs.Common.{◌∙◌, Ok, Err, ap, refl}
use Rattle.run_base.specs.declared.error.CommandError.TheVariants.{WriteFault}
use Rattle.run_stores.specs.Checkarenas.{damage_outcome}
use Rattle.run_stores.proofs.commands.checkarenas.tell.Goals as goal

pub returns-in-Ok : goal.returns-in-Ok
returns-in-Ok g c = (
  Ok tt,
  (c.in-Ok.ensures.appended, c.in-Ok.ensures.cause),
  c.damage_outcome.ensures ∙ ap damage_outcome c.first_reported_damage.ensures,
)

pub returns-in-Err : goal.returns-in-Err
returns-in-Err g c = (
  Err WriteFault,
  (c.in-Err.ensures.failed, c.in-Err.ensures.cause),
  refl,
)
