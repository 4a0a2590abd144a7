-- the rest is shorter
use Rattle.std.proofs.Common.{length}
use Rattle.run_stores.proofs.commands.checkarenas.+first_reported_damage.Given as goal

abbrev pub decreases-first_reported_damage : goal.decreases-first_reported_damage
decreases-first_reported_damage l = length l.reports.now
