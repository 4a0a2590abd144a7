use Rattle.std.specs.Prelude.{Some}
use Rattle.vt_turns.proofs.shared.Turns.raise.Given as goal

abbrev pub ghosts-raise_as : goal.ghosts-raise_as
ghosts-raise_as g a = record { added = Some (a.log.now, a.number, a.shard.now, a.block.now) }
