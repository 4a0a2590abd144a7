use Rattle.vt_shard.proofs.shard.Shard.read_uncounted.Given as goal

abbrev pub ghosts-read_on : goal.ghosts-read_on
ghosts-read_on g a = record { name = a.blank.name; parts = a.blank.parts }
