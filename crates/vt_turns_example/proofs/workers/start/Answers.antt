use Rattle.vt_turns_example.proofs.workers.start.Goals as goal

pub spawn_with-requires : goal.spawn_with-requires
spawn_with-requires g c κs within = (within.0, (within.1, rw c.in-Err.ensures.err (c.requires.free, c.requires.fresh)))
