use Rattle.vt_arena.proofs.Sound.{arena_elsewhere, arena_read}
use Rattle.vt_arena.proofs.Stage.{seal_sound, stage_sound}
use Rattle.vt_arena.proofs.laws.soundness_is_kept.Goals as goal

pub returns-clause-stage : goal.returns-clause-stage
returns-clause-stage g c score_of a packed region old disk = stage_sound score_of a packed region old _ _

pub returns-clause-seal : goal.returns-clause-seal
returns-clause-seal g c score_of a region old disk rest counts sound = seal_sound score_of a region old _ _ sound rest counts

pub returns-clause-elsewhere : goal.returns-clause-elsewhere
returns-clause-elsewhere g c score_of a region old before after is other apart same changes =
    arena_elsewhere score_of a region _ old is other apart _ _ _ _ same changes

pub returns-clause-read_or_sync : goal.returns-clause-read_or_sync
returns-clause-read_or_sync g c score_of a region old before after same among sound = arena_read score_of a region old _ _ _ _ same among sound
