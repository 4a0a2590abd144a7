use Rattle.vt_arena.proofs.Commits.{arena_gives, rest_gives}
use Rattle.vt_arena.proofs.Stage.{resting}
use Rattle.vt_arena.proofs.laws.crash_gives_old_or_next.Goals as goal

pub returns-clause-crash : goal.returns-clause-crash
returns-clause-crash g c score_of a region old disk = arena_gives score_of a region old _ _

pub returns-clause-rest : goal.returns-clause-rest
returns-clause-rest g c score_of a region old disk rest sound image left =
    rest_gives score_of a region old _ _ sound image left (resting a rest).change
