use Rattle.vt_bloom.proofs.Saves.{crash_leaves, rest_leaves, crash_covers}
use Rattle.vt_bloom.proofs.laws.crash_gives_old_or_new.Goals as goal

pub returns-clause-crash : goal.returns-clause-crash
returns-clause-crash g c b saved coming sound = crash_leaves b saved coming _ _ sound

pub returns-clause-rest : goal.returns-clause-rest
returns-clause-rest g c b saved coming sound = rest_leaves b saved coming _ _ sound

pub returns-clause-covered : goal.returns-clause-covered
returns-clause-covered g c b saved coming scores sound =
    crash_covers b saved coming _ _ sound scores
