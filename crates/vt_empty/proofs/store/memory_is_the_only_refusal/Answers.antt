use Rattle.vt_empty.proofs.Made.{only_memory}
use Rattle.vt_empty.proofs.store.memory_is_the_only_refusal.Goals as goal

pub returns : goal.returns
returns g c = λ bad old new never counts is. only_memory g.D.Disk never bad old new counts is
