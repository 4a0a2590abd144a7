use Rattle.std.proofs.Common.{refl}
use Rattle.vt_empty.proofs.laws.memory_never_fails.Goals as goal

pub returns : goal.returns
returns c = λ disk. refl
