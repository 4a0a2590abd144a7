use Rattle.sha1.specs.Sha1.{sha1}
use Rattle.vt_rehearse.specs.Memory.{LeavesMemory, memory_disk}
use Rattle.vt_rehearse.proofs.Lived.{looks_up, makes_all}
use Rattle.vt_rehearse.proofs.laws.rehearsals_are_lives.Goals as goal

pub returns-clause-rounds : goal.returns-clause-rounds
returns-clause-rounds c = makes_all sha1 memory_disk LeavesMemory

pub returns-clause-looks : goal.returns-clause-looks
returns-clause-looks c = looks_up sha1 memory_disk LeavesMemory
