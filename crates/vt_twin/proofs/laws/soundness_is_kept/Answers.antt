use Rattle.vt_disk.specs.Disk.{Touches}
use Rattle.vt_disk.specs.Region.{Inside}
use Rattle.vt_twin.proofs.Sound.{sound_elsewhere}
use Rattle.vt_twin.proofs.laws.soundness_is_kept.Goals as goal

pub returns-clause-write : goal.returns-clause-write
returns-clause-write g c t region old before after room start n apart = sound_elsewhere t region _ room (Touches start n) apart old _ _ _ _

pub returns-clause-elsewhere : goal.returns-clause-elsewhere
returns-clause-elsewhere g c t region old before after room other apart = sound_elsewhere t region _ room (Inside other) apart old _ _ _ _
