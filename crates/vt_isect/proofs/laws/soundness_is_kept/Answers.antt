use Rattle.vt_isect.proofs.Fills.{less_sound, synced_sound}
use Rattle.vt_isect.proofs.IsSoundSection.{idle_sound}
use Rattle.vt_isect.proofs.laws.soundness_is_kept.Goals as goal

pub returns-clause-read_or_sync : goal.returns-clause-read_or_sync
returns-clause-read_or_sync g c = λ t known after most reads sound. synced_sound t after known _ _ _ _ reads.bytes reads.images sound

pub returns-clause-forget : goal.returns-clause-forget
returns-clause-forget g c = λ t known knows less sound. less_sound t known knows _ _ less sound

pub returns-clause-idle : goal.returns-clause-idle
returns-clause-idle g c = λ t known rest sound. idle_sound t known _ _ rest sound
