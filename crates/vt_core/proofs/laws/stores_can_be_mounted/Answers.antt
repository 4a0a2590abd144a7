use Rattle.vt_core.proofs.Read.{sound_stands, durable_stand, sound_log}
use Rattle.vt_core.proofs.laws.stores_can_be_mounted.Goals as goal

pub returns-clause-prefix : goal.returns-clause-prefix
returns-clause-prefix g c = λ score k h sound. sound_stands g.D.Disk c.crash_gives_a_prefix.ensures.prefix score k h sound

pub returns-clause-all : goal.returns-clause-all
returns-clause-all g c = λ score k h sound all. durable_stand g.D.Disk c.crash_gives_a_prefix.ensures.prefix score k h sound all

pub returns-clause-log : goal.returns-clause-log
returns-clause-log g c = λ score k h tells sound.
    sound_log g.D.Disk c.crash_gives_a_prefix.ensures.prefix (λ d. g.met.D.Disk.read_is_image d tells) score k h sound
