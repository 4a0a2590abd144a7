use Rattle.vt_shard.proofs.Mounted.{mounted_sound, well_mounted}
use Rattle.vt_shard.proofs.mounting.mount.Goals as goal

pub invariant_of-result : goal.invariant_of-result
invariant_of-result g c =
    rw (c.in-Ok.ensures.index, c.in-Ok.ensures.lumps, c.in-Ok.ensures.waiting, c.buckets.ensures, (c.idle.ensures.rest c.requires.rest).1)
    (well_mounted c.args.section c.args.sizes.lumps c.args.sizes.clean _ c.requires.rest c.in-Ok.ensures.list)

pub returns-in-Ok-clause-sound : goal.returns-in-Ok-clause-sound
returns-in-Ok-clause-sound g c = λ score setup h known told holds agrees live.
    rw (c.in-Ok.ensures.index, c.in-Ok.ensures.lumps, (c.idle.ensures.rest c.requires.rest).1)
    (mounted_sound score setup g.D.Disk h c.args.section known c.args.sizes.lumps c.args.sizes.clean c.requires.rest holds agrees live
    (c.is_changing-changing.ensures.idle c.requires.rest).next)
