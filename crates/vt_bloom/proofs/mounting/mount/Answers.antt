use Rattle.vt_bloom.proofs.RefusesMount.{refused_saved}
use Rattle.vt_bloom.proofs.Frames.{saved_unique}
use Rattle.vt_bloom.proofs.mounting.mount.Goals as goal

pub returns-in-Ok-clause-all_are_found : goal.returns-in-Ok-clause-all_are_found
returns-in-Ok-clause-all_are_found g c saved told is =
    saved_unique _ saved _ (c.in-Ok.ensures.found told) is

pub returns-in-Err-clause-all_are_found : goal.returns-in-Err-clause-all_are_found
returns-in-Err-clause-all_are_found g c saved told is =
    refused_saved saved _ _ c.in-Err.bad
    (g.met.D.Disk.images_fit _ _ (g.met.D.Disk.read_is_image _ told)).0 is
    (c.in-Err.ensures.refused told)
