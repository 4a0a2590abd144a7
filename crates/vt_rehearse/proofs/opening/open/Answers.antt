use Rattle.vt_core.specs.Files.{all_of}
use Rattle.vt_core.specs.Mounting.{devices_in}
use Rattle.vt_rehearse.proofs.Stepping.{only_refusal}
use Rattle.vt_rehearse.proofs.opening.open.Goals as goal

pub unreachable-requires : goal.unreachable-requires
unreachable-requires g c =
    let can = c.requires.log in
    let is = c.in-Err.ensures.found can.c can.h can.g can.base c.requires.memory.tells can.log can.limits in
    c.in_default.not-NoMemory
    (only_refusal g.D.Disk c.requires.memory.never c.in-Err.bad (all_of (devices_in c.args.devices)) (all_of (devices_in c.in-Err.field-0-1)) c.in-Err.ensures.refused.counts is)
