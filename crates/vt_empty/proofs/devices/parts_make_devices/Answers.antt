use Rattle.vt_core.specs.Mounting.{devices_in, tables_in}
use Rattle.vt_empty.proofs.Made.{all_fresh}
use Rattle.vt_empty.proofs.devices.parts_make_devices.Goals as goal

pub returns : goal.returns
returns g c = λ shape devices part filter told is parts_are filter_is fresh unfilled counts unset.
    all_fresh g.D.Disk shape is devices part filter parts_are filter_is fresh unfilled counts unset
    (λ are score. c.formatted_devices_hold_nothing.ensures.log score (tables_in devices) (devices_in devices) told are)
