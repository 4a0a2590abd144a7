use Rattle.vt_empty.proofs.Nothing.{all_stand, log_of}
use Rattle.vt_empty.proofs.laws.formatted_devices_hold_nothing.Goals as goal

pub returns-clause-all : goal.returns-clause-all
returns-clause-all g c = λ score tables devices are.
    all_stand g.D.Disk c.layouts_are_in_order.ensures.arenas c.layouts_are_in_order.ensures.listed score tables devices are

pub returns-clause-log : goal.returns-clause-log
returns-clause-log g c = λ score tables devices tells are.
    log_of g.D.Disk c.layouts_are_in_order.ensures.arenas c.layouts_are_in_order.ensures.listed (λ d. g.met.D.Disk.read_is_image d tells) score tables devices are
