use Rattle.std.specs.Prelude.{IsTrue}
use Rattle.vt_maintain.proofs.Rebuilt.{can_be_opened}
use Rattle.vt_maintain.proofs.laws.rebuilt_stores_can_be_opened.Goals as goal

pub returns : goal.returns
returns g c = λ score tells_ conf old new faults faults' blocks tables devices back setup sections
    more base told tells uses some under under_back are log setup_is versions legal filter_is.
    can_be_opened g.D.Disk score (IsTrue tells_) conf told tells
    c.partitions_are_told_apart.ensures.one (λ d. g.met.D.Disk.read_is_image d tells)
    (λ d file image. (g.met.D.Disk.images_fit d file image).1) blocks old new some uses.0 devices back
    under under_back tables setup sections more base are log setup_is versions legal filter_is
