use Rattle.std.proofs.Common.{List, length, ◌∙◌, ap, arith}
use Rattle.vt_core.specs.Opening.{with_log}
use Rattle.vt_maintain.proofs.Backs.{closed_sections}
use Rattle.vt_maintain.proofs.opened.Opened.close.Goals as goal
use Rattle.vt_rebuild.specs.Building.{disks_under}

pub close_sections-requires : goal.close_sections-requires
close_sections-requires g c =
    omega (arith, c.requires.enough, ap (λ (l : List g.row.D.Denot). length l) c.requires.empty)

pub returns-clause-devices : goal.returns-clause-devices
returns-clause-devices g c =
    let it = c.args.self in
    let sections = closed_sections (disks_under it.sections.items) it.room.items
    c.close_sections.result.items c.requires.empty c.close_sections.ensures in
    ap (λ (l : List g.row.D.Denot). with_log l c.close_sections.result.items it.filter)
    c.into_devices.ensures.disks
    ∙ ap (λ (l : List g.row.D.Denot). with_log it.log.disks l it.filter) sections

pub returns-clause-tables : goal.returns-clause-tables
returns-clause-tables g c = c.into_devices.ensures.tables
