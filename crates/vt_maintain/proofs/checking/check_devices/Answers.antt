use Rattle.std.proofs.Common.{Option, ◌∙◌, ap}
use Rattle.vt_core.specs.Opening.{with_log}
use Rattle.vt_maintain.proofs.Kept.{checks, ends}
use Rattle.vt_maintain.proofs.checking.check_devices.Goals as goal
use Rattle.vt_rebuild.specs.Building.{disks_under}

pub returns-in-Ok-check : goal.returns-in-Ok-check
returns-in-Ok-check g c =
    let it = c.in-Ok.opened in
    let e = c.in-Ok-check.ensures in
    let close = c.close.ensures in
    let is = close.devices ∙ ap (λ (o : Option g.row.D.Denot). with_log c.check.new.log.disks
    (disks_under it.sections.items) o) c.in-Ok.ensures.filter in
    checks g.S.Scorer.score_of g.D.Disk c.args.devices it.log it.sections.items
    c.in-Ok.ensures.opened c.in-Ok.ensures.in_use c.check.new.log c.close.result e.reads is
    close.tables (close.filter ∙ c.in-Ok.ensures.filter) c.in-Ok-check.report e.reports e.told
    e.faults

pub returns-in-Err-check : goal.returns-in-Err-check
returns-in-Err-check g c =
    let it = c.in-Ok.opened in
    let e = c.in-Err-check.ensures in
    let close = c.close-in-Err-check.ensures in
    let is = close.devices ∙ ap (λ (o : Option g.row.D.Denot). with_log c.check.new.log.disks
    (disks_under it.sections.items) o) c.in-Ok.ensures.filter in
    ends g.S.Scorer.score_of g.D.Disk c.args.devices it.log it.sections.items
    c.in-Ok.ensures.opened c.in-Ok.ensures.in_use c.check.new.log c.close-in-Err-check.result
    e.reads is close.tables (close.filter ∙ c.in-Ok.ensures.filter) c.in-Err-check.bad e.faults
